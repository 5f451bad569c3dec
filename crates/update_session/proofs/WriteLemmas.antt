-- The file of a root that answers the record is that of a fresh build.
use Rattle.std.proofs.Common.{◌≡◌, ℕ, ◌+◌, ◌^◌, ◌≤◌, Bool, true, false, cond, ltb, leb, List}
use Rattle.std.proofs.Common.{length, Option, Some, None, refl, sym, ap, ◌∙◌, subst, arith}
use Rattle.std.specs.Prelude.{option_map, option_and_then}
use Rattle.std.proofs.lemmas.Bool.Decides.{nat_tests}
use Rattle.geo_terms.specs.Numbers.{place_at}
use Rattle.geo_terms.specs.PlaceForm.{PlaceParts}
use Rattle.geo_terms.specs.Precedence.{record_at}
use Rattle.geo_terms.specs.Sources.{InForce}
use Rattle.mmdb_file.specs.FileImage.{file, file_of as image_of, file_with, file_nodes}
use Rattle.mmdb_file.specs.FileImage.{file_section, file_end, node_records, records_end}
use Rattle.mmdb_file.specs.FileImage.{same_answer, section, record_tree, fresh}
use Rattle.mmdb_file.specs.declared.fault.FileFault as file_fault
use Rattle.mmdb_file.specs.declared.fault.FileFault.TheVariants as file_faults
use Rattle.mmdb_tree.specs.Nodes.{smallest, record_size}
use Rattle.mmdb_tree.specs.declared.bits.Bits.{Bits}
use Rattle.mmdb_tree.specs.declared.bits.Bits.TheVariants.{B24, B28, B32}
use Rattle.trie_core.specs.declared.node.Pair.{Pair}
use Rattle.trie_core.specs.declared.node.Root.{Root}
use Rattle.trie_core.specs.Store.{leaf_at}
use Rattle.trie_core.specs.Tree.{Tree}
use Rattle.update_session.specs.Faults.{emit_fault}
use Rattle.update_session.specs.declared.fault.EmitFault.TheVariants as emit_faults
use Rattle.update_session.specs.Kept.{Answers}
use Rattle.update_session.specs.State.{State, FileValue, node_count, section_length, is_too_large}
use Rattle.update_session.specs.State.{file_of}

-- the leaf of a root that answers the record is the number of the record
pub leaf_is : (pairs : List Pair) (places : List PlaceParts) (root : Root) (s : InForce) (a k : ℕ)
    → Answers pairs places root (record_at s a) a → leaf_at pairs root a ≡ Some k
    → (k ≤ length places) × (place_at places k ≡ record_at s a)
leaf_is pairs places root s a k h is =
    let both : Some h.leaf ≡ Some k = sym h.is ∙ is in
    let same : h.leaf ≡ k = cc in
    subst (λ (n : ℕ). (n ≤ length places) × (place_at places n ≡ record_at s a)) same
    (h.few, h.place)

-- the numbers of a file end where nodes, 16 bytes and the section do
end_is : (t : Tree (Option PlaceParts)) → file_end t ≡ file_nodes t + 16 + length (file_section t)
unfolding file_end file_nodes file_section records_end
end_is t = refl

-- a file with its counts, where a size of records was found
abbrev with_bits : Tree (Option PlaceParts) → (epoch : ℕ) (name : List ℕ) → Option Bits
    → Option FileValue
with_bits t epoch name found =
    option_and_then (λ b. option_map (λ bytes. record {
      bytes = bytes;
      nodes = file_nodes t;
      section = length (file_section t);
      bits = record_size b;
    }) (file t epoch name)) found

-- the file of the record's tree with its counts is that of a fresh build
pub file_is : (s : InForce) (t : Tree (Option PlaceParts)) (epoch : ℕ) (name bytes : List ℕ)
    (nodes section bits : ℕ) → t ≡ record_tree s
    → file t epoch name ≡ Some bytes → nodes ≡ file_nodes t
    → section ≡ length (file_section t) → option_map record_size (smallest (file_end t)) ≡ Some bits
    → file_of (record { sources = s; epoch = epoch; name = name })
    ≡ Some (record { bytes = bytes; nodes = nodes; section = section; bits = bits })
unfolding file_of node_count section_length fresh
file_is s t epoch name bytes nodes section bits tree written nodes-is section-is bits-is =
    ap (λ (t : Tree (Option PlaceParts)). with_bits t epoch name
    (smallest (file_nodes t + 16 + length (file_section t)))) (sym tree)
    ∙ ap (λ (n : ℕ). with_bits t epoch name (smallest n)) (sym (end_is t))
    ∙ by (smallest (file_end t)) bits-is
  where
    by : (found : Option Bits) → option_map record_size found ≡ Some bits → with_bits t epoch name
        found ≡ Some (record { bytes = bytes; nodes = nodes; section = section; bits = bits })
    by None none = absurd (let e : None ≡ Some bits = none in cc)
    by (Some b) some =
        let size : record_size b ≡ bits = (let e : Some (record_size b) ≡ Some bits = some in cc) in
        ap (option_map (λ (bytes : List ℕ). record {
          bytes = bytes;
          nodes = file_nodes t;
          section = length (file_section t);
          bits = record_size b;
        })) written
        ∙ (λ i. Some (record {
          bytes = bytes;
          nodes = (sym nodes-is) i;
          section = (sym section-is) i;
          bits = size i;
        }))

-- where no size of records holds a number, it is at least 2 ^ 32
none_holds : (n : ℕ) → smallest n ≡ None → leb (2 ^ 32) n ≡ true
none_holds n = by (ltb n (2 ^ 24)) (ltb n (2 ^ 28)) (ltb n (2 ^ 32)) refl
  where
    by : (x y z : Bool)
        → ltb n (2 ^ 32) ≡ z → cond x (Some B24) (cond y (Some B28) (cond z (Some B32) None)) ≡ None
        → leb (2 ^ 32) n ≡ true
    by true y z is none = absurd (let e : Some B24 ≡ None = none in cc)
    by false true z is none = absurd (let e : Some B28 ≡ None = none in cc)
    by false false true is none = absurd (let e : Some B32 ≡ None = none in cc)
    by false false false is none = grind (arith, nat_tests)

pub is_too_large-from_none : (s : InForce) (t : Tree (Option PlaceParts)) (epoch : ℕ)
    (name : List ℕ) → t ≡ record_tree s → smallest (file_end t) ≡ None
    → is_too_large (record { sources = s; epoch = epoch; name = name }) ≡ true
unfolding is_too_large node_count section_length
is_too_large-from_none s t epoch name tree none =
    none_holds (file_nodes (record_tree s) + 16 + length (file_section (record_tree s)))
    (ap smallest (sym (end_is (record_tree s)) ∙ ap file_end (sym tree)) ∙ none)

-- a number from 2 ^ 32 on is held by no size
all_hold : (n : ℕ) → leb (2 ^ 32) n ≡ true → smallest n ≡ None
all_hold n large =
    let over_24 : ltb n (2 ^ 24) ≡ false = grind (arith, nat_tests) in
    let over_28 : ltb n (2 ^ 28) ≡ false = grind (arith, nat_tests) in
    let over_32 : ltb n (2 ^ 32) ≡ false = grind (arith, nat_tests) in
    rw (over_24, over_28, over_32) refl

-- there is a file where a size of records was found
file_there : (t : Tree (Option PlaceParts)) (epoch : ℕ) (name : List ℕ) (b : Bits)
    → smallest (file_end t) ≡ Some b → (bytes : List ℕ) × (file t epoch name ≡ Some bytes)
unfolding file file_with file_end
file_there t epoch name b is = (
  image_of b (node_records same_answer (λ answer. answer) t)
      (section same_answer (λ answer. answer) t).bytes epoch name,
  ap (option_map (λ (bits : Bits). image_of bits (node_records same_answer (λ answer. answer) t)
      (section same_answer (λ answer. answer) t).bytes epoch name)) is,
)

-- how far the numbers of a state's file go
abbrev end_of : State → ℕ
end_of s = file_nodes (record_tree s.sources) + 16 + length (file_section (record_tree s.sources))

abbrev counted : Tree (Option PlaceParts) → Bits → List ℕ → FileValue
counted t b bytes = record {
  bytes = bytes;
  nodes = file_nodes t;
  section = length (file_section t);
  bits = record_size b;
}

some_file : (s : State) (b : Bits) → smallest (end_of s) ≡ Some b
    → with_bits (record_tree s.sources) s.epoch s.name (Some b) ≡ None → ⊥
some_file s b is none =
    let there = file_there (record_tree s.sources) s.epoch s.name b
    (ap smallest (end_is (record_tree s.sources)) ∙ is) in
    let e : Some (counted (record_tree s.sources) b there.0) ≡ None =
    sym (ap (option_map (counted (record_tree s.sources) b)) there.1) ∙ none in
    (cc)

-- there is no file exactly where it is too large
pub too_large_means_no_file : (s : State)
    → (is_too_large s ≡ true → file_of s ≡ None) × (file_of s ≡ None → is_too_large s ≡ true)
unfolding is_too_large file_of node_count section_length fresh
too_large_means_no_file s = (
  λ large. ap (with_bits (record_tree s.sources) s.epoch s.name) (all_hold (end_of s) large),
  λ none. by (smallest (end_of s)) refl none,
)
  where
    by : (found : Option Bits) → smallest (end_of s) ≡ found
        → with_bits (record_tree s.sources) s.epoch s.name found ≡ None
        → leb (2 ^ 32) (end_of s) ≡ true
    by None is none = none_holds (end_of s) is
    by (Some b) is none = absurd (some_file s b is none)

-- a file that is too large is the only cause of an emit that is
pub too_large_file : (why : file_fault.FileFault) → emit_fault why ≡ emit_faults.TooLarge
    → why ≡ file_faults.TooLarge
too_large_file file_faults.TooLarge e = refl
too_large_file file_faults.Memory e = absurd (cc)
