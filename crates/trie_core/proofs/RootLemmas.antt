-- Lemmas on painting under a root: over addresses instead of lists of bits.
use Rattle.std.proofs.Common.{◌≡◌, ℕ, ◌+◌, ◌^◌, ◌<◌, ◌≤◌, ◌⊎◌, inl, inr, nat_le, ◌&&◌, Bool, true}
use Rattle.std.proofs.Common.{false, if◌then◌else◌, List, [], ◌∷◌, Option, Some, None, refl, sym}
use Rattle.std.proofs.Common.{◌∙◌, ap, subst, arith, nat_eq, length, le_refl}
use Rattle.std.proofs.lemmas.Bool.{cases_lt, lt-leb}
use Rattle.geo_addr.specs.Bits.{bits_of, number_of}
use Rattle.geo_addr.specs.Ranges.{Ends, IsWithin}
use Rattle.geo_addr.proofs.BitsLemmas.{OneListOfBits-each, length-bits_of, number_of-bits_of}
use Rattle.trie_core.specs.declared.fault.StoreFault.{StoreFault}
use Rattle.trie_core.specs.declared.fault.StoreFault.TheVariants.{Full, Memory}
use Rattle.trie_core.specs.declared.node.Root.{Root}
use Rattle.trie_core.specs.declared.node.Pair.{Pair}
use Rattle.trie_core.specs.declared.paint.Part.{Part}
use Rattle.trie_core.specs.Tree.{Tree, height, look}
use Rattle.trie_core.specs.Store.{meaning, IsSound, tree_of, leaf_at, IsRootOf, IsKept}
use Rattle.trie_core.specs.Laws.{SameLookups, OneRecord, MeansFunction}
use Rattle.trie_core.specs.Paint.{leaf_in, over, IsPainted, HoldsPainted, HoldsPaintedRoot}
use Rattle.trie_core.proofs.TreeLemmas.{OnlyTree-holds, nat_equality}
use Rattle.trie_core.proofs.StoreLemmas.{same_from_lookups_of, IsReduced-meaning}
use Rattle.trie_core.proofs.PartLemmas.{leaf_in_first}

-- a painted tree answers so at each address
pub leaves_of_painted : (n : ℕ) (old new : Tree ℕ) (parts : List Part) → IsPainted old new n 0 parts
    → (a : ℕ) → a < 2 ^ n → look new (bits_of n a) ≡ over (leaf_in parts a) (look old (bits_of n a))
leaves_of_painted n old new parts painted a below =
    let landed : 0 + number_of (bits_of n a) ≡ a = omega (arith, number_of-bits_of n a below) in
    painted.lookups (bits_of n a) (length-bits_of n a)
    ∙ ap (λ x. over (leaf_in parts x) (look old (bits_of n a))) landed

-- and a tree that answers so is painted
pub painted_from_leaves : (n : ℕ) (old new : Tree ℕ) (parts : List Part) → height new ≤ n
    → ((a : ℕ)
    → a < 2 ^ n → look new (bits_of n a) ≡ over (leaf_in parts a) (look old (bits_of n a)))
    → IsPainted old new n 0 parts
painted_from_leaves n old new parts low answers = record {
  lookups = λ w long.
      let one = OneListOfBits-each n in
      let this : look new (bits_of n (number_of w))
      ≡ over (leaf_in parts (number_of w)) (look old (bits_of n (number_of w))) =
      answers (number_of w) (one.below w long) in
      let here : look new w ≡ over (leaf_in parts (number_of w)) (look old w) =
      subst (λ v. look new v ≡ over (leaf_in parts (number_of w)) (look old v))
      (one.again w long) this in
      here ∙ ap (λ x. over (leaf_in parts x) (look old w)) (omega arith);
  low = low;
}

-- a store that has the root has its record
pub HoldsPainted-from_root : (pairs : List Pair)
    → IsSound pairs → (was : Tree ℕ) (parts : List Part)
    → HoldsPaintedRoot pairs (λ a. look was (bits_of 128 a)) parts
    → HoldsPainted pairs was 128 0 parts
HoldsPainted-from_root pairs sound was parts held = (
  held.0.0,
  held.1,
  painted_from_leaves 128 was (meaning pairs held.0.0) parts (sound.low held.0.0 held.1) held.2,
)

-- there are two faults
pub fault_cases : (fault : StoreFault) → (fault ≡ Full) ⊎ (fault ≡ Memory)
fault_cases Full = inl refl
fault_cases Memory = inr refl

-- one part, inside and outside of its range
pub one_part_inside : (p : Part) (a : ℕ) (was : Option ℕ) → IsWithin p.range a
    → over (leaf_in (p ∷ []) a) was ≡ Some p.leaf
one_part_inside p a was inside = ap (λ o. over o was) (leaf_in_first p [] a inside.0 inside.1)

pub one_part_outside : (p : Part) (a : ℕ) (was : Option ℕ)
    → (IsWithin p.range a → ⊥) → over (leaf_in (p ∷ []) a) was ≡ was
one_part_outside p a was outside =
    ap (λ (b : Bool). over (if b then Some p.leaf else None) was) test
  where
    test : (nat_le p.range.first a && nat_le a p.range.last) ≡ false
    test =
        elim (cases_lt a p.range.first) [
          | inl before ↦ let t : nat_le p.range.first a ≡ false = lt-leb p.range.first a before in
              rw t refl
          | inr from ↦ elim (cases_lt p.range.last a) [
            | inl after ↦ let t : nat_le a p.range.last ≡ false = lt-leb a p.range.last after in
                rw t (and_false (nat_le p.range.first a))
            | inr to ↦ absurd (outside (from, to))
          ]
        ]
      where
        and_false : (b : Bool) → (b && false) ≡ false
        and_false true = refl
        and_false false = refl

-- ---- the laws of a store

-- trees that answer the same at each address answer the same along each list
same_along_lists : (n : ℕ) (s t : Tree ℕ)
    → ((a : ℕ) → a < 2 ^ n → look s (bits_of n a) ≡ look t (bits_of n a)) → SameLookups n s t
same_along_lists n s t same w long =
    let one = OneListOfBits-each n in
    subst (λ v. look s v ≡ look t v) (one.again w long) (same (number_of w) (one.below w long))

pub OneRecord-holds : (pairs : List Pair) → IsSound pairs → OneRecord pairs
OneRecord-holds pairs sound r s r-of s-of same =
    same_from_lookups_of pairs sound 128 r s r-of s-of (sound.low r r-of) (sound.low s s-of)
    (same_along_lists 128 (meaning pairs r) (meaning pairs s) same)

pub MeansFunction-holds : (pairs : List Pair) → IsSound pairs → MeansFunction pairs
MeansFunction-holds pairs sound root of f answers =
    OnlyTree-holds nat_eq nat_equality f 128 (tree_of pairs root) (
      sound.low root.0 of,
      IsReduced-meaning pairs sound (length pairs) root.0 (le_refl _) of,
    ) answers

-- ---- two paintings

-- an address is in a range or not
pub IsWithin-cases : (r : Ends) (a : ℕ) → IsWithin r a ⊎ (IsWithin r a → ⊥)
IsWithin-cases r a =
    elim (cases_lt a r.first) [
      | inl before ↦ inr (λ at. omega (arith, at.0))
      | inr from ↦ elim (cases_lt r.last a) [
        | inl after ↦ inr (λ at. omega (arith, at.1))
        | inr to ↦ inl (from, to)
      ]
    ]

-- a root has the leaf on the range, and the old root's leaves elsewhere
pub record IsPaintedRoot (old new : List Pair) (root made : Root) (r : Ends)
    (leaf : ℕ) : Type 0 where
  pub inside : (a : ℕ) → a < 2 ^ 128 → IsWithin r a → leaf_at new made a ≡ Some leaf
  pub outside : (a : ℕ) → a < 2 ^ 128 → (IsWithin r a → ⊥) → leaf_at new made a ≡ leaf_at old root a

-- two ranges with no address in common give the same root in either order
pub same_in_both_orders : (s0 s1 s2 s3 s4 : List Pair) → IsSound s4
    → (root with-one a with-two b : Root) (one two : Ends) (k l : ℕ)
    → ((x : ℕ) → IsWithin one x → IsWithin two x → ⊥) → IsKept s0 s2 → IsKept s2 s4
    → IsRootOf s0 root → IsRootOf s2 a → IsRootOf s4 b
    → IsPaintedRoot s0 s1 root with-one one k → IsPaintedRoot s1 s2 with-one a two l
    → IsPaintedRoot s2 s3 root with-two two l → IsPaintedRoot s3 s4 with-two b one k → a ≡ b
same_in_both_orders s0 s1 s2 s3 s4 sound root with-one a with-two b one two k l apart kept kept'
    root-of a-of b-of first second third fourth =
    let a-kept = kept' a.0 a-of in
    let same = OneRecord-holds s4 sound a.0 b.0 a-kept.0 b-of
    (λ x below. ap (λ t. look t (bits_of 128 x)) a-kept.1 ∙ agree x below) in
    λ i. record { 0 = same i }
  where
    agree : (x : ℕ) → x < 2 ^ 128 → leaf_at s2 a x ≡ leaf_at s4 b x
    agree x below =
        elim (IsWithin-cases one x) [
          | inl in-one ↦ second.outside x below (apart x in-one) ∙ first.inside x below in-one
              ∙ sym (fourth.inside x below in-one)
          | inr out-one ↦ elim (IsWithin-cases two x) [
            | inl in-two ↦ second.inside x below in-two
                ∙ sym (fourth.outside x below out-one ∙ third.inside x below in-two)
            | inr out-two ↦
                second.outside x below out-two ∙ first.outside x below out-one
                ∙ sym (ap (λ t. look t (bits_of 128 x)) (kept root.0 root-of).1)
                ∙ sym (fourth.outside x below out-one ∙ third.outside x below out-two)
          ]
        ]
