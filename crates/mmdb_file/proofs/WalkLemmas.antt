-- The walk of a written file gives what the tree that it was written for answers.
use Rattle.std.proofs.Common.{◌≡◌, ℕ, ◌+◌, ◌-◌, ◌^◌, ◌<◌, ◌≤◌, inl, inr, Bool, true, false, List}
use Rattle.std.proofs.Common.{[], ◌∷◌, length, map, get_or, Option, Some, None, Ok, refl, sym, ◌∙◌}
use Rattle.std.proofs.Common.{ap}
use Rattle.std.proofs.Common.{arith, append-nil}
use Rattle.std.specs.Prelude.{nat_eq, nat_lt, nat_le, slice_index, is_some, option_map, max}
use Rattle.std.specs.Prelude.{if◌then◌else◌}
use Rattle.std.specs.List.{position_or_len}
use Rattle.std.specs.Str.{IsUtf8}
use Rattle.std.proofs.lemmas.Bool.{cases_lt, lt-ltb, le-ltb, lt-leb}
use Rattle.std.proofs.lemmas.Bool.Decides.{eqb_tells}
use Rattle.std.proofs.lemmas.List.{get_or-map, get_or_past}
use Rattle.geo_terms.specs.PlaceForm.{PlaceParts}
use Rattle.geo_terms.specs.Numbers.{place_at as place_of}
use Rattle.trie_core.specs.Tree.{Tree, leaf, node, look, AllLeaves}
use Rattle.trie_core.proofs.TreeLemmas.{nat_equality}
use Rattle.least_nodes.specs.NodeList.{Member, at, says, side, records_at, go}
use Rattle.least_nodes.specs.Layout.{leaves, leaf_order, inner, laid, place_order, is_place}
use Rattle.least_nodes.proofs.Elements.{In, In-left, In-right, In-filter, In-each_once-new}
use Rattle.least_nodes.proofs.LaidLemmas.{position-within, get_or-position, LaidOut-holds}
use Rattle.mmdb_data.specs.ValueTree.{ValueTree as Value, bool}
use Rattle.mmdb_data.specs.Reading.{reads}
use Rattle.mmdb_tree.specs.declared.bits.Bits.{Bits}
use Rattle.mmdb_tree.specs.Nodes.{node_record, tree_bytes}
use Rattle.mmdb_tree.specs.Laws.{NodeFits, ValueReadsBack, record_of}
use Rattle.mmdb_file.specs.FileImage.{answer_value, record_for, node_for, file_of}
use Rattle.mmdb_file.specs.Laws.{WrittenFileIsWalked}
use Rattle.mmdb_file.specs.PlaceValue.{place_value}
use Rattle.mmdb_file.specs.Section.{Section, Holds}
use Rattle.mmdb_file.specs.Walk.{Opened, seek, offset_of_record, offset_at, value_at, value_read}
use Rattle.mmdb_file.specs.Walk.{walk_opened, walk}
use Rattle.mmdb_file.specs.Writing.{values_of}
use Rattle.mmdb_file.proofs.AdoptLemmas.{seek_done}
use Rattle.mmdb_file.proofs.ImageLemmas.{place_or_none, leaf_fits, laid_len}
use Rattle.mmdb_file.proofs.OpenedLemmas.{opened_again}
use Rattle.mmdb_file.proofs.SectionLemmas.{reads_within}
use Rattle.mmdb_file.proofs.WritingLemmas.{length-mapped}

-- ---- the walk through the nodes

-- past the last node a record leads to itself on both sides
side_itself : {A : Type 0} (b : Bool) (i : ℕ) → side {A = A} b (at i, at i) ≡ at i
side_itself false i = refl
side_itself true i = refl

-- a reader that reads the records as these numbers goes as the walk through the list of nodes does
module _ {A : Type 0} (n : ℕ) (number : Member A → ℕ) (read : ℕ → Bool → ℕ)
    (nodes : List (Member A × Member A)) (at_is : (i : ℕ) → number (at i) ≡ i)
    (says_past : (a : A) → n ≤ number (says a))
    (reads_as : (i : ℕ) → i < n → (b : Bool) → read i b ≡ number (side b (records_at nodes i)))
    (past_is : (i : ℕ) → n ≤ i → records_at nodes i ≡ (at i, at i)) where
  -- through one record, where the walk from the node that it names is known
  seek_goes-member : (a : A) (m : Member A) (w : List Bool)
      → ((j : ℕ) → go nodes (at j) w ≡ Some a → seek read n j w ≡ Some (number (says a)))
      → go nodes m w ≡ Some a → seek read n (number m) w ≡ Some (number (says a))
  seek_goes-member a (says x) w next found =
      let same : x ≡ a = cc in
      seek_done read n (number (says x)) w (says_past x) ∙ ap (λ y. Some (number (says y))) same
  seek_goes-member a (at j) w next found = ap (λ i. seek read n i w) (at_is j) ∙ next j found

  pub seek_goes : (a : A) (w : List Bool) (i : ℕ)
      → go nodes (at i) w ≡ Some a → seek read n i w ≡ Some (number (says a))
  seek_goes a [] i found = absurd (cc)
  seek_goes a (b ∷ w) i found =
      elim (cases_lt i n) [
        | inl inside ↦
            ap (λ (t : Bool). if t then seek read n (read i b) w else Some i) (lt-ltb i n inside)
            ∙ ap (λ r. seek read n r w) (reads_as i inside b)
            ∙ seek_goes-member a (side b (records_at nodes i)) w (seek_goes a w) found
        | inr past ↦
            let itself : side b (records_at nodes i) ≡ at i =
            ap (side b) (past_is i past) ∙ side_itself b i in
            let later : seek read n i w ≡ Some (number (says a)) =
            seek_goes a w i (ap (λ m. go nodes m w) (sym itself) ∙ found) in
            seek_done read n i (b ∷ w) past ∙ sym (seek_done read n i w past) ∙ later
      ]

-- ---- what a record that is no node stands for

-- the node count stands for no value
no_offset : (file : Opened) → offset_of_record file (Some file.nodes) ≡ Ok None
no_offset file =
    elim (eqb_tells file.nodes file.nodes) [
      | inl same ↦ rw same.0 refl
      | inr told ↦ absurd (told.1 refl)
    ]

-- a number above it and the 16 bytes stands for the value that begins there
some_offset : (file : Opened) (start : ℕ) → start < length file.section
    → offset_of_record file (Some (file.nodes + 16 + start)) ≡ Ok (Some start)
some_offset file start inside =
    let r : ℕ = file.nodes + 16 + start in
    elim (eqb_tells r file.nodes) [
      | inl same ↦ absurd (let e = same.1 in omega arith)
      | inr other ↦
          let high : nat_lt r (file.nodes + 16) ≡ false =
          le-ltb r (file.nodes + 16) (omega arith) in
          let back : r - (file.nodes + 16) ≡ start = omega arith in
          let low : nat_le (length file.section) start ≡ false =
          lt-leb (length file.section) start inside in
          rw (other.0, high, back, low) refl
    ]

-- ---- the walk of the whole file

-- what a tree answers is one of its leaves
look_in : (t : Tree ℕ) (w : List Bool) (k : ℕ) → look t w ≡ Some k → In k (leaves t)
look_in (leaf a) w k is = inl (cc)
look_in (node l r) [] k is = absurd (cc)
look_in (node l r) (false ∷ w) k is = In-left k (leaves l) (leaves r) (look_in l w k is)
look_in (node l r) (true ∷ w) k is = In-right k (leaves l) (leaves r) (look_in r w k is)

-- a side of a node is the number of that side of its members
side_number : (b : Bool) (pair : ℕ × ℕ) (f : Member ℕ → ℕ) (members : Member ℕ × Member ℕ)
    → pair ≡ (f members.0, f members.1) → record_of b pair ≡ f (side b members)
side_number false pair f members is = ap (λ (p : ℕ × ℕ). p.0) is
side_number true pair f members is = ap (λ (p : ℕ × ℕ). p.1) is

-- a file of nodes that are the layout of a tree of place numbers, and of any section that holds
-- the values of its places
module _ (law : ValueReadsBack) (places : List PlaceParts) (t : Tree ℕ)
    (all : AllLeaves (λ k. k ≤ length places) t) (section : Section)
    (holds : Holds section (values_of places (place_order t))) (bits : Bits)
    (epoch : ℕ) (name : List ℕ) (low : epoch < 2 ^ 64) (utf8 : IsUtf8 name)
    (short : length name ≤ 64) (nodes : List (ℕ × ℕ))
    (fits : (k : ℕ) → k < length nodes → NodeFits bits (get_or nodes k (0, 0)))
    (few : length nodes < 2 ^ 32)
    (are : nodes ≡ map (node_for nat_eq (place_of places) (length nodes) (place_order t)
    section.starts) (laid nat_eq t)) where
  -- what a reader holds of it
  abbrev file : Opened
  file = record {
    bits = bits;
    nodes = length nodes;
    tree = tree_bytes bits nodes;
    section = section.bytes;
  }

  abbrev number : Member ℕ → ℕ
  number = record_for nat_eq (place_of places) (length nodes) (place_order t) section.starts

  -- where the value of a place's number begins
  abbrev start_of : ℕ → ℕ
  start_of k = slice_index section.starts (position_or_len (nat_eq k) (place_order t))

  nodes_len : length nodes ≡ length (laid nat_eq t)
  nodes_len =
      ap length are
      ∙ length-mapped (node_for nat_eq (place_of places) (length nodes) (place_order t)
      section.starts) (laid nat_eq t)

  some_nodes : 0 < length nodes
  some_nodes = omega (arith, nodes_len, laid_len t)

  -- an answer's number is none of a node
  says_past : (k : ℕ) → length nodes ≤ number (says k)
  says_past k =
      elim (is_some (place_of places k)) as (λ (b : Bool). length nodes
      ≤ (if b then length nodes + 16 + start_of k else length nodes)) [
        | true ↦ omega arith
        | false ↦ omega arith
      ]

  -- the records of the tree are read as they were laid out
  read_as : (i : ℕ) → i < length nodes → (b : Bool)
      → node_record bits (tree_bytes bits nodes) i b
      ≡ number (side b (records_at (laid nat_eq t) i))
  read_as i inside b =
      let members : Member ℕ × Member ℕ = records_at (laid nat_eq t) i in
      let here : get_or nodes i (0, 0) ≡ (number members.0, number members.1) =
      ap (λ (xs : List (ℕ × ℕ)). get_or xs i (0, 0)) are
      ∙ get_or-map (node_for nat_eq (place_of places) (length nodes) (place_order t)
      section.starts) (laid nat_eq t) i (at i, at i) (0, 0) (omega (arith, inside, nodes_len)) in
      ap (λ tree. node_record bits tree i b) (sym (append-nil (tree_bytes bits nodes)))
      ∙ law bits nodes [] fits i inside b
      ∙ side_number b (get_or nodes i (0, 0)) number members here

  -- the way along the bits ends at the record of the tree's answer
  sought : (b : Bool) (w : List Bool) (k : ℕ) → look t (b ∷ w) ≡ Some k
      → seek (node_record bits (tree_bytes bits nodes)) (length nodes) 0 (b ∷ w)
      ≡ Some (number (says k))
  sought b w k is =
      seek_goes (length nodes) number (node_record bits (tree_bytes bits nodes)) (laid nat_eq t)
      (λ i. refl) says_past read_as
      (λ i past. get_or_past (laid nat_eq t) i (at i, at i) (omega (arith, past, nodes_len)))
      k (b ∷ w) 0 (LaidOut-holds nat_eq nat_equality t b w ∙ is)

  -- where the value of a leaf's place begins, that value is read
  value_held : (k : ℕ) → In k (leaves t) → (p : PlaceParts) → place_of places k ≡ Some p
      → reads section.bytes (start_of k) ≡ Ok (place_value p)
  value_held k leaf-of p is =
      let value : ℕ → Value = λ k'. answer_value (place_of places k') in
      let i : ℕ = position_or_len (nat_eq k) (place_order t) in
      let is-place : is_place k ≡ true =
      sym (place_or_none places k (leaf_fits (λ n. n ≤ length places) t all k leaf-of))
      ∙ ap is_some is in
      let among : In k (place_order t) =
      In-filter nat_eq nat_equality is_place k (leaf_order nat_eq t)
      (In-each_once-new nat_eq nat_equality k [] (leaves t) leaf-of) is-place in
      let inside : i < length (place_order t) =
      position-within nat_eq nat_equality k (place_order t) among in
      let stands : get_or (place_order t) i 0 ≡ k =
      get_or-position nat_eq nat_equality k 0 (place_order t) among in
      let valued : get_or (map value (place_order t)) i (bool false) ≡ place_value p =
      get_or-map value (place_order t) i 0 (bool false) inside
      ∙ ap value stands ∙ ap answer_value is in
      holds.read (bool false) i (omega (arith, inside, length-mapped value (place_order t)))
      ∙ ap Ok valued

  -- the record of an answer leads to the value of its place
  told_at : (k : ℕ) → In k (leaves t) → (o : Option PlaceParts) → place_of places k ≡ o
      → value_at file (offset_of_record file (Some (number (says k))))
      ≡ Ok (option_map place_value o)
  told_at k leaf-of None is =
      let r : number (says k) ≡ length nodes =
      ap (λ (o : Option PlaceParts). if is_some o then length nodes + 16 + start_of k
      else length nodes) is in
      ap (λ n. value_at file (offset_of_record file (Some n))) r
      ∙ ap (value_at file) (no_offset file)
  told_at k leaf-of (Some p) is =
      let read : reads section.bytes (start_of k) ≡ Ok (place_value p) =
      value_held k leaf-of p is in
      let r : number (says k) ≡ length nodes + 16 + start_of k =
      ap (λ (o : Option PlaceParts). if is_some o then length nodes + 16 + start_of k
      else length nodes) is in
      ap (λ n. value_at file (offset_of_record file (Some n))) r
      ∙ ap (value_at file) (some_offset file (start_of k)
      (reads_within section.bytes (start_of k) (place_value p) read))
      ∙ ap value_read read

  pub walked : (b : Bool) (w : List Bool) (k : ℕ) → look t (b ∷ w) ≡ Some k
      → walk (file_of bits nodes section.bytes epoch name) (b ∷ w)
      ≡ Ok (option_map place_value (place_of places k))
  unfolding walk offset_at
  walked b w k is =
      ap (λ o. walk_opened o (b ∷ w))
      (opened_again bits nodes section.bytes epoch name some_nodes few low utf8 short)
      ∙ ap (λ s. value_at file (offset_of_record file s)) (sought b w k is)
      ∙ told_at k (look_in t (b ∷ w) k is) (place_of places k) refl

-- the law along the bits of an address, where the nodes are counted by those of the tree
pub walked_address : WrittenFileIsWalked → (places : List PlaceParts) (t : Tree ℕ)
    → AllLeaves (λ k. k ≤ length places) t
    → (section : Section) → Holds section (values_of places (place_order t))
    → (bits : Bits) (epoch : ℕ) (name : List ℕ)
    → epoch < 2 ^ 64 → IsUtf8 name → length name ≤ 64
    → (nodes : List (ℕ × ℕ))
    → ((k : ℕ) → k < length nodes → NodeFits bits (get_or nodes k (0, 0)))
    → length nodes < 2 ^ 32 → (n : ℕ)
    → nodes ≡ map (node_for nat_eq (place_of places) n (place_order t) section.starts)
    (laid nat_eq t)
    → n ≡ max (length (inner nat_eq t)) 1
    → (w : List Bool) → 0 < length w → (k : ℕ) → look t w ≡ Some k
    → walk (file_of bits nodes section.bytes epoch name) w
    ≡ Ok (option_map place_value (place_of places k))
walked_address law places t all section holds bits epoch name low utf8 short nodes fits few n are
    counted [] some k is = absurd (omega arith)
walked_address law places t all section holds bits epoch name low utf8 short nodes fits few n are
    counted (b ∷ w) some k is =
    let f : ℕ → Member ℕ × Member ℕ → ℕ × ℕ =
    λ x. node_for nat_eq (place_of places) x (place_order t) section.starts in
    let long : length nodes ≡ length (laid nat_eq t) =
    ap length are ∙ length-mapped (f n) (laid nat_eq t) in
    let same : n ≡ length nodes = counted ∙ sym (laid_len t) ∙ sym long in
    law places t all section holds bits epoch name low utf8 short nodes fits few
    (are ∙ ap (λ x. map (f x) (laid nat_eq t)) same) b w k is
