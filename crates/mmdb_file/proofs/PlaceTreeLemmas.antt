-- The file of a tree of numbers is the file of the tree of the places that they stand for.
use Rattle.std.proofs.Common.{◌≡◌, ℕ, zero, suc, ◌+◌, ◌^◌, ◌<◌, ◌≤◌, inl, inr, Bool, true, false}
use Rattle.std.proofs.Common.{true≢false, List, [], ◌∷◌, length, map, filter, get_or, Option, Some}
use Rattle.std.proofs.Common.{None, refl, sym, ◌∙◌, ap, ap₂, subst, arith}
use Rattle.std.specs.Prelude.{nat_eq, slice_get, slice_index, is_some, option_map, if◌then◌else◌}
use Rattle.std.specs.List.{position_or_len, IsDistinct}
use Rattle.std.proofs.lemmas.Bool.{cases_lt}
use Rattle.std.proofs.lemmas.List.{length-map}
use Rattle.std.proofs.lemmas.Map.Keys.{apart_from_distinct}
use Rattle.std.proofs.lemmas.Option.{slice_get-get_or, get_or_from_slice_get, slice_get_within}
use Rattle.geo_addr.specs.Bits.{bits_of, number_of}
use Rattle.geo_addr.proofs.BitsLemmas.{OneListOfBits-each, length-bits_of}
use Rattle.geo_terms.specs.PlaceForm.{PlaceParts}
use Rattle.geo_terms.specs.Numbers.{place_at, same_place}
use Rattle.geo_terms.proofs.NumberLemmas.{places_are_told_apart}
use Rattle.trie_core.specs.declared.node.Root.{Root}
use Rattle.trie_core.specs.declared.node.Pair.{Pair}
use Rattle.trie_core.specs.Tree.{Tree, leaf, node, height, look, tree, HasLeaf, AllLeaves, map_tree}
use Rattle.trie_core.specs.Laws.{IsEquality, IsReducedWithin}
use Rattle.trie_core.specs.Store.{IsSound, IsRootOf, tree_of, record_of, leaf_at}
use Rattle.trie_core.proofs.TreeLemmas.{nat_equality}
use Rattle.trie_core.proofs.RenameLemmas.{leaf-AllLeaves, map_tree-is_tree, Renamed-holds}
use Rattle.least_nodes.specs.NodeList.{Member, at, says, go, map_member, map_pair}
use Rattle.least_nodes.specs.Layout.{inner, leaf_order, laid}
use Rattle.least_nodes.proofs.Elements.{In, In-from_filter}
use Rattle.least_nodes.proofs.Positions.{Least-holds}
use Rattle.least_nodes.proofs.RenameLemmas.{position-map, inner-map_tree, leaf_order-map_tree}
use Rattle.least_nodes.proofs.RenameLemmas.{laid-map_tree}
use Rattle.mmdb_tree.specs.Nodes.{smallest}
use Rattle.mmdb_file.specs.FileImage.{answer_value, spots, section, record_for, node_for}
use Rattle.mmdb_file.specs.FileImage.{node_records, records_end, file_with, file_of, same_answer}
use Rattle.mmdb_file.specs.FileImage.{file, file_nodes, file_section, file_end}
use Rattle.mmdb_file.specs.Section.{Section, section_of}
use Rattle.mmdb_file.specs.Writing.{count_for, values_of, section_for, end_for}
use Rattle.mmdb_file.specs.Laws.{NumbersStandForPlaces}
use Rattle.mmdb_file.proofs.ImageLemmas.{laid_len, spots_are}

-- the test of answers decides their equality
pub answer_equality : IsEquality same_answer
answer_equality None None = (λ _. refl, λ _. refl)
answer_equality None (Some q) = (λ is. absurd (true≢false (sym is)), λ is. absurd (cc))
answer_equality (Some p) None = (λ is. absurd (true≢false (sym is)), λ is. absurd (cc))
answer_equality (Some p) (Some q) = (
  λ is. ap Some ((places_are_told_apart p q).0 is),
  λ is. let same : p ≡ q = cc in (places_are_told_apart p q).1 same,
)

from_some : {X : Type 0} (o : Option X) → is_some o ≡ true → (x : X) × (o ≡ Some x)
from_some None is = absurd (true≢false (sym is))
from_some (Some x) is = (x, refl)

filter-map : {X Y : Type 0} (f : X → Y) (test : Y → Bool) (xs : List X)
    → filter test (map f xs) ≡ map f (filter (λ x. test (f x)) xs)
filter-map f test [] = refl
filter-map f test (x ∷ xs) =
    elim (test (f x))
    as (λ (b : Bool). (if b then f x ∷ filter test (map f xs) else filter test (map f xs))
    ≡ map f (if b then x ∷ filter (λ y. test (f y)) xs else filter (λ y. test (f y)) xs)) [
      | true ↦ ap (λ ys. f x ∷ ys) (filter-map f test xs)
      | false ↦ filter-map f test xs
    ]

map-both : {X Y Z : Type 0} (h : Y → Z) (g : X → Y) (k : X → Z)
    → ((x : X) → h (g x) ≡ k x) → (xs : List X) → map h (map g xs) ≡ map k xs
map-both h g k same [] = refl
map-both h g k same (x ∷ xs) = ap₂ (λ y ys. y ∷ ys) (same x) (map-both h g k same xs)

blank : PlaceParts
blank = record { country = []; region = []; city = []; postal = [] }

-- ---- a table of distinct places

module _ (places : List PlaceParts) (distinct : IsDistinct same_place places) where
  not_twice : (i j : ℕ) (p : PlaceParts) → i < j → slice_get places i ≡ Some p
      → slice_get places j ≡ Some p → ⊥
  not_twice i j p less at-i at-j =
      let apart : same_place (get_or places i p) (get_or places j p) ≡ false =
      apart_from_distinct same_place places i j p distinct less
      (slice_get_within places j p at-j) in
      let same : same_place (get_or places i p) (get_or places j p) ≡ true =
      (places_are_told_apart (get_or places i p) (get_or places j p)).1
      (get_or_from_slice_get places i p p at-i ∙ sym (get_or_from_slice_get places j p p at-j)) in
      true≢false (sym same ∙ apart)

  -- a place has one number
  number_once : (i j : ℕ) (p : PlaceParts) → slice_get places i ≡ Some p
      → slice_get places j ≡ Some p → i ≡ j
  number_once i j p at-i at-j =
      elim (cases_lt i j) [
        | inl less ↦ absurd (not_twice i j p less at-i at-j)
        | inr not_less ↦ elim (cases_lt j i) [
          | inl more ↦ absurd (not_twice j i p more at-j at-i)
          | inr not_more ↦ omega arith
        ]
      ]

  -- two numbers of one place are one number
  some_apart : (x y : ℕ) → is_some (place_at places x) ≡ true → is_some (place_at places y) ≡ true
      → place_at places x ≡ place_at places y → x ≡ y
  some_apart zero y x-some y-some same = absurd (true≢false (sym x-some))
  some_apart (suc i) zero x-some y-some same = absurd (true≢false (sym y-some))
  some_apart (suc i) (suc j) x-some y-some same =
      let p = from_some (slice_get places i) x-some in
      ap suc (number_once i j p.0 p.1 (sym same ∙ p.1))

  -- and 0 is the only number of the table that is no place
  pub numbers_apart : (x y : ℕ) → x ≤ length places → y ≤ length places
      → place_at places x ≡ place_at places y → x ≡ y
  numbers_apart zero zero x-low y-low same = refl
  numbers_apart zero (suc j) x-low y-low same =
      absurd (let found : slice_get places j ≡ Some (get_or places j blank) =
      slice_get-get_or places j blank (omega arith) in
      let none : None ≡ Some (get_or places j blank) = same ∙ found in cc)
  numbers_apart (suc i) zero x-low y-low same =
      absurd (let found : slice_get places i ≡ Some (get_or places i blank) =
      slice_get-get_or places i blank (omega arith) in
      let none : None ≡ Some (get_or places i blank) = sym same ∙ found in cc)
  numbers_apart (suc i) (suc j) x-low y-low same =
      let found : slice_get places i ≡ Some (get_or places i blank) =
      slice_get-get_or places i blank (omega arith) in
      ap suc (number_once i j (get_or places i blank) found (sym same ∙ found))

  -- ---- the file of a tree of its numbers

  -- a record is written as that of its place
  record_named : (n : ℕ) (ks : List ℕ)
      → ((k : ℕ) → In k ks → is_some (place_at places k) ≡ true) → (starts : List ℕ) (m : Member ℕ)
      → record_for same_answer (λ answer. answer) n (map (place_at places) ks) starts
      (map_member (place_at places) m) ≡ record_for nat_eq (place_at places) n ks starts m
  record_named n ks all starts (at i) = refl
  record_named n ks all starts (says a) =
      elim (is_some (place_at places a)) as (λ b. is_some (place_at places a) ≡ b
      → (if b then n + 16 + slice_index starts
      (position_or_len (same_answer (place_at places a)) (map (place_at places) ks)) else n)
      ≡ (if b then n + 16 + slice_index starts (position_or_len (nat_eq a) ks) else n)) [
        | true ↦ λ is. ap (λ i. n + 16 + slice_index starts i)
            (position-map nat_eq nat_equality same_answer answer_equality (place_at places)
            (λ k. is_some (place_at places k) ≡ true) some_apart a ks is all)
        | false ↦ λ _. refl
      ] refl

  module _ (t : Tree ℕ) (known : AllLeaves (λ k. k ≤ length places) t) where
    laid_named : laid same_answer (map_tree (place_at places) t)
        ≡ map (map_pair (place_at places)) (laid nat_eq t)
    laid_named =
        laid-map_tree nat_eq nat_equality same_answer answer_equality (place_at places)
        (λ k. k ≤ length places) numbers_apart t known

    laid_named_len : length (laid same_answer (map_tree (place_at places) t))
        ≡ length (laid nat_eq t)
    laid_named_len = ap length laid_named ∙ length-map (laid nat_eq t) (map_pair (place_at places))

    spots_named : spots same_answer (λ answer. answer) (map_tree (place_at places) t)
        ≡ map (place_at places) (spots nat_eq (place_at places) t)
    unfolding spots
    spots_named =
        ap (filter is_some) (leaf_order-map_tree nat_eq nat_equality same_answer answer_equality
        (place_at places) (λ k. k ≤ length places) numbers_apart t known)
        ∙ filter-map (place_at places) is_some (leaf_order nat_eq t)

    spots_some : (k : ℕ)
        → In k (spots nat_eq (place_at places) t) → is_some (place_at places k) ≡ true
    unfolding spots
    spots_some k is =
        (In-from_filter nat_eq nat_equality (λ a. is_some (place_at places a)) k
        (leaf_order nat_eq t) is).1

    section_named : section same_answer (λ answer. answer) (map_tree (place_at places) t)
        ≡ section nat_eq (place_at places) t
    unfolding section
    section_named =
        ap (λ (values : List (Option PlaceParts)). section_of (map answer_value values)) spots_named
        ∙ ap section_of (map-both answer_value (place_at places)
        (λ k. answer_value (place_at places k)) (λ k. refl) (spots nat_eq (place_at places) t))

    node_records_named : node_records same_answer (λ answer. answer) (map_tree (place_at places) t)
        ≡ node_records nat_eq (place_at places) t
    unfolding node_records
    node_records_named =
        let n : ℕ = length (laid nat_eq t) in
        let starts : List ℕ = (section nat_eq (place_at places) t).starts in
        ap (λ (m : ℕ). map (node_for same_answer
        (λ answer. answer) m (spots same_answer (λ answer. answer) (map_tree (place_at places) t))
        (section same_answer (λ answer. answer) (map_tree (place_at places) t)).starts)
        (laid same_answer (map_tree (place_at places) t))) laid_named_len
        ∙ ap (λ (s : Section). map (node_for same_answer (λ answer. answer) n
        (spots same_answer (λ answer. answer) (map_tree (place_at places) t)) s.starts)
        (laid same_answer (map_tree (place_at places) t))) section_named
        ∙ ap₂ (λ (ks : List (Option PlaceParts))
        (ms : List (Member (Option PlaceParts) × Member (Option PlaceParts))).
        map (node_for same_answer (λ answer. answer) n ks starts) ms) spots_named laid_named
        ∙ map-both (node_for same_answer
        (λ answer. answer) n (map (place_at places) (spots nat_eq (place_at places) t)) starts)
        (map_pair (place_at places))
        (node_for nat_eq (place_at places) n (spots nat_eq (place_at places) t) starts)
        (λ pair. ap₂ (λ x y. (x, y)) (record_named n (spots nat_eq (place_at places) t) spots_some
        starts pair.0) (record_named n (spots nat_eq (place_at places) t) spots_some starts pair.1))
        (laid nat_eq t)

    end_named : records_end same_answer (λ answer. answer) (map_tree (place_at places) t)
        ≡ records_end nat_eq (place_at places) t
    unfolding records_end
    end_named = ap₂ (λ (n : ℕ) (s : Section). n + 16 + length s.bytes) laid_named_len section_named

    pub file_named : (epoch : ℕ) (name : List ℕ) → file_with nat_eq (place_at places) t epoch name
        ≡ file (map_tree (place_at places) t) epoch name
    unfolding file file_with
    file_named epoch name =
        let nodes = node_records_named in
        let bytes = section_named in
        sym (ap (λ (end : ℕ). option_map (λ bits. file_of bits
        (node_records same_answer (λ answer. answer) (map_tree (place_at places) t))
        (section same_answer (λ answer. answer) (map_tree (place_at places) t)).bytes epoch name)
        (smallest end)) end_named
        ∙ ap₂ (λ (ns : List (ℕ × ℕ)) (s : Section). option_map (λ bits. file_of bits ns s.bytes
        epoch name) (smallest (records_end nat_eq (place_at places) t))) nodes bytes)

    -- its counts
    pub nodes_named : file_nodes (map_tree (place_at places) t) ≡ count_for t
    unfolding file_nodes
    nodes_named = laid_named_len ∙ laid_len t

    -- its section is the one that is written
    section_is : section nat_eq (place_at places) t ≡ section_for places t
    unfolding section
    section_is = ap (λ ks. section_of (values_of places ks)) (spots_are places t known)

    pub bytes_named :
        file_section (map_tree (place_at places) t) ≡ (section_for places t).bytes
    unfolding file_section
    bytes_named = ap (λ (s : Section). s.bytes) (section_named ∙ section_is)

    -- and so is the end of its records
    pub end_is : file_end (map_tree (place_at places) t) ≡ end_for places t
    unfolding file_end records_end
    end_is =
        end_named
        ∙ ap₂ (λ (n : ℕ) (s : Section). n + 16 + length s.bytes) (laid_len t) section_is

pub NumbersStandForPlaces-holds : NumbersStandForPlaces
NumbersStandForPlaces-holds places distinct t known = file_named places distinct t known

-- ---- the tree that a root means

-- no walk ends in a list of no nodes
never_ends : {A : Type 0} (i : ℕ) (w : List Bool) → go {A = A} [] (at i) w ≡ None
never_ends i [] = refl
never_ends i (false ∷ w) = never_ends i w
never_ends i (true ∷ w) = never_ends i w

-- a low tree answers each long list of bits
answers : (n : ℕ) (t : Tree ℕ) → height t ≤ n → (w : List Bool) → length w ≡ n
    → (k : ℕ) × (look t w ≡ Some k)
answers n (leaf a) low w long = (a, refl)
answers zero (node l r) low w long = absurd (omega arith)
answers (suc n) (node l r) low [] long = absurd (omega arith)
answers (suc n) (node l r) low (false ∷ w) long = answers n l (omega arith) w (omega arith)
answers (suc n) (node l r) low (true ∷ w) long = answers n r (omega arith) w (omega arith)

-- under a root of a store each address has a leaf
pub leaf_of_address : (pairs : List Pair) → IsSound pairs → (root : Root) → IsRootOf pairs root
    → (address : ℕ) → (k : ℕ) × (leaf_at pairs root address ≡ Some k)
leaf_of_address pairs sound root of address =
    answers 128 (tree_of pairs root) (sound.low (record_of root) of) (bits_of 128 address)
    (length-bits_of 128 address)

module _ (places : List PlaceParts) (distinct : IsDistinct same_place places) (t : Tree ℕ)
    (known : AllLeaves (λ k. k ≤ length places) t) (reduced : IsReducedWithin 128 t) where
  leaves_apart : (a b : ℕ) → HasLeaf t a → HasLeaf t b
      → place_at places a ≡ place_at places b → a ≡ b
  leaves_apart a b has-a has-b same =
      numbers_apart places distinct a b (leaf-AllLeaves (λ k. k ≤ length places) t a known has-a)
      (leaf-AllLeaves (λ k. k ≤ length places) t b known has-b) same

  -- the tree of places is that of the function that answers them
  pub tree_named : (answer : ℕ → Option PlaceParts) → ((address k : ℕ) → address < 2 ^ 128
      → look t (bits_of 128 address) ≡ Some k → place_at places k ≡ answer address)
      → map_tree (place_at places) t ≡ tree same_answer answer 128 0
  tree_named answer same =
      map_tree-is_tree (place_at places) same_answer answer_equality answer 128 t
      leaves_apart reduced
      (λ address below.
      let found = answers 128 t reduced.0 (bits_of 128 address) (length-bits_of 128 address) in
      ap (option_map (place_at places)) found.1 ∙ ap Some (same address found.0 below found.1))

  -- nodes that answer each address with its place are no fewer
  pub fewest_named : (nodes : List (Member (Option PlaceParts) × Member (Option PlaceParts)))
      → ((address k : ℕ) → address < 2 ^ 128 → look t (bits_of 128 address) ≡ Some k
      → go nodes (at 0) (bits_of 128 address) ≡ Some (place_at places k))
      → count_for t ≤ length nodes
  fewest_named nodes finds =
      let renamed =
      Renamed-holds ℕ (Option PlaceParts) (place_at places) 128 t leaves_apart reduced in
      let lookups : (w : List Bool) → length w ≡ 128
      → go nodes (at 0) w ≡ look (map_tree (place_at places) t) w =
      λ w long.
      let one = OneListOfBits-each 128 in
      let found = answers 128 t reduced.0 w long in
      let back : bits_of 128 (number_of w) ≡ w = one.again w long in
      let this : go nodes (at 0) w ≡ Some (place_at places found.0) =
      subst (λ v. go nodes (at 0) v ≡ Some (place_at places found.0)) back
      (finds (number_of w) found.0 (one.below w long) (ap (look t) back ∙ found.1)) in
      this ∙ sym (renamed.1 w ∙ ap (option_map (place_at places)) found.1) in
      let least = Least-holds same_answer answer_equality 128
      (map_tree (place_at places) t) renamed.0 nodes lookups in
      let inner_len : length (inner same_answer (map_tree (place_at places) t))
      ≡ length (inner nat_eq t) =
      ap length (inner-map_tree nat_eq nat_equality same_answer answer_equality
      (place_at places) (λ k. k ≤ length places) (numbers_apart places distinct) t known)
      ∙ length-map (inner nat_eq t) (map_tree (place_at places)) in
      omega (arith, least, inner_len, some_nodes nodes finds)
    where
      some_nodes : (list : List (Member (Option PlaceParts) × Member (Option PlaceParts)))
          → ((address k : ℕ) → address < 2 ^ 128 → look t (bits_of 128 address) ≡ Some k
          → go list (at 0) (bits_of 128 address) ≡ Some (place_at places k)) → 1 ≤ length list
      some_nodes [] finds' =
          let found = answers 128 t reduced.0 (bits_of 128 0) (length-bits_of 128 0) in
          let none : None ≡ Some (place_at places found.0) =
          sym (never_ends 0 (bits_of 128 0)) ∙ finds' 0 found.0 (omega arith) found.1 in
          absurd (cc)
      some_nodes (pair ∷ rest) finds' = omega arith
