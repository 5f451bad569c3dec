-- How many nodes and how many bytes of data the file of sources has at most, where there are no
-- overrides.
use Rattle.std.proofs.Common.{◌≡◌, ℕ, zero, suc, ◌+◌, ◌*◌, ◌^◌, ◌≤◌, ◌⊎◌, inl, inr, Bool, true}
use Rattle.std.proofs.Common.{false, List, [], ◌∷◌, ◌++◌, length, refl, sym, ap, subst, ◌∙◌, arith}
use Rattle.std.proofs.Common.{lit≤, length-append}
use Rattle.std.proofs.Math.Nat.{mul-le-mul_right}
use Rattle.std.proofs.lemmas.List.{length-map}
use Rattle.std.proofs.lemmas.List.Sums.{sum_by-cons}
use Rattle.std.specs.Prelude.{filter, if◌then◌else◌, Option, Some, None, is_some, slice_get}
use Rattle.std.specs.List.{IsDistinct, list_any, sum_by}
use Rattle.geo_terms.specs.Cuts.{statement_ranges}
use Rattle.geo_terms.specs.PlaceForm.{PlaceParts}
use Rattle.geo_terms.specs.Precedence.{record_at}
use Rattle.geo_terms.specs.Sources.{InForce, override_rows}
use Rattle.geo_terms.proofs.Members.{Among}
use Rattle.trie_core.specs.Tree.{Tree, leaf, node, join, tree, tree_eq}
use Rattle.least_nodes.specs.Layout.{each_once, inner, laid, leaf_order, leaves, pair_of, preorder}
use Rattle.least_nodes.proofs.Elements.{In, In-append, In-each_once, In-from_filter, In-from_map}
use Rattle.least_nodes.proofs.Elements.{IsDistinct-from_none, filter-each_once}
use Rattle.least_nodes.proofs.Positions.{length-le_from_apart}
use Rattle.mmdb_data.specs.ValueTree.{ValueTree as Value}
use Rattle.mmdb_data.specs.Packing.{packed}
use Rattle.mmdb_data.specs.Spelling.{spelling}
use Rattle.mmdb_file.specs.FileImage.{answer_value, file_nodes, file_section, record_tree}
use Rattle.mmdb_file.specs.FileImage.{same_answer, section, spots, values}
use Rattle.mmdb_file.specs.PlaceValue.{place_value}
use Rattle.mmdb_file.specs.Section.{section_of}
use Rattle.mmdb_file.proofs.PlaceTreeLemmas.{answer_equality}
use Rattle.generated_job.proofs.PackedSizes.{most_of, packed_size}
use Rattle.generated_job.proofs.RecordPeers.{peers, record_among, stands}
use Rattle.generated_job.proofs.RecordCuts.{few_cuts, record_cuts, record_changes}
use Rattle.generated_job.proofs.TreeSizes.{few_nodes, size}

once_few : {K : Type 0} (eq : K → K → Bool) (seen xs : List K)
    → length (each_once eq seen xs) ≤ length seen + length xs
once_few eq seen [] = omega arith
once_few eq seen (x ∷ xs) =
    by (list_any (eq x) seen) (once_few eq seen xs) (once_few eq (seen ++ x ∷ []) xs)
  where
    by : (b : Bool) → length (each_once eq seen xs) ≤ length seen + length xs
        → length (each_once eq (seen ++ x ∷ []) xs) ≤ length (seen ++ x ∷ []) + length xs
        → length (if b then each_once eq seen xs else each_once eq (seen ++ x ∷ []) xs) ≤ length
        seen + suc (length xs)
    by true old new = omega arith
    by false old new = omega (arith, new, length-append seen (x ∷ []))

module _ {A : Type 0} where
  walked : (t : Tree A) → length (preorder t) ≡ size t
  walked (leaf a) = refl
  walked (node l r) = omega (arith, walked l, walked r, length-append (preorder l) (preorder r))

  few_laid : (eq : A → A → Bool) (t : Tree A) → length (laid eq t) ≤ size t + 1
  few_laid eq (leaf a) = lit≤ tt
  few_laid eq (node l r) =
      let t = node l r in
      omega (
        arith,
        walked t,
        once_few (tree_eq eq) [] (preorder t),
        length-map (inner eq t) (pair_of eq (inner eq t)),
      )

  in_join : (eq : A → A → Bool) (l r : Tree A) (x : A) → In x (leaves (join eq l r))
      → In x (leaves l) ⊎ In x (leaves r)
  in_join eq (leaf a) (leaf b) x = by (eq a b)
    where
      by : (t : Bool) → In x (leaves (if t then leaf a else node (leaf a) (leaf b)))
          → In x (a ∷ []) ⊎ In x (b ∷ [])
      by true there = inl there
      by false there = In-append x (a ∷ []) (b ∷ []) there
  in_join eq (leaf a) (node l r) x = λ there. In-append x (a ∷ []) (leaves (node l r)) there
  in_join eq (node l r) t x = λ there. In-append x (leaves (node l r)) (leaves t) there

  -- each leaf of the tree of a function is an answer
  leaf_from : (eq : A → A → Bool) (f : ℕ → A) (n first : ℕ) (x : A)
      → In x (leaves (tree eq f n first)) → (a : ℕ) × (x ≡ f a)
  unfolding tree
  leaf_from eq f zero first x (inl is) = (first, is)
  leaf_from eq f zero first x (inr none) = absurd none
  leaf_from eq f (suc n) first x there =
      elim (in_join eq (tree eq f n first) (tree eq f n (first + 2 ^ n)) x there) [
        | inl left ↦ leaf_from eq f n first x left
        | inr right ↦ leaf_from eq f n (first + 2 ^ n) x right
      ]

sum_few : {X : Type 0} (f : X → ℕ) (most : ℕ) (xs : List X) → ((x : X) → In x xs → f x ≤ most)
    → sum_by f xs ≤ length xs * most
sum_few f most [] all = omega arith
sum_few f most (x ∷ xs) all =
    omega (
      arith,
      sum_by-cons f x xs,
      all x (inl refl),
      sum_few f most xs (λ y there. all y (inr there)),
    )

some_of : {X : Type 0} (o : Option X) → is_some o ≡ true → (x : X) × (o ≡ Some x)
some_of (Some x) is = (x, refl)
some_of None is = absurd (cc)

module _ (s : InForce) (bare : override_rows s ≡ []) where
  abbrev places_of : List (Option PlaceParts)
  places_of = spots same_answer (λ answer. answer) (record_tree s)

  -- the nodes
  pub few_file_nodes : file_nodes (record_tree s) ≤ 128 * (6 * length (statement_ranges s) + 4) + 1
  unfolding file_nodes record_tree
  few_file_nodes =
      let nodes = few_nodes same_answer answer_equality (record_at s) (record_cuts s)
      (record_changes s)
      128 0 in
      omega (
        arith,
        few_laid same_answer (tree same_answer (record_at s) 128 0),
        nodes,
        few_cuts s,
      )

  -- a place that is written is that of a statement
  spot_peer : (x : Option PlaceParts) → In x places_of
      → (p : PlaceParts) × (x ≡ Some p) × Among p (peers s)
  unfolding spots record_tree
  spot_peer x there =
      let kept = In-from_filter same_answer answer_equality (λ answer. is_some answer) x
      (leaf_order same_answer (record_tree s)) there in
      let some = some_of x kept.1 in
      let seen : In x (leaves (record_tree s)) =
      elim (In-each_once same_answer answer_equality x [] (leaves (record_tree s)) kept.0) [
        | inl
            none ↦ absurd none
        | inr found ↦ found
      ] in
      let at = leaf_from same_answer (record_at s) 128 0 x seen in
      (some.0, some.1, record_among s at.0 some.0 bare (sym at.1 ∙ some.1))

  distinct : IsDistinct same_answer places_of
  unfolding spots
  distinct =
      subst (IsDistinct same_answer)
      (sym (filter-each_once same_answer answer_equality (λ answer. is_some answer) []
      (leaves (record_tree s))))
      (IsDistinct-from_none same_answer answer_equality
      (filter (λ answer. is_some answer) (leaves (record_tree s))))

  few_spots : length places_of ≤ length (peers s)
  few_spots =
      length-le_from_apart same_answer answer_equality (length (peers s))
      (λ x i. x ≡ slice_get (peers s) i) (λ x y i p q. p ∙ sym q)
      places_of distinct (λ x there.
      let peer = spot_peer x there in
      let at = stands peer.0 (peers s) peer.2 in
      (at.0, peer.1 ∙ at.1, at.2))

  -- the bytes of data, where no place of a statement takes more than so many
  pub few_file_bytes : (most : ℕ)
      → ((p : PlaceParts) → Among p (peers s) → length (spelling (place_value p)) ≤ most)
      → length (file_section (record_tree s)) ≤ length (peers s) * most
  unfolding file_section section section_of
  few_file_bytes most short =
      let all = values same_answer (λ answer. answer) places_of in
      let each = sum_few most_of most all (λ v there. value_short v there) in
      let many : length all ≡ length places_of =
      length-map places_of (λ answer. answer_value answer) in
      let fewer : length all ≤ length (peers s) = omega (arith, many, few_spots) in
      let times : length all * most ≤ length (peers s) * most = mul-le-mul_right most fewer in
      let whole : length (file_section (record_tree s)) ≡ length (packed all) = refl in
      omega (arith, whole, packed_size all, each, times)
    where
      value_short : (v : Value) → In v (values same_answer (λ answer. answer) places_of)
          → most_of v ≤ most
      value_short v there =
          let from = In-from_map (λ answer. answer_value answer) v places_of there in
          let peer = spot_peer from.0 from.1 in
          subst (λ w. most_of w ≤ most) (sym (from.2 ∙ ap answer_value peer.1))
          (short peer.0 peer.2)
