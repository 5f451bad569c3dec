-- The nodes that are written for a tree answer as the tree does.
use Rattle.std.proofs.Common.{◌≡◌, ℕ, suc, ◌+◌, ◌<◌, inl, inr, Bool, true, false, true≢false, not}
use Rattle.std.proofs.Common.{cond, List, [], ◌∷◌, ◌++◌, length, map, get_or, refl, sym, ◌∙◌, ap}
use Rattle.std.proofs.Common.{subst, arith, if◌then◌else◌}
use Rattle.std.specs.List.{list_any, position_or_len}
use Rattle.std.proofs.lemmas.List.{get_or-map}
use Rattle.std.proofs.lemmas.List.Sums.{passes_at_first, position_or_len_is}
use Rattle.trie_core.specs.Tree.{Tree, leaf, node, look, tree_eq}
use Rattle.trie_core.specs.Laws.{IsEquality}
use Rattle.least_nodes.specs.NodeList.{Member, at, records_at, go}
use Rattle.least_nodes.specs.Layout.{each_once, preorder, inner, member, pair_of}
use Rattle.least_nodes.specs.Laws.{LaidOut}
use Rattle.least_nodes.proofs.Elements.{In, In-left, In-right, In-each_once-new}
use Rattle.least_nodes.proofs.TreeParts.{IsEquality-tree_eq}

module _ {X : Type 0} (eq : X → X → Bool) (equality : IsEquality eq) where
  -- an element has a position in its list
  pub position-within : (x : X) (xs : List X) → In x xs → position_or_len (eq x) xs < length xs
  position-within x [] is = absurd is
  position-within x (y ∷ ys) is =
      elim (eq x y)
      as (λ b. eq x y ≡ b → cond (not b) (1 + position_or_len (eq x) ys) 0 < suc (length ys)) [
        | true ↦ λ _. omega arith
        | false ↦ λ other. elim is [
          | inl same ↦ absurd (true≢false (sym ((equality x y).1 same) ∙ other))
          | inr rest ↦ let less = position-within x ys rest in omega arith
        ]
      ] refl

  -- and stands there
  pub get_or-position : (x d : X) (xs : List X) → In x xs
      → get_or xs (position_or_len (eq x) xs) d ≡ x
  get_or-position x d xs is =
      sym ((equality x (get_or xs (position_or_len (eq x) xs) d)).0
      (passes_at_first (eq x) xs d (position-within x xs is)))

  -- what was seen first stays first
  pub each_once-first : (x : X) (seen xs : List X)
      → (more : List X) × (each_once eq (x ∷ seen) xs ≡ x ∷ more)
  each_once-first x seen [] = (seen, refl)
  each_once-first x seen (y ∷ ys) =
      elim (list_any (eq y) (x ∷ seen)) as (λ b. (more : List X)
      × ((if b then each_once eq (x ∷ seen) ys else each_once eq (x ∷ (seen ++ y ∷ [])) ys)
      ≡ x ∷ more)) [
        | true ↦ each_once-first x seen ys
        | false ↦ each_once-first x (seen ++ y ∷ []) ys
      ]

module _ {A : Type 0} (eq : A → A → Bool) (equality : IsEquality eq) (nodes : List (Tree A)) where
  -- the records of a held node are those of its children
  records_at-member : (l r : Tree A) → In (node l r) nodes
      → records_at (map (pair_of eq nodes) nodes) (position_or_len (tree_eq eq (node l r)) nodes)
      ≡ pair_of eq nodes (node l r)
  records_at-member l r is =
      let i : ℕ = position_or_len (tree_eq eq (node l r)) nodes in
      let within : i < length nodes =
      position-within (tree_eq eq) (IsEquality-tree_eq eq equality) (node l r) nodes is in
      get_or-map (pair_of eq nodes) nodes i l (at i, at i) within ∙ ap (pair_of eq nodes)
      (get_or-position (tree_eq eq) (IsEquality-tree_eq eq equality) (node l r) l nodes is)

  -- where all nodes of a tree are held, the walk from its record answers as the tree does
  pub go-member : (t : Tree A) (w : List Bool) → ((s : Tree A) → In s (preorder t) → In s nodes)
      → go (map (pair_of eq nodes) nodes) (member eq nodes t) w ≡ look t w
  go-member (leaf a) w held = refl
  go-member (node l r) [] held = refl
  go-member (node l r) (false ∷ w) held =
      ap (λ (p : Member A × Member A). go (map (pair_of eq nodes) nodes) p.0 w)
      (records_at-member l r (held (node l r) (inl refl)))
      ∙ go-member l w (λ s inside. held s (inr (In-left s (preorder l) (preorder r) inside)))
  go-member (node l r) (true ∷ w) held =
      ap (λ (p : Member A × Member A). go (map (pair_of eq nodes) nodes) p.1 w)
      (records_at-member l r (held (node l r) (inl refl)))
      ∙ go-member r w (λ s inside. held s (inr (In-right s (preorder l) (preorder r) inside)))

module _ {A : Type 0} where
  -- a node is the first of its own nodes
  pub position-itself : (eq : A → A → Bool) → IsEquality eq
      → (l r : Tree A) → position_or_len (tree_eq eq (node l r)) (inner eq (node l r)) ≡ 0
  position-itself eq equality l r =
      let t : Tree A = node l r in
      let first = each_once-first (tree_eq eq) (IsEquality-tree_eq eq equality) t []
      (preorder l ++ preorder r) in
      let itself : tree_eq eq t t ≡ true = (IsEquality-tree_eq eq equality t t).1 refl in
      subst (λ xs. position_or_len (tree_eq eq t) xs ≡ 0) (sym first.1) (position_or_len_is
      (tree_eq eq t) (t ∷ first.0) 0 t (omega arith) (λ k less. absurd (omega arith)) (λ _. itself))

  pub LaidOut-holds : LaidOut A
  LaidOut-holds eq equality (leaf a) false w = refl
  LaidOut-holds eq equality (leaf a) true w = refl
  LaidOut-holds eq equality (node l r) b w =
      let nodes : List (Tree A) = inner eq (node l r) in
      ap (λ i. go (map (pair_of eq nodes) nodes) (at i) (b ∷ w))
      (sym (position-itself eq equality l r))
      ∙ go-member eq equality nodes (node l r) (b ∷ w) (λ s inside. In-each_once-new (tree_eq eq)
      (IsEquality-tree_eq eq equality) s [] (preorder (node l r)) inside)
