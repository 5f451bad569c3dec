-- A renaming of a tree's leaves that keeps different leaves apart keeps the layout.
use Rattle.std.proofs.Common.{◌≡◌, ◌+◌, inl, inr, Bool, not, cond, List, [], ◌∷◌, ◌++◌, map, length}
use Rattle.std.proofs.Common.{refl, sym, ◌∙◌, ap, ap₂, subst}
use Rattle.std.specs.List.{position_or_len}
use Rattle.std.proofs.lemmas.Bool.Decides.{same_from_decides}
use Rattle.std.proofs.lemmas.List.{length-map, map-append}
use Rattle.trie_core.specs.Tree.{Tree, leaf, node, HasLeaf, AllLeaves, tree_eq, map_tree}
use Rattle.trie_core.specs.Laws.{IsEquality}
use Rattle.least_nodes.specs.NodeList.{at, map_member, map_pair}
use Rattle.least_nodes.specs.Layout.{each_once, preorder, leaves, inner, leaf_order, member}
use Rattle.least_nodes.specs.Layout.{pair_of, laid}
use Rattle.least_nodes.specs.Laws.{RenamedLayout}
use Rattle.least_nodes.proofs.Elements.{In, In-append, In-map, In-from_map, In_or_not}
use Rattle.least_nodes.proofs.Elements.{each_once-old, each_once-new, In-each_once}
use Rattle.least_nodes.proofs.TreeParts.{IsEquality-tree_eq}

module _ {X Y : Type 0} (eq : X → X → Bool) (equality : IsEquality eq)
    (eq' : Y → Y → Bool) (equality' : IsEquality eq') (g : X → Y) (P : X → Type 0)
    (apart : (x y : X) → P x → P y → g x ≡ g y → x ≡ y) where
  -- the names are tested as what they name
  eq-name : (x y : X) → P x → P y → eq' (g x) (g y) ≡ eq x y
  eq-name x y x-ok y-ok =
      same_from_decides (eq' (g x) (g y)) (eq x y) (equality' (g x) (g y))
      (λ is. ap g ((equality x y).0 is), λ same. (equality x y).1 (apart x y x-ok y-ok same))

  -- an element and its name stand at one position
  pub position-map : (x : X) (xs : List X) → P x → ((y : X) → In y xs → P y)
      → position_or_len (eq' (g x)) (map g xs) ≡ position_or_len (eq x) xs
  position-map x [] x-ok ok = refl
  position-map x (y ∷ ys) x-ok ok =
      ap₂ (λ b n. cond (not b) (1 + n) 0) (eq-name x y x-ok (ok y (inl refl)))
      (position-map x ys x-ok (λ z is. ok z (inr is)))

  -- the first of equal names each are the names of the first of equal elements each
  pub map-each_once : (seen xs : List X) → ((x : X) → In x seen → P x) → ((x : X) → In x xs → P x)
      → map g (each_once eq seen xs) ≡ each_once eq' (map g seen) (map g xs)
  map-each_once seen [] seen-ok ok = refl
  map-each_once seen (x ∷ xs) seen-ok ok =
      let x-ok : P x = ok x (inl refl) in
      elim (In_or_not eq equality x seen) [
        | inl old ↦
            ap (map g) (each_once-old eq equality seen x xs old)
            ∙ map-each_once seen xs seen-ok (λ y is. ok y (inr is))
            ∙ sym (each_once-old eq' equality' (map g seen) (g x) (map g xs) (In-map g x seen old))
        | inr new ↦
            ap (map g) (each_once-new eq equality seen x xs new)
            ∙ map-each_once (seen ++ x ∷ []) xs (λ y is. elim (In-append y seen (x ∷ []) is) [
              | inl before ↦ seen-ok y before
              | inr last ↦ elim last [ inl same ↦ subst P (sym same) x-ok | inr none ↦ absurd none ]
            ]) (λ y is. ok y (inr is)) ∙ ap (λ s. each_once eq' s (map g xs)) (map-append g seen (x
            ∷ [])) ∙ sym (each_once-new eq' equality' (map g seen) (g x) (map g xs) (λ is.
            let other = In-from_map g (g x) seen is in new (subst (λ v. In v seen)
            (sym (apart x other.0 x-ok (seen-ok other.0 other.1) other.2)) other.1)))
      ]

-- two ways through a list that agree at each element
map-square : {X Y Z W : Type 0} (h : Y → W) (g : X → Y) (k : Z → W) (p : X → Z) (xs : List X)
    → ((x : X) → In x xs → h (g x) ≡ k (p x)) → map h (map g xs) ≡ map k (map p xs)
map-square h g k p [] agree = refl
map-square h g k p (x ∷ xs) agree =
    ap₂ (λ v vs. v ∷ vs) (agree x (inl refl)) (map-square h g k p xs (λ y is. agree y (inr is)))

module _ {A B : Type 0} (f : A → B) where
  pub preorder-map_tree : (t : Tree A) → preorder (map_tree f t) ≡ map (map_tree f) (preorder t)
  preorder-map_tree (leaf a) = refl
  preorder-map_tree (node l r) =
      ap (λ xs. map_tree f (node l r) ∷ xs)
      (ap₂ (λ a b. a ++ b) (preorder-map_tree l) (preorder-map_tree r)
      ∙ sym (map-append (map_tree f) (preorder l) (preorder r)))

  leaves-map_tree : (t : Tree A) → leaves (map_tree f t) ≡ map f (leaves t)
  leaves-map_tree (leaf a) = refl
  leaves-map_tree (node l r) =
      ap₂ (λ a b. a ++ b) (leaves-map_tree l) (leaves-map_tree r)
      ∙ sym (map-append f (leaves l) (leaves r))

module _ {A : Type 0} (P : A → Type 0) where
  -- what holds of all leaves of a tree holds of those of its nodes
  pub AllLeaves-preorder : (s t : Tree A) → AllLeaves P t → In s (preorder t) → AllLeaves P s
  AllLeaves-preorder s (leaf a) all is = absurd is
  AllLeaves-preorder s (node l r) all (inl same) = subst (AllLeaves P) (sym same) all
  AllLeaves-preorder s (node l r) all (inr rest) =
      elim (In-append s (preorder l) (preorder r) rest) [
        | inl left ↦ AllLeaves-preorder s l all.0 left
        | inr right ↦ AllLeaves-preorder s r all.1 right
      ]

  AllLeaves-leaves : (a : A) (t : Tree A) → AllLeaves P t → In a (leaves t) → P a
  AllLeaves-leaves a (leaf b) all (inl same) = subst P (sym same) all
  AllLeaves-leaves a (leaf b) all (inr none) = absurd none
  AllLeaves-leaves a (node l r) all is =
      elim (In-append a (leaves l) (leaves r) is) [
        | inl left ↦ AllLeaves-leaves a l all.0 left
        | inr right ↦ AllLeaves-leaves a r all.1 right
      ]

pub AllLeaves-weaker : {A : Type 0} (P Q : A → Type 0)
    → ((a : A) → P a → Q a) → (t : Tree A) → AllLeaves P t → AllLeaves Q t
AllLeaves-weaker P Q more (leaf a) all = more a all
AllLeaves-weaker P Q more (node l r) all =
    (AllLeaves-weaker P Q more l all.0, AllLeaves-weaker P Q more r all.1)

-- each leaf of a tree is one
pub AllLeaves-itself : {A : Type 0} (t : Tree A) → AllLeaves (HasLeaf t) t
AllLeaves-itself (leaf a) = refl
AllLeaves-itself (node l r) = (
  AllLeaves-weaker (HasLeaf l) (HasLeaf (node l r)) (λ a has. inl has) l (AllLeaves-itself l),
  AllLeaves-weaker (HasLeaf r) (HasLeaf (node l r)) (λ a has. inr has) r (AllLeaves-itself r),
)

module _ {A B : Type 0} (eq : A → A → Bool) (equality : IsEquality eq)
    (eq' : B → B → Bool) (equality' : IsEquality eq') (f : A → B) (P : A → Type 0)
    (apart : (a b : A) → P a → P b → f a ≡ f b → a ≡ b) where
  -- trees of such leaves stay apart
  pub map_tree-apart : (s t : Tree A) → AllLeaves P s → AllLeaves P t
      → map_tree f s ≡ map_tree f t → s ≡ t
  map_tree-apart (leaf a) (leaf b) s-ok t-ok same =
      let names : f a ≡ f b = cc in
      ap leaf (apart a b s-ok t-ok names)
  map_tree-apart (leaf a) (node l r) s-ok t-ok same = absurd (cc)
  map_tree-apart (node l r) (leaf b) s-ok t-ok same = absurd (cc)
  map_tree-apart (node l r) (node l' r') s-ok t-ok same =
      ap₂ node (map_tree-apart l l' s-ok.0 t-ok.0 (cc)) (map_tree-apart r r' s-ok.1 t-ok.1 (cc))

  pub inner-map_tree : (t : Tree A) → AllLeaves P t
      → inner eq' (map_tree f t) ≡ map (map_tree f) (inner eq t)
  inner-map_tree t all =
      ap (each_once (tree_eq eq') []) (preorder-map_tree f t)
      ∙ sym (map-each_once (tree_eq eq) (IsEquality-tree_eq eq equality) (tree_eq eq')
      (IsEquality-tree_eq eq' equality') (map_tree f) (AllLeaves P) map_tree-apart [] (preorder t)
      (λ s none. absurd none) (λ s is. AllLeaves-preorder P s t all is))

  pub leaf_order-map_tree : (t : Tree A) → AllLeaves P t
      → leaf_order eq' (map_tree f t) ≡ map f (leaf_order eq t)
  leaf_order-map_tree t all =
      ap (each_once eq' []) (leaves-map_tree f t) ∙ sym (map-each_once eq equality eq' equality' f P
      apart [] (leaves t) (λ a none. absurd none) (λ a is. AllLeaves-leaves P a t all is))

  -- the records of the nodes are renamed, and their positions stay
  member-map_tree : (nodes : List (Tree A))
      → ((s : Tree A) → In s nodes → AllLeaves P s) → (t : Tree A) → AllLeaves P t
      → member eq' (map (map_tree f) nodes) (map_tree f t) ≡ map_member f (member eq nodes t)
  member-map_tree nodes ok (leaf a) t-ok = refl
  member-map_tree nodes ok (node l r) t-ok =
      ap at (position-map (tree_eq eq) (IsEquality-tree_eq eq equality)
      (tree_eq eq') (IsEquality-tree_eq eq' equality') (map_tree f) (AllLeaves P) map_tree-apart
      (node l r) nodes t-ok ok)

  pair_of-map_tree : (nodes : List (Tree A))
      → ((s : Tree A) → In s nodes → AllLeaves P s) → (t : Tree A) → AllLeaves P t
      → pair_of eq' (map (map_tree f) nodes) (map_tree f t) ≡ map_pair f (pair_of eq nodes t)
  pair_of-map_tree nodes ok (leaf a) t-ok = refl
  pair_of-map_tree nodes ok (node l r) t-ok =
      let left = member-map_tree nodes ok l t-ok.0 in
      let right = member-map_tree nodes ok r t-ok.1 in
      λ i. (left i, right i)

  pub laid-map_tree : (t : Tree A) → AllLeaves P t
      → laid eq' (map_tree f t) ≡ map (map_pair f) (laid eq t)
  laid-map_tree (leaf a) all = refl
  laid-map_tree (node l r) all =
      let t : Tree A = node l r in
      let nodes : List (Tree A) = inner eq t in
      let ok : (s : Tree A) → In s nodes → AllLeaves P s =
      λ s is.
      elim (In-each_once (tree_eq eq) (IsEquality-tree_eq eq equality) s [] (preorder t) is) [
        | inl none ↦ absurd none
        | inr inside ↦ AllLeaves-preorder P s t all inside
      ] in
      ap (λ ns. map (pair_of eq' ns) ns) (inner-map_tree t all)
      ∙ map-square (pair_of eq' (map (map_tree f) nodes)) (map_tree f) (map_pair f)
      (pair_of eq nodes) nodes (λ s is. pair_of-map_tree nodes ok s (ok s is))

pub RenamedLayout-holds : (A B : Type 0) → RenamedLayout A B
RenamedLayout-holds A B eq equality eq' equality' f t apart =
    let all = AllLeaves-itself t in (
      laid-map_tree eq equality eq' equality' f (HasLeaf t) apart t all,
      leaf_order-map_tree eq equality eq' equality' f (HasLeaf t) apart t all,
      ap length (inner-map_tree eq equality eq' equality' f (HasLeaf t) apart t all)
          ∙ length-map (inner eq t) (map_tree f),
    )
