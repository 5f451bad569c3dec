-- Lemmas on a tree with its leaves renamed.
use Rattle.std.proofs.Common.{◌≡◌, ℕ, zero, suc, ◌^◌, ◌<◌, ◌≤◌, inl, inr, Bool, true, false, List}
use Rattle.std.proofs.Common.{[], ◌∷◌, length, Some, option_map, refl, sym, ◌∙◌, ap, subst, arith}
use Rattle.geo_addr.specs.Bits.{bits_of, number_of}
use Rattle.geo_addr.proofs.BitsLemmas.{OneListOfBits-each, length-bits_of}
use Rattle.trie_core.specs.Tree.{Tree, leaf, node, height, look, IsReduced, HasLeaf, AllLeaves}
use Rattle.trie_core.specs.Tree.{map_tree, tree}
use Rattle.trie_core.specs.Laws.{Renamed, IsReducedWithin, IsEquality}
use Rattle.trie_core.proofs.TreeLemmas.{OnlyTree-holds}

module _ {A : Type 0} where
  -- what holds of all leaves holds of each
  pub leaf-AllLeaves : (P : A → Type 0) (t : Tree A) (a : A) → AllLeaves P t → HasLeaf t a → P a
  leaf-AllLeaves P (leaf b) a all is = subst P is all
  leaf-AllLeaves P (node l r) a all (inl left) = leaf-AllLeaves P l a all.0 left
  leaf-AllLeaves P (node l r) a all (inr right) = leaf-AllLeaves P r a all.1 right

module _ {A B : Type 0} (f : A → B) where
  pub height-map_tree : (t : Tree A) → height (map_tree f t) ≡ height t
  height-map_tree (leaf a) = refl
  height-map_tree (node l r) = omega (arith, height-map_tree l, height-map_tree r)

  pub look-map_tree : (t : Tree A) (w : List Bool) → look (map_tree f t) w ≡ option_map f (look t w)
  look-map_tree (leaf a) w = refl
  look-map_tree (node l r) [] = refl
  look-map_tree (node l r) (false ∷ w) = look-map_tree l w
  look-map_tree (node l r) (true ∷ w) = look-map_tree r w

  -- a renamed tree that is a leaf was a leaf
  pub leaf_before-map_tree : (t : Tree A) (b : B) → map_tree f t ≡ leaf b
      → (a : A) × (t ≡ leaf a) × (f a ≡ b)
  leaf_before-map_tree (leaf a) b is = (a, refl, cc)
  leaf_before-map_tree (node l r) b is = absurd (cc)

  -- different names for different leaves keep a tree reduced
  pub IsReduced-map_tree : (t : Tree A)
      → ((a b : A) → HasLeaf t a → HasLeaf t b → f a ≡ f b → a ≡ b) → IsReduced t
      → IsReduced (map_tree f t)
  IsReduced-map_tree (leaf a) apart reduced = tt
  IsReduced-map_tree (node l r) apart reduced = (
    λ b left right.
        let x = leaf_before-map_tree l b left in
        let y = leaf_before-map_tree r b right in
        let in-l : HasLeaf l x.0 = subst (λ t. HasLeaf t x.0) (sym x.1) refl in
        let in-r : HasLeaf r y.0 = subst (λ t. HasLeaf t y.0) (sym y.1) refl in
        let same : x.0 ≡ y.0 = apart x.0 y.0 (inl in-l) (inr in-r) (x.2 ∙ sym y.2) in
        reduced.0 x.0 x.1 (y.1 ∙ ap leaf (sym same)),
    IsReduced-map_tree l (λ a b at-a at-b. apart a b (inl at-a) (inl at-b)) reduced.1,
    IsReduced-map_tree r (λ a b at-a at-b. apart a b (inr at-a) (inr at-b)) reduced.2,
  )

pub Renamed-holds : (A B : Type 0) → Renamed A B
Renamed-holds A B f n t apart t-ok = (
  (omega (arith, height-map_tree f t, t-ok.0), IsReduced-map_tree f t apart t-ok.1),
  look-map_tree f t,
)

-- a tree whose leaves were renamed is the tree of what its names answer
pub map_tree-is_tree : {A B : Type 0} (f : A → B) (eq : B → B → Bool) → IsEquality eq
    → (wanted : ℕ → B) (n : ℕ) (t : Tree A)
    → ((a b : A) → HasLeaf t a → HasLeaf t b → f a ≡ f b → a ≡ b) → IsReducedWithin n t
    → ((at : ℕ) → at < 2 ^ n → option_map f (look t (bits_of n at)) ≡ Some (wanted at))
    → map_tree f t ≡ tree eq wanted n 0
map_tree-is_tree {A} {B} f eq equality wanted n t apart t-ok answers =
    OnlyTree-holds eq equality wanted n (map_tree f t) (Renamed-holds A B f n t apart t-ok).0
    (λ at below. look-map_tree f t (bits_of n at) ∙ answers at below)

-- each leaf of a tree is the answer at some address
pub address_of_leaf : {A : Type 0} (n : ℕ) (t : Tree A) (a : A) → height t ≤ n → HasLeaf t a
    → (w : List Bool) × (length w ≡ n) × (look t w ≡ Some a)
address_of_leaf n (leaf b) a low is = (bits_of n 0, length-bits_of n 0, ap Some is)
address_of_leaf zero (node l r) a low has = absurd (omega arith)
address_of_leaf (suc n) (node l r) a low (inl left) =
    let below = address_of_leaf n l a (omega arith) left in
    (false ∷ below.0, ap suc below.1, below.2)
address_of_leaf (suc n) (node l r) a low (inr right) =
    let below = address_of_leaf n r a (omega arith) right in
    (true ∷ below.0, ap suc below.1, below.2)

-- so what holds of each answer holds of each leaf
pub leaf_from_answers : {A : Type 0} (P : A → Type 0) (n : ℕ) (t : Tree A) → height t ≤ n
    → ((at : ℕ) (a : A) → at < 2 ^ n → look t (bits_of n at) ≡ Some a → P a)
    → (a : A) → HasLeaf t a → P a
leaf_from_answers P n t low answers a has =
    let found = address_of_leaf n t a low has in
    let one = OneListOfBits-each n in
    let w = found.0 in
    answers (number_of w) a (one.below w found.1)
    (subst (λ v. look t v ≡ Some a) (sym (one.again w found.1)) found.2)
