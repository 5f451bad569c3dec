-- Lemmas on reduced trees: what a constant tree is, the three laws,
-- and what a renaming of the leaves keeps.
use Rattle.std.proofs.Common.{◌≡◌, ◌≢◌, ℕ, zero, suc, ◌+◌, ◌-◌, ◌^◌, ◌<◌, ◌≤◌, max, ◌⊎◌, inl, inr}
use Rattle.std.proofs.Common.{Bool, true, false, true≢false, if◌then◌else◌, List, ◌∷◌, length, Some}
use Rattle.std.proofs.Common.{refl, sym, ◌∙◌, ap, subst, nat_eq, arith, rules}
use Rattle.std.proofs.lemmas.Bool.{cases_lt}
use Rattle.std.proofs.Math.Nat.{two-pow-succ}
use Rattle.geo_addr.specs.Bits.{bits_of, number_of}
use Rattle.geo_addr.proofs.BitsLemmas.{bits_of-lower, bits_of-upper, length-bits_of}
use Rattle.geo_addr.proofs.BitsLemmas.{OneListOfBits-each}
use Rattle.trie_core.specs.Tree.{Tree, leaf, node, height, look, IsReduced, join, tree}
use Rattle.trie_core.specs.Laws.{IsReducedWithin, SameLookups, IsEquality, Answers, Canonical}
use Rattle.trie_core.specs.Laws.{TreeOfFunction, OnlyTree}

-- the test of two numbers tells equal leaves from others
pub nat_equality : IsEquality nat_eq
nat_equality x y = (λ e. search rules, λ e. search rules)

module _ {A : Type 0} where
  -- a reduced tree that answers the same everywhere is that leaf
  pub leaf_from_constant : (n : ℕ) (t : Tree A) (a : A) → height t ≤ n → IsReduced t
      → ((w : List Bool) → length w ≡ n → look t w ≡ Some a) → t ≡ leaf a
  leaf_from_constant n (leaf b) a low reduced same =
      ap leaf (cc (same (bits_of n 0) (length-bits_of n 0)))
  leaf_from_constant zero (node l r) a low reduced same = absurd (omega arith)
  leaf_from_constant (suc n) (node l r) a low reduced same =
      let left : l ≡ leaf a =
      leaf_from_constant n l a (omega arith) reduced.1 (λ w long. same (false ∷ w) (omega arith)) in
      let right : r ≡ leaf a =
      leaf_from_constant n r a (omega arith) reduced.2 (λ w long. same (true ∷ w) (omega arith)) in
      absurd (reduced.0 a left right)

  -- equal lookups, equal trees
  pub same_from_lookups : (n : ℕ) (s t : Tree A) → IsReducedWithin n s → IsReducedWithin n t
      → SameLookups n s t → s ≡ t
  same_from_lookups n (leaf a) t s-ok t-ok same =
      sym (leaf_from_constant n t a t-ok.0 t-ok.1 (λ w long. sym (same w long)))
  same_from_lookups n (node l r) (leaf a) s-ok t-ok same =
      leaf_from_constant n (node l r) a s-ok.0 s-ok.1 same
  same_from_lookups zero (node l r) (node l' r') s-ok t-ok same = absurd (omega (arith, s-ok.0))
  same_from_lookups (suc n) (node l r) (node l' r') s-ok t-ok same =
      let left : l ≡ l' = same_from_lookups n l l' (
        omega (arith, s-ok.0),
        s-ok.1.1,
      ) (omega (arith, t-ok.0), t-ok.1.1) (λ w long. same (false ∷ w) (omega arith)) in
      let right : r ≡ r' = same_from_lookups n r r' (
        omega (arith, s-ok.0),
        s-ok.1.2,
      ) (omega (arith, t-ok.0), t-ok.1.2) (λ w long. same (true ∷ w) (omega arith)) in
      cc

  module _ (eq : A → A → Bool) (equality : IsEquality eq) where
    -- two leaves join to one leaf where they are equal, and to their node otherwise
    pub join-leaves : (a b : A) → ((a ≡ b) × (join eq (leaf a) (leaf b) ≡ leaf a))
        ⊎ ((a ≢ b) × (join eq (leaf a) (leaf b) ≡ node (leaf a) (leaf b)))
    join-leaves a b =
        elim (eq a b)
        as (λ v. eq a b ≡ v → ((a ≡ b) × ((if v then leaf a else node (leaf a) (leaf b)) ≡ leaf a))
        ⊎ ((a ≢ b) × ((if v then leaf a else node (leaf a) (leaf b)) ≡ node (leaf a) (leaf b)))) [
          | true ↦ λ is. inl ((equality a b).0 is, refl)
          | false ↦ λ is. inr ((λ same. true≢false (sym ((equality a b).1 same) ∙ is)), refl)
        ] refl

    -- a join of two trees that are no equal leaves is their node
    pub join-node : (l r : Tree A) → ((a : A) → l ≡ leaf a → r ≢ leaf a) → join eq l r ≡ node l r
    join-node (leaf a) (leaf b) apart =
        elim (join-leaves a b) [
          | inl same ↦ absurd (apart a refl (ap leaf (sym same.0)))
          | inr other ↦ other.1
        ]
    join-node (leaf a) (node l r) apart = refl
    join-node (node l r) t apart = refl

    -- a join of twice the same leaf is the leaf
    pub join-leaf : (a : A) → join eq (leaf a) (leaf a) ≡ leaf a
    join-leaf a = elim (join-leaves a a) [ inl same ↦ same.1 | inr other ↦ absurd (other.0 refl) ]

    -- a join answers as the node does
    pub look-join : (l r : Tree A) (b : Bool) (w : List Bool)
        → look (join eq l r) (b ∷ w) ≡ look (node l r) (b ∷ w)
    look-join (leaf a) (leaf b) false w =
        elim (join-leaves a b) [
          | inl same ↦ ap (λ t. look t (false ∷ w)) same.1
          | inr other ↦ ap (λ t. look t (false ∷ w)) other.1
        ]
    look-join (leaf a) (leaf b) true w =
        elim (join-leaves a b) [
          | inl same ↦ ap (λ t. look t (true ∷ w)) same.1 ∙ ap Some same.0
          | inr other ↦ ap (λ t. look t (true ∷ w)) other.1
        ]
    look-join (leaf a) (node l r) side w = refl
    look-join (node l r) t side w = refl

    -- a join is no higher than the node
    pub height-join : (l r : Tree A) → height (join eq l r) ≤ suc (max (height l) (height r))
    height-join (leaf a) (leaf b) =
        elim (join-leaves a b) [
          | inl same ↦ omega (arith, ap height same.1)
          | inr other ↦ omega (arith, ap height other.1)
        ]
    height-join (leaf a) (node l r) = omega arith
    height-join (node l r) t = omega arith

    -- a join of reduced trees is reduced
    pub IsReduced-join : (l r : Tree A) → IsReduced l → IsReduced r → IsReduced (join eq l r)
    IsReduced-join (leaf a) (leaf b) left right =
        elim (join-leaves a b) [
          | inl same ↦ subst IsReduced (sym same.1) tt
          | inr other ↦ subst IsReduced (sym other.1) ((λ c first second. other.0 (cc)), tt, tt)
        ]
    IsReduced-join (leaf a) (node l r) left right = ((λ c _ same. absurd (cc)), left, right)
    IsReduced-join (node l r) t left right = ((λ c same _. absurd (cc)), left, right)

    -- the tree of a function is no higher than its block, and reduced
    pub IsReducedWithin-tree : (f : ℕ → A) (n first : ℕ) → IsReducedWithin n (tree eq f n first)
    unfolding tree
    IsReducedWithin-tree f zero first = (omega arith, tt)
    IsReducedWithin-tree f (suc n) first =
        let l = IsReducedWithin-tree f n first in
        let r = IsReducedWithin-tree f n (first + 2 ^ n) in (
          omega (arith, height-join (tree eq f n first) (tree eq f n (first + 2 ^ n)), l.0, r.0),
          IsReduced-join _ _ l.1 r.1,
        )

    -- the tree of a function answers it, counted from the block's first address
    pub look-tree : (f : ℕ → A) (n first a : ℕ) → a < 2 ^ n
        → look (tree eq f n first) (bits_of n a) ≡ Some (f (first + a))
    unfolding tree
    look-tree f zero first a below = ap (λ b. Some (f b)) (omega arith)
    look-tree f (suc n) first a below =
        elim (cases_lt a (2 ^ n)) [
          | inl low ↦
              ap (look (tree eq f (suc n) first)) (bits_of-lower n a low)
              ∙ look-join (tree eq f n first) (tree eq f n (first + 2 ^ n)) false (bits_of n a)
              ∙ look-tree f n first a low
          | inr high ↦
              let rest : ℕ = a - 2 ^ n in
              let less : rest < 2 ^ n = omega (arith, two-pow-succ n) in
              let is : a ≡ 2 ^ n + rest = omega arith in
              let landed : first + 2 ^ n + rest ≡ first + a = omega arith in
              ap (λ b. look (tree eq f (suc n) first) (bits_of (suc n) b)) is
              ∙ ap (look (tree eq f (suc n) first)) (bits_of-upper n rest less)
              ∙ look-join (tree eq f n first) (tree eq f n (first + 2 ^ n)) true (bits_of n rest)
              ∙ look-tree f n (first + 2 ^ n) rest less ∙ ap (λ b. Some (f b)) landed
        ]

  -- equal answers at each address, equal lookups
  pub SameLookups-from_answers : (n : ℕ) (f : ℕ → A) (s t : Tree A) → Answers n f s → Answers n f t
      → SameLookups n s t
  SameLookups-from_answers n f s t s-answers t-answers w long =
      let one = OneListOfBits-each n in
      let same : look s (bits_of n (number_of w)) ≡ look t (bits_of n (number_of w)) =
      s-answers (number_of w) (one.below w long)
      ∙ sym (t-answers (number_of w) (one.below w long)) in
      subst (λ v. look s v ≡ look t v) (one.again w long) same

  -- the three laws
  pub Canonical-holds : Canonical A
  Canonical-holds = same_from_lookups

  pub TreeOfFunction-holds : TreeOfFunction A
  TreeOfFunction-holds eq equality f n = (
    IsReducedWithin-tree eq equality f n 0,
    λ a below. look-tree eq equality f n 0 a below ∙ ap (λ b. Some (f b)) (omega arith),
  )

  pub OnlyTree-holds : OnlyTree A
  OnlyTree-holds eq equality f n t t-ok answers =
      let law = TreeOfFunction-holds eq equality f n in
      same_from_lookups n t (tree eq f n 0) t-ok law.0
      (SameLookups-from_answers n f t (tree eq f n 0) answers law.1)
