-- The first of those that pass a test, in two lists that cover one another:
-- what counts of it is the same.
use Rattle.std.proofs.Common.{◌≡◌, Bool, true, false, cond, inl, inr, List, [], ◌∷◌, Option, None}
use Rattle.std.proofs.Common.{Some, Ordering, Less, Equal, Greater, refl, sym, ap, ◌∙◌, subst}
use Rattle.std.proofs.Common.{is_lt}
use Rattle.std.specs.Cmp.{IsTotalOrder, IsStrictWeakOrder}
use Rattle.std.specs.List.{All, filter}
use Rattle.std.specs.Option.{option_map}
use Rattle.std.specs.Ordering.{ordering_reverse}
use Rattle.std.proofs.lemmas.List.Elements.{recursion_from_All}
use Rattle.std.proofs.lemmas.List.Sorted.{ranks_by}
use Rattle.geo_terms.specs.First.{IsFirst, first_of}
use Rattle.geo_terms.proofs.FirstLemmas.{first_is_first}
use Rattle.geo_terms.proofs.Members.{Among, all_among, among_filter, among_from_contains}
use Rattle.source_changes.proofs.Partners.{Covers}

among_kept : {X : Type 0} (p : X → Bool) (x : X) (xs : List X)
    → Among x (filter p xs) → Among x xs × (p x ≡ true)
among_kept p x [] is = absurd is
among_kept {X} p x (y ∷ ys) is =
    elim (p y) as (λ b. p y ≡ b → Among x (cond b (y ∷ filter p ys) (filter p ys))
    → Among x (y ∷ ys) × (p x ≡ true)) [
      | true ↦ λ e. elim [
        | inl here ↦ (inl here, subst (λ (z : X). p z ≡ true) here e)
        | inr later ↦ let h = among_kept p x ys later in (inr h.0, h.1)
      ]
      | false ↦ λ e later. let h = among_kept p x ys later in (inr h.0, h.1)
    ] refl is

-- in a total order two members of which neither is less tie
neither_less : (o u : Ordering) → u ≡ ordering_reverse o → is_lt o ≡ false
    → is_lt u ≡ false → o ≡ Equal
neither_less Less u e h k = absurd (let f : true ≡ false = h in cc)
neither_less Equal u e h k = refl
neither_less Greater u e h k = absurd (let f : true ≡ false = sym (ap is_lt e) ∙ k in cc)

module _ {X K V : Type 0} (order : X → X → Ordering) (total : IsTotalOrder order) (key : X → K)
    (bare : X → X) (view : X → V)
    (bare_by_key : (x y : X) → key x ≡ key y → bare x ≡ bare y)
    (view_by_key : (x y : X) → key x ≡ key y → view x ≡ view y)
    (finer : (x y : X) → is_lt (order (bare x) (bare y)) ≡ true → is_lt (order x y) ≡ true) where
  not_finer : (x y : X) → is_lt (order x y) ≡ false → is_lt (order (bare x) (bare y)) ≡ false
  not_finer x y not_less =
      elim (is_lt (order (bare x) (bare y)))
      as (λ b. is_lt (order (bare x) (bare y)) ≡ b → b ≡ false) [
        | true ↦ λ e. absurd (let f : true ≡ false = sym (finer x y e) ∙ not_less in cc)
        | false ↦ λ e. refl
      ] refl

  -- the partner of the one first ties with the other first
  module _ (p : X → Bool) (xs ys : List X) (there : Covers key p xs ys) (back : Covers key p ys xs)
      (tied : (y z : X) → Among y ys → Among z ys → p y ≡ true → p z ≡ true
      → order (bare y) (bare z) ≡ Equal → view y ≡ view z) where
    both_first : (b c : X) → Among b xs → p b ≡ true
        → Among c ys → p c ≡ true → ((x : X) → Among x xs → p x ≡ true → is_lt (order x b) ≡ false)
        → ((y : X) → Among y ys → p y ≡ true → is_lt (order y c) ≡ false) → view b ≡ view c
    both_first b c b_is b_passes c_is c_passes b_least c_least =
        let (b', b'_is, b'_passes, b_key) = there b b_is b_passes in
        let (c', c'_is, c'_passes, c_key) = back c c_is c_passes in
        let one : is_lt (order (bare b') (bare c)) ≡ false =
        not_finer b' c (c_least b' b'_is b'_passes) in
        let other : is_lt (order (bare c') (bare b)) ≡ false =
        not_finer c' b (b_least c' c'_is c'_passes) in
        let turned : is_lt (order (bare c) (bare b')) ≡ false =
        (λ i. is_lt (order (bare_by_key c c' c_key i) (sym (bare_by_key b b' b_key) i))) ∙ other in
        view_by_key b b' b_key
        ∙ tied b' c b'_is c_is b'_passes c_passes (neither_less (order (bare b') (bare c))
        (order (bare c) (bare b')) (total.antisymm (bare c) (bare b')) one turned)

    none_there : (xs ys : List X) → Covers key p ys xs → filter p xs ≡ []
        → (c : X) → Among c (filter p ys) → ⊥
    none_there xs ys back none c is =
        let kept = among_kept p c ys is in
        let (x, x_is, x_passes, e) = back c kept.0 kept.1 in
        subst (λ (zs : List X). Among x zs) none (among_filter p x xs x_is x_passes)

    least_of : (zs : List X) (b : X) → All (λ y. is_lt (order y b) ≡ false) (filter p zs) → (x : X)
        → Among x zs → p x ≡ true → is_lt (order x b) ≡ false
    least_of zs b all x is passes =
        all_among (λ y. is_lt (order y b) ≡ false) x
        (filter p zs) (recursion_from_All (λ y. is_lt (order y b) ≡ false) (filter p zs) all)
        (among_filter p x zs is passes)

    compare_firsts : (f g : Option X) → IsFirst (λ x y. is_lt (order x y)) (filter p xs) f
        → IsFirst (λ x y. is_lt (order x y)) (filter p ys) g → option_map view f ≡ option_map view g
    compare_firsts None None h k = refl
    compare_firsts None (Some c) h k =
        absurd (none_there xs ys back h c (among_from_contains c (filter p ys) k.0))
    compare_firsts (Some b) None h k =
        absurd (none_there ys xs there k b (among_from_contains b (filter p xs) h.0))
    compare_firsts (Some b) (Some c) h k =
        let b_in = among_kept p b xs (among_from_contains b (filter p xs) h.0) in
        let c_in = among_kept p c ys (among_from_contains c (filter p ys) k.0) in
        ap Some (both_first b c b_in.0 b_in.1 c_in.0 c_in.1 (least_of xs b h.1) (least_of ys c k.1))

    pub same_first : option_map view (first_of (λ x y. is_lt (order x y)) (filter p xs))
        ≡ option_map view (first_of (λ x y. is_lt (order x y)) (filter p ys))
    same_first =
        let weak : IsStrictWeakOrder (λ x y. is_lt (order x y)) = ranks_by total (λ x. x) in
        compare_firsts _ _ (first_is_first (λ x y. is_lt (order x y)) weak (filter p xs))
        (first_is_first (λ x y. is_lt (order x y)) weak (filter p ys))
