-- Lemmas on the elements of lists, and on the first of equal elements each.
use Rattle.std.proofs.Common.{◌≡◌, ◌⊎◌, inl, inr, Bool, true, false, true≢false, ◌||◌}
use Rattle.std.proofs.Common.{if◌then◌else◌, List, [], ◌∷◌, ◌++◌, map, filter, Contains, refl, sym}
use Rattle.std.proofs.Common.{◌∙◌, ap, subst, append-nil}
use Rattle.std.specs.Cmp.{IsEquivalence}
use Rattle.std.specs.List.{list_any, IsDistinct}
use Rattle.std.proofs.lemmas.Bool.{or_cases}
use Rattle.std.proofs.lemmas.Bool.Decides.{same_from_decides}
use Rattle.std.proofs.lemmas.List.Elements.{filter-append}
use Rattle.std.proofs.lemmas.Map.Keys.{IsDistinct-push}
use Rattle.std.proofs.lemmas.Map.Views.{Contains-from_any, list_any-from_Contains}
use Rattle.trie_core.specs.Laws.{IsEquality}
use Rattle.least_nodes.specs.Layout.{each_once}

module _ {X : Type 0} where
  -- x is an element of the list
  abbrev pub In : X → List X → Type 0
  In x [] = ⊥
  In x (y ∷ ys) = (x ≡ y) ⊎ In x ys

  pub In-left : (x : X) (xs ys : List X) → In x xs → In x (xs ++ ys)
  In-left x [] ys is = absurd is
  In-left x (y ∷ xs) ys (inl same) = inl same
  In-left x (y ∷ xs) ys (inr rest) = inr (In-left x xs ys rest)

  pub In-right : (x : X) (xs ys : List X) → In x ys → In x (xs ++ ys)
  In-right x [] ys is = is
  In-right x (y ∷ xs) ys is = inr (In-right x xs ys is)

  -- an element of two lists is one of the first or of the second
  pub In-append : (x : X) (xs ys : List X) → In x (xs ++ ys) → In x xs ⊎ In x ys
  In-append x [] ys is = inr is
  In-append x (y ∷ xs) ys (inl same) = inl (inl same)
  In-append x (y ∷ xs) ys (inr rest) =
      elim (In-append x xs ys rest) [ inl first ↦ inl (inr first) | inr second ↦ inr second ]

  -- one element more
  pub In_last : (x : X) (xs : List X) → In x (xs ++ x ∷ [])
  In_last x xs = In-right x xs (x ∷ []) (inl refl)

module _ {X Y : Type 0} (f : X → Y) where
  pub In-map : (x : X) (xs : List X) → In x xs → In (f x) (map f xs)
  In-map x [] is = absurd is
  In-map x (y ∷ ys) (inl same) = inl (ap f same)
  In-map x (y ∷ ys) (inr rest) = inr (In-map x ys rest)

  pub In-from_map : (y : Y) (xs : List X) → In y (map f xs) → (x : X) × In x xs × (y ≡ f x)
  In-from_map y [] is = absurd is
  In-from_map y (x ∷ xs) (inl same) = (x, inl refl, same)
  In-from_map y (x ∷ xs) (inr rest) =
      let more = In-from_map y xs rest in
      (more.0, inr more.1, more.2)

or_true : (b : Bool) → (b || true) ≡ true
or_true true = refl
or_true false = refl

module _ {X : Type 0} (eq : X → X → Bool) (equality : IsEquality eq) where
  -- the search finds the elements alone
  pub In-from_any : (x : X) (xs : List X) → list_any (eq x) xs ≡ true → In x xs
  In-from_any x [] found = absurd (cc)
  In-from_any x (y ∷ ys) found =
      elim (or_cases (eq x y) (list_any (eq x) ys) found) [
        | inl here ↦ inl ((equality x y).0 here)
        | inr later ↦ inr (In-from_any x ys later)
      ]

  -- and finds each
  pub any-from_In : (x : X) (xs : List X) → In x xs → list_any (eq x) xs ≡ true
  any-from_In x [] is = absurd is
  any-from_In x (y ∷ ys) (inl same) = ap (λ b. b || list_any (eq x) ys) ((equality x y).1 same)
  any-from_In x (y ∷ ys) (inr rest) =
      ap (λ b. eq x y || b) (any-from_In x ys rest) ∙ or_true (eq x y)

  -- what is no element it does not find
  pub none-from_not_In : (x : X) (xs : List X) → (In x xs → ⊥) → list_any (eq x) xs ≡ false
  none-from_not_In x xs out = by (list_any (eq x) xs) refl
    where
      by : (found : Bool) → list_any (eq x) xs ≡ found → list_any (eq x) xs ≡ false
      by true is = absurd (out (In-from_any x xs is))
      by false is = is

  -- each element is one of the list or not
  pub In_or_not : (x : X) (xs : List X) → In x xs ⊎ (In x xs → ⊥)
  In_or_not x xs = by (list_any (eq x) xs) refl
    where
      by : (found : Bool) → list_any (eq x) xs ≡ found → In x xs ⊎ (In x xs → ⊥)
      by true is = inl (In-from_any x xs is)
      by false is = inr (λ has. true≢false (sym (any-from_In x xs has) ∙ is))

  -- a test of equality is an equivalence
  pub equivalence : IsEquivalence eq
  equivalence = record {
    refl = λ x. (equality x x).1 refl;
    symm =
        λ x y. same_from_decides (eq x y) (eq y x) (equality x y)
        (λ e. sym ((equality y x).0 e), λ same. (equality y x).1 (sym same));
    congr = λ x y z same. ap (λ v. eq v z) ((equality x y).0 same);
  }

  pub In-from_Contains : (x : X) (xs : List X) → Contains xs x → In x xs
  In-from_Contains x xs has = In-from_any x xs (list_any-from_Contains equivalence x xs has)

  pub Contains-from_In : (x : X) (xs : List X) → In x xs → Contains xs x
  Contains-from_In x xs is =
      Contains-from_any (λ a b found. (equality a b).0 found) x xs (any-from_In x xs is)

  -- ---- the first of equal elements each

  -- an element that was seen before is passed over
  pub each_once-old : (seen : List X) (x : X) (xs : List X) → In x seen
      → each_once eq seen (x ∷ xs) ≡ each_once eq seen xs
  each_once-old seen x xs old =
      ap (λ (b : Bool). if b then each_once eq seen xs else each_once eq (seen ++ x ∷ []) xs)
      (any-from_In x seen old)

  -- and one that was not goes last
  pub each_once-new : (seen : List X) (x : X) (xs : List X)
      → (In x seen → ⊥) → each_once eq seen (x ∷ xs) ≡ each_once eq (seen ++ x ∷ []) xs
  each_once-new seen x xs new =
      ap (λ (b : Bool). if b then each_once eq seen xs else each_once eq (seen ++ x ∷ []) xs)
      (none-from_not_In x seen new)

  -- elements that were all seen before add nothing
  pub each_once-known : (seen xs : List X)
      → ((x : X) → In x xs → In x seen) → each_once eq seen xs ≡ seen
  each_once-known seen [] all = refl
  each_once-known seen (x ∷ xs) all =
      each_once-old seen x xs (all x (inl refl)) ∙ each_once-known seen xs (λ y is. all y (inr is))

  -- two lists one after the other
  pub each_once-append : (seen xs ys : List X)
      → each_once eq seen (xs ++ ys) ≡ each_once eq (each_once eq seen xs) ys
  each_once-append seen [] ys = refl
  each_once-append seen (x ∷ xs) ys =
      elim (list_any (eq x) seen) as (λ b.
      (if b then each_once eq seen (xs ++ ys) else each_once eq (seen ++ x ∷ []) (xs ++ ys))
      ≡ each_once eq (if b then each_once eq seen xs else each_once eq (seen ++ x ∷ []) xs) ys) [
        | true ↦ each_once-append seen xs ys
        | false ↦ each_once-append (seen ++ x ∷ []) xs ys
      ]

  -- what was seen stays
  pub In-each_once-seen : (x : X) (seen xs : List X) → In x seen → In x (each_once eq seen xs)
  In-each_once-seen x seen [] is = is
  In-each_once-seen x seen (y ∷ ys) is =
      elim (In_or_not y seen) [
        | inl old ↦
            subst (In x) (sym (each_once-old seen y ys old)) (In-each_once-seen x seen ys is)
        | inr new ↦
            subst (In x) (sym (each_once-new seen y ys new))
            (In-each_once-seen x (seen ++ y ∷ []) ys (In-left x seen (y ∷ []) is))
      ]

  -- each element comes in
  pub In-each_once-new : (x : X) (seen xs : List X) → In x xs → In x (each_once eq seen xs)
  In-each_once-new x seen [] is = absurd is
  In-each_once-new x seen (y ∷ ys) (inl same) =
      elim (In_or_not y seen) [
        | inl old ↦
            In-each_once-seen x seen (y ∷ ys) (subst (λ v. In v seen) (sym same) old)
        | inr new ↦
            subst (In x) (sym (each_once-new seen y ys new)) (In-each_once-seen x
            (seen ++ y ∷ []) ys (subst (λ v. In v (seen ++ y ∷ [])) (sym same) (In_last y seen)))
      ]
  In-each_once-new x seen (y ∷ ys) (inr rest) =
      elim (In_or_not y seen) [
        | inl old ↦
            subst (In x) (sym (each_once-old seen y ys old)) (In-each_once-new x seen ys rest)
        | inr new ↦ subst (In x) (sym (each_once-new seen y ys new))
            (In-each_once-new x (seen ++ y ∷ []) ys rest)
      ]

  -- and nothing else
  pub In-each_once : (x : X) (seen xs : List X) → In x (each_once eq seen xs) → In x seen ⊎ In x xs
  In-each_once x seen [] is = inl is
  In-each_once x seen (y ∷ ys) is =
      elim (In_or_not y seen) [
        | inl old ↦ elim (In-each_once x seen ys (subst (In x) (each_once-old seen y ys old) is)) [
          | inl before ↦ inl before
          | inr later ↦ inr (inr later)
        ]
        | inr new ↦ elim (In-each_once x (seen ++ y ∷ []) ys
            (subst (In x) (each_once-new seen y ys new) is)) [
              | inl before ↦ elim (In-append x seen (y ∷ []) before) [
                | inl first ↦ inl first
                | inr last ↦ elim last [ inl same ↦ inr (inl same) | inr none ↦ absurd none ]
              ]
              | inr later ↦ inr (inr later)
            ]
      ]

  -- no two are equal
  pub IsDistinct-each_once : (seen xs : List X) → IsDistinct eq seen
      → IsDistinct eq (each_once eq seen xs)
  IsDistinct-each_once seen [] apart = apart
  IsDistinct-each_once seen (x ∷ xs) apart =
      elim (In_or_not x seen) [
        | inl old ↦ subst (IsDistinct eq) (sym (each_once-old seen x xs old))
            (IsDistinct-each_once seen xs apart)
        | inr new ↦
            subst (IsDistinct eq) (sym (each_once-new seen x xs new))
            (IsDistinct-each_once (seen ++ x ∷ []) xs
            (IsDistinct-push equivalence seen x apart (none-from_not_In x seen new)))
      ]

  pub IsDistinct-from_none : (xs : List X) → IsDistinct eq (each_once eq [] xs)
  unfolding IsDistinct
  IsDistinct-from_none xs = IsDistinct-each_once [] xs tt

  -- ---- the elements that pass a test

  module _ (test : X → Bool) where
    pub In-filter : (x : X) (xs : List X) → In x xs → test x ≡ true → In x (filter test xs)
    In-filter x [] is holds = absurd is
    In-filter x (y ∷ ys) (inl same) holds =
        let here : test y ≡ true = ap test (sym same) ∙ holds in
        subst (λ (b : Bool). In x (if b then y ∷ filter test ys else filter test ys))
        (sym here) (inl same)
    In-filter x (y ∷ ys) (inr rest) holds =
        elim (test y) as (λ b. In x (if b then y ∷ filter test ys else filter test ys)) [
          | true ↦ inr (In-filter x ys rest holds)
          | false ↦ In-filter x ys rest holds
        ]

    pub In-from_filter : (x : X) (xs : List X) → In x (filter test xs) → In x xs × (test x ≡ true)
    In-from_filter x [] is = absurd is
    In-from_filter x (y ∷ ys) is =
        elim (test y) as (λ b. test y ≡ b → In x (if b then y ∷ filter test ys else filter test ys)
        → In x (y ∷ ys) × (test x ≡ true)) [
          | true ↦ λ holds at. elim at [
            | inl same ↦ (inl same, ap test same ∙ holds)
            | inr rest ↦ let more = In-from_filter x ys rest in (inr more.0, more.1)
          ]
          | false ↦ λ fails at. let more = In-from_filter x ys at in (inr more.0, more.1)
        ] refl is

    filter-pass : (x : X) (xs : List X) → test x ≡ true → filter test (x ∷ xs) ≡ x ∷ filter test xs
    filter-pass x xs holds =
        ap (λ (b : Bool). if b then x ∷ filter test xs else filter test xs) holds

    filter-fail : (x : X) (xs : List X) → test x ≡ false → filter test (x ∷ xs) ≡ filter test xs
    filter-fail x xs fails =
        ap (λ (b : Bool). if b then x ∷ filter test xs else filter test xs) fails

    filter-push-pass : (xs : List X) (x : X) → test x ≡ true
        → filter test (xs ++ x ∷ []) ≡ filter test xs ++ x ∷ []
    filter-push-pass xs x holds =
        filter-append test xs (x ∷ []) ∙ ap (λ l. filter test xs ++ l) (filter-pass x [] holds)

    filter-push-fail : (xs : List X) (x : X) → test x ≡ false
        → filter test (xs ++ x ∷ []) ≡ filter test xs
    filter-push-fail xs x fails =
        filter-append test xs (x ∷ []) ∙ ap (λ l. filter test xs ++ l) (filter-fail x [] fails)
        ∙ append-nil (filter test xs)

    -- to keep the first of equal elements each and to keep those that pass may be exchanged
    pub filter-each_once : (seen xs : List X)
        → filter test (each_once eq seen xs) ≡ each_once eq (filter test seen) (filter test xs)
    filter-each_once seen [] = refl
    filter-each_once seen (x ∷ xs) =
        elim (test x) as (λ b. test x ≡ b → filter test (each_once eq seen (x ∷ xs))
        ≡ each_once eq (filter test seen) (filter test (x ∷ xs))) [
          | true ↦ λ holds. elim (In_or_not x seen) [
            | inl old ↦
                ap (filter test) (each_once-old seen x xs old) ∙ filter-each_once seen xs ∙ sym
                (each_once-old (filter test seen) x (filter test xs) (In-filter x seen old holds))
                ∙ ap (each_once eq (filter test seen)) (sym (filter-pass x xs holds))
            | inr new ↦
                ap (filter test) (each_once-new seen x xs new)
                ∙ filter-each_once (seen ++ x ∷ []) xs
                ∙ ap (λ l. each_once eq l (filter test xs)) (filter-push-pass seen x holds)
                ∙ sym (each_once-new (filter test seen) x
                (filter test xs) (λ has. new (In-from_filter x seen has).0))
                ∙ ap (each_once eq (filter test seen)) (sym (filter-pass x xs holds))
          ]
          | false ↦ λ fails. elim (In_or_not x seen) [
            | inl old ↦
                ap (filter test) (each_once-old seen x xs old) ∙ filter-each_once seen xs
                ∙ ap (each_once eq (filter test seen)) (sym (filter-fail x xs fails))
            | inr new ↦
                ap (filter test) (each_once-new seen x xs new)
                ∙ filter-each_once (seen ++ x ∷ []) xs
                ∙ ap (λ l. each_once eq l (filter test xs)) (filter-push-fail seen x fails)
                ∙ ap (each_once eq (filter test seen)) (sym (filter-fail x xs fails))
          ]
        ] refl
