-- Two lists without what is the same at the same index of both: they are as far apart as they were.
use Rattle.std.proofs.Common.{◌≡◌, ◌∙◌, ℕ, ◌+◌, ◌<◌, Bool, true, List, [], ◌∷◌, ◌++◌, Bor, ap}
use Rattle.std.proofs.Common.{arith, drop, get_or, length, map, subst, sym, take, take-append-drop}
use Rattle.std.specs.Cmp.{IsEquivalence}
use Rattle.std.proofs.lemmas.List.{map-append, take_more}
use Rattle.source_changes.proofs.Counts.{one, one_same, times, times_append}

module _ {X : Type 0} (same : X → X → Bool) where
  -- each statement stands as much more often in the old list than in the new
  -- one as in the lists that are left
  abbrev pub AsFar : (old new old' new' : List X) → Type 0
  AsFar old new old' new' =
      (e : IsEquivalence same) (k : X)
      → times same e k old + times same e k new' ≡ times same e k old' + times same e k new

  pub far_rest : (old new old' new' xs ys : List X) → AsFar old new old' new'
      → AsFar (old ++ xs) (new ++ ys) (old' ++ xs) (new' ++ ys)
  far_rest old new old' new' xs ys far e k =
      let before = far e k in
      let a = times_append same e k old xs in
      let b = times_append same e k new ys in
      let c = times_append same e k old' xs in
      let d = times_append same e k new' ys in
      omega (arith, before, a, b, c, d)

  far_same : (old new old' new' : List X) (x y : X) → same x y ≡ true → AsFar old new old' new'
      → AsFar (old ++ x ∷ []) (new ++ y ∷ []) old' new'
  far_same old new old' new' x y tie far e k =
      let before = far e k in
      let a = times_append same e k old (x ∷ []) in
      let b = times_append same e k new (y ∷ []) in
      let both : one same e k x ≡ one same e k y = one_same same e k x y tie in
      omega (arith, before, a, b, both)

  module _ (old new : List X) (i : ℕ) (x y : X) (below : i < length old) (below' : i < length new)
      (is : x ≡ get_or old i x) (is' : y ≡ get_or new i y) where
    old_is : take (i + 1) old ≡ take i old ++ x ∷ []
    old_is = take_more old i x below ∙ ap (λ z. take i old ++ z ∷ []) (sym is)

    new_is : take (i + 1) new ≡ take i new ++ y ∷ []
    new_is = take_more new i y below' ∙ ap (λ z. take i new ++ z ∷ []) (sym is')

    further : (old' new' : List X) → AsFar (take i old ++ x ∷ []) (take i new ++ y ∷ []) old' new'
        → AsFar (take (i + 1) old) (take (i + 1) new) old' new'
    further old' new' far =
        subst (λ zs. AsFar zs (take (i + 1) new) old' new') (sym old_is)
        (subst (λ zs. AsFar (take i old ++ x ∷ []) zs old' new') (sym new_is) far)

    -- two statements at one index that are the same
    pub pair_passed : (old' new' : List X)
        → same x y ≡ true → AsFar (take i old) (take i new) old' new'
        → AsFar (take (i + 1) old) (take (i + 1) new) old' new'
    pair_passed old' new' tie far =
        further old' new' (far_same (take i old) (take i new) old' new' x y tie far)

    -- two statements at one index, kept
    pub pair_kept : (old' new' old'' new'' : List X) → old'' ≡ old' ++ x ∷ []
        → new'' ≡ new' ++ y ∷ [] → AsFar (take i old) (take i new) old' new'
        → AsFar (take (i + 1) old) (take (i + 1) new) old'' new''
    pair_kept old' new' old'' new'' more more' far =
        subst (λ zs. AsFar (take (i + 1) old) (take (i + 1) new) zs new'') (sym more)
        (subst (λ zs. AsFar (take (i + 1) old) (take (i + 1) new) (old' ++ x ∷ []) zs) (sym more')
        (further (old' ++ x ∷ []) (new' ++ y ∷ [])
        (far_rest (take i old) (take i new) old' new' (x ∷ []) (y ∷ []) far)))

  -- what stands behind the last index of both, kept
  pub rest_kept : (old new : List X) (n : ℕ) (old' new' old'' new'' : List X)
      → old'' ≡ old' ++ drop n old → new'' ≡ new' ++ drop n new
      → AsFar (take n old) (take n new) old' new' → AsFar old new old'' new''
  rest_kept old new n old' new' old'' new'' more more' far =
      subst (λ zs. AsFar old new zs new'') (sym more)
      (subst (λ zs. AsFar old new (old' ++ drop n old) zs) (sym more')
      (subst (λ zs. AsFar zs new (old' ++ drop n old) (new' ++ drop n new)) (take-append-drop n old)
      (subst (λ zs. AsFar (take n old ++ drop n old) zs (old' ++ drop n old) (new' ++ drop n new))
      (take-append-drop n new)
      (far_rest (take n old) (take n new) old' new' (drop n old) (drop n new) far))))

-- what is pushed, seen through the borrow
pub now_more : {X : Type 0} (rs rs' : List (Bor X)) (r : Bor X) → rs' ≡ rs ++ r ∷ []
    → map (λ (s : Bor X). s.now) rs' ≡ map (λ (s : Bor X). s.now) rs ++ r.now ∷ []
now_more {X} rs rs' r more =
    ap (map (λ (s : Bor X). s.now)) more ∙ map-append (λ (s : Bor X). s.now) rs (r ∷ [])
