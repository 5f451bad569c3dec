-- From link to link: which references reach an address, and the first of them in the order of
-- references.
use Rattle.std.proofs.Common.{◌≡◌, ℕ, zero, suc, ◌+◌, ◌<◌, ◌≤◌, ◌⊎◌, Bool, true, false, cond, not}
use Rattle.std.proofs.Common.{◌&&◌, ◌||◌, eqb, ltb, leb, min, max, List, [], ◌∷◌, ◌++◌, length}
use Rattle.std.proofs.Common.{Option, Some, None, slice_get, refl, sym, ap, ◌∙◌, subst, inl, inr}
use Rattle.std.proofs.Common.{arith}
use Rattle.std.specs.List.{All, AllByRecursion, filter, list_any}
use Rattle.std.specs.List.Sorted.{IsPermutation}
use Rattle.std.proofs.lemmas.Bool.Decides.{nat_tests}
use Rattle.std.proofs.lemmas.List.Elements.{recursion_from_All}
use Rattle.std.proofs.lemmas.List.Sorted.{list_any-IsPermutation}
use Rattle.geo_addr.specs.Ranges.{Ends, Prefix, IsRange, holds, is_v4, range_of_block}
use Rattle.geo_terms.specs.Covering.{covering}
use Rattle.geo_terms.specs.First.{better, first_of}
use Rattle.geo_terms.specs.PlaceForm.{same_text}
use Rattle.geo_terms.specs.Precedence.{reference_before, lies_within}
use Rattle.geo_terms.specs.Report.{covers, is_covered}
use Rattle.geo_terms.specs.declared.statement.Reference.{Reference}
use Rattle.geo_terms.proofs.Members.{Among, all_among, among_filter, all_filter, none_kept}
use Rattle.first_index.specs.Answers.{AnswerAlike}
use Rattle.first_index.specs.Links.{AreShelved, AreLinks, IsOuter, IsReach, IsLink, reaches}
use Rattle.first_index.specs.Links.{EndsAt, NoneReaches, IsNearest, IsFirstReaching, IsEnd}
use Rattle.first_index.specs.Links.{TellsSome}
use Rattle.first_index.specs.Shelf.{Key, family, is_of, same_group}
use Rattle.first_index.specs.declared.inetnums.links.Link.{Link}
use Rattle.first_index.proofs.FirstOf.{first_is, first_permuted}
use Rattle.first_index.proofs.ShelfLemmas.{reference_weak, and_left, and_right, group_back}
use Rattle.first_index.proofs.ShelfLemmas.{group_on, group_itself, of_group, group_of}
use Rattle.first_index.proofs.ShelfLemmas.{between_group, begins_before, begins_behind, tie}

three : (j k : ℕ) → (j < k) ⊎ ((j ≡ k) ⊎ (k < j))
three j k =
    elim (ltb j k) as (λ b. ltb j k ≡ b → (j < k) ⊎ ((j ≡ k) ⊎ (k < j))) [
      | true ↦ λ e. inl (grind (arith, nat_tests))
      | false ↦ λ e. elim (eqb j k) as (λ b. eqb j k ≡ b → (j < k) ⊎ ((j ≡ k) ⊎ (k < j))) [
        | true ↦ λ f. inr (inl (grind (arith, nat_tests)))
        | false ↦ λ f. inr (inr (grind (arith, nat_tests)))
      ] refl
    ] refl

same_at : {X : Type 0} (xs : List X) (j k : ℕ) (x y : X) → slice_get xs j ≡ Some x
    → slice_get xs k ≡ Some y → j ≡ k → x ≡ y
same_at xs j k x y at_j at_k e = let f : slice_get xs j ≡ slice_get xs k = ap (slice_get xs) e in cc

-- one more link
at_end : {X : Type 0} (xs : List X) (k : ℕ) (x y : X) → slice_get (xs ++ x ∷ []) k ≡ Some y
    → (slice_get xs k ≡ Some y) ⊎ ((k ≡ length xs) × (x ≡ y))
at_end [] zero x y e = inr (refl, cc)
at_end [] (suc k) x y e = absurd cc
at_end (z ∷ zs) zero x y e = inl e
at_end (z ∷ zs) (suc k) x y e =
    elim (at_end zs k x y e) [ inl h ↦ inl h | inr h ↦ inr (ap suc h.0, h.1) ]

pub links_more : (rs : List Reference) (ls : List Link) (index : ℕ) (x : Reference) (l : Link)
    → AreLinks rs ls → length ls ≡ index → slice_get rs index ≡ Some x → IsLink rs x index l
    → AreLinks rs (ls ++ l ∷ [])
links_more rs ls index x l old n at is k y m at_k in_k =
    elim (at_end ls k l m in_k) [
      | inl h ↦ old k y m at_k h
      | inr h ↦
          let e : k ≡ index = h.0 ∙ n in
          let same : x ≡ y = same_at rs index k x y at at_k (sym e) in
          subst (λ (z : Reference). IsLink rs z k m) same
          (subst (λ (i : ℕ). IsLink rs x i m) (sym e)
          (subst (λ (j : Link). IsLink rs x index j) h.1 is))
    ]

pub outer_here : (rs : List Reference) (x : Reference) (index : ℕ) → IsOuter rs x index index
outer_here rs x index j y at le lt group = absurd (omega arith)

pub outer_step : (rs : List Reference) (ls : List Link) (x r : Reference) (l : Link)
    (index left before : ℕ) → AreLinks rs ls → IsOuter rs x index left → left ≤ before + 1
    → slice_get rs before ≡ Some r → slice_get ls before ≡ Some l
    → same_group r x ≡ true → r.range.last ≤ x.range.last → IsOuter rs x index (min l.outer before)
outer_step rs ls x r l index left before links outer next at in_before group inner j y at_j le lt
    with_x =
    elim (three j before) [
      | inl less ↦
          let h : y.range.last ≤ r.range.last =
          (links before r l at in_before).outer j y at_j (omega arith) less
          (group_on y x r with_x (group_back r x group)) in
          omega arith
      | inr (inl same) ↦ let e : r ≡ y = same_at rs before j r y at at_j (sym same) in
          subst (λ (z : Reference). z.range.last ≤ x.range.last) e inner
      | inr (inr more) ↦ outer j y at_j (omega arith) lt with_x
    ]

pub reach_alone : (rs : List Reference) (x : Reference) (index : ℕ) → slice_get rs index ≡ Some x
    → ((j : ℕ) (y : Reference) → slice_get rs j ≡ Some y → j < index → same_group y x ≡ true → ⊥)
    → IsReach rs x index x.range.last
reach_alone rs x index at none = record {
  most = λ j y at_j le group. elim (three j index) [
    | inl less ↦ absurd (none j y at_j less group)
    | inr (inl same) ↦ let e : x ≡ y = same_at rs index j x y at at_j (sym same) in
        subst (λ (z : Reference). z.range.last ≤ x.range.last) e (omega arith)
    | inr (inr more) ↦ absurd (omega arith)
  ];
  some = (index, (x, (at, (omega arith, (group_itself x, refl)))));
}

pub reach_first : (rs : List Reference) (x : Reference) → slice_get rs 0 ≡ Some x
    → IsReach rs x 0 x.range.last
reach_first rs x at = reach_alone rs x 0 at (λ j y at_j lt group. omega arith)

pub reach_other : (rs : List Reference) (x r : Reference) (index before : ℕ) → AreShelved rs
    → slice_get rs index ≡ Some x → slice_get rs before ≡ Some r → index ≡ before + 1
    → same_group r x ≡ false → IsReach rs x index x.range.last
reach_other rs x r index before up at at_before next other =
    reach_alone rs x index at
    (λ j y at_j lt group. let is : same_group r x ≡ true =
    between_group rs up j before index y r x (omega arith)
    (omega arith) at_j at_before at group in let f : false ≡ true = sym other ∙ is in cc)

pub reach_more : (rs : List Reference) (ls : List Link) (x r : Reference) (l : Link)
    (index before : ℕ) → AreLinks rs ls → slice_get rs index ≡ Some x → slice_get rs before ≡ Some r
    → slice_get ls before ≡ Some l
    → index ≡ before + 1 → same_group r x ≡ true → IsReach rs x index (max l.reach x.range.last)
reach_more rs ls x r l index before links at at_before in_before next group = record {
  most = λ j y at_j le with_x. elim (three j index) [
    | inl less ↦ let h : y.range.last ≤ l.reach =
        link.reach.most j y at_j (omega arith) (group_on y x r with_x (group_back r x group)) in
        omega arith
    | inr (inl same) ↦ let e : x ≡ y = same_at rs index j x y at at_j (sym same) in
        subst (λ (z : Reference). z.range.last ≤ max l.reach x.range.last) e (omega arith)
    | inr (inr more) ↦ absurd (omega arith)
  ];
  some = elim (three l.reach x.range.last) [
    | inl less ↦ own (omega arith)
    | inr (inl same) ↦ own (omega arith)
    | inr (inr more) ↦ let s = link.reach.some in
        let big : max l.reach x.range.last ≡ l.reach = omega arith in (
          s.0,
          (
            s.1.0,
            (
              s.1.1.0,
              (
                omega (arith, s.1.1.1.0),
                (group_on s.1.0 r x s.1.1.1.1.0 group, s.1.1.1.1.1 ∙ sym big),
              ),
            ),
          ),
        )
  ];
}
  where
    link : IsLink rs r before l
    link = links before r l at_before in_before

    own : max l.reach x.range.last ≡ x.range.last
        → (j : ℕ) × ((y : Reference) ×
        ((slice_get rs j ≡ Some y) × ((j ≤ index)
        × ((same_group y x ≡ true) × (y.range.last ≡ max l.reach x.range.last)))))
    own e = (index, (x, (at, (omega arith, (group_itself x, sym e)))))

module _ (url : List ℕ) (f last : ℕ) where
  short : (r : Reference) → r.range.last < last → reaches url f last r ≡ false
  short r lt = let e : leb last r.range.last ≡ false = grind (arith, nat_tests) in
      ap (λ b. is_of url f r && b) e ∙ none (is_of url f r)
    where
      none : (b : Bool) → (b && false) ≡ false
      none true = refl
      none false = refl

  other : (r : Reference) → is_of url f r ≡ false → reaches url f last r ≡ false
  other r e = ap (λ b. b && leb last r.range.last) e

  reaching : (r : Reference) → is_of url f r ≡ true → last ≤ r.range.last
      → reaches url f last r ≡ true
  reaching r e le = let g : leb last r.range.last ≡ true = grind (arith, nat_tests) in
      ap (λ b. b && leb last r.range.last) e ∙ g

  is_of_it : (r : Reference) → reaches url f last r ≡ true → is_of url f r ≡ true
  is_of_it r e = and_left (is_of url f r) (leb last r.range.last) e

  far : (r : Reference) → reaches url f last r ≡ true → last ≤ r.range.last
  far r e = let g : leb last r.range.last ≡ true =
      and_right (is_of url f r) (leb last r.range.last) e in grind (arith, nat_tests)

  pub none_yet : (rs : List Reference) (end : ℕ) → NoneReaches url f last rs end end
  none_yet rs end j y le lt at = absurd (omega arith)

  pub nearest_step : (rs : List Reference) (ls : List Link) (r : Reference) (l : Link)
      (end left index : ℕ) → AreLinks rs ls → NoneReaches url f last rs left end → left ≤ index + 1
      → slice_get rs index ≡ Some r → slice_get ls index ≡ Some l
      → is_of url f r ≡ true → r.range.last < last
      → NoneReaches url f last rs (min l.outer index) end
  nearest_step rs ls r l end left index links none next at in_links of_it lt j y le below at_j =
      elim (three j index) [
        | inl less ↦ elim (is_of url f y) as
            (λ b. is_of url f y ≡ b → reaches url f last y ≡ false) [
              | true ↦ λ e. let h : y.range.last ≤ r.range.last =
                  (links index r l at in_links).outer j y at_j (omega arith) less
                  (group_of url f y r e of_it) in short y (omega arith)
              | false ↦ λ e. other y e
            ] refl
        | inr (inl same) ↦ let e : r ≡ y = same_at rs index j r y at at_j (sym same) in
            subst (λ (z : Reference). reaches url f last z ≡ false) e (short r lt)
        | inr (inr more) ↦ none j y (omega arith) below at_j
      ]

  pub nearest_none : (rs : List Reference) (r : Reference) (end left index : ℕ)
      → EndsAt url f rs end → NoneReaches url f last rs left end → left ≤ index + 1 → index < end
      → slice_get rs index ≡ Some r → is_of url f r ≡ false → NoneReaches url f last rs 0 end
  nearest_none rs r end left index grouped none next below at out j y le lt at_j =
      elim (three j index) [
        | inl less ↦ other y (grouped j index y r (omega arith) below at_j at out)
        | inr (inl same) ↦ other y (grouped j index y r (omega arith) below at_j at out)
        | inr (inr more) ↦ none j y (omega arith) lt at_j
      ]

  pub nearest_here : (rs : List Reference) (r : Reference) (end left index : ℕ)
      → NoneReaches url f last rs left end → left ≤ index + 1 → index < end
      → slice_get rs index ≡ Some r → is_of url f r ≡ true → last ≤ r.range.last
      → IsNearest url f last rs end (Some index)
  nearest_here rs r end left index none next below at of_it le = (
    below,
    (
      (λ x at_x. subst (λ (z : Reference). reaches url f last z ≡ true)
          (same_at rs index index r x at at_x refl) (reaching r of_it le)),
      λ j y from lt at_j. none j y (omega arith) lt at_j,
    ),
  )

  not_itself : (r : Reference) → reference_before r r ≡ false
  not_itself r = elim (reference_before r r) as
      (λ b. reference_before r r ≡ b → b ≡ false)
      [ true ↦ λ e. sym e ∙ reference_weak.one_way r r e | false ↦ λ e. refl ] refl

  pub first_step : (rs : List Reference) (first : Option Reference) (r b : Reference)
      (end left index : ℕ) → IsFirstReaching url f last rs left end first
      → IsNearest url f last rs left (Some index) → left ≤ end → slice_get rs index ≡ Some r
      → Some b ≡ better reference_before first r → IsFirstReaching url f last rs index end (Some b)
  first_step rs None r b end left index so_far near le at is =
      let same : b ≡ r = cc in
      subst (λ (z : Reference). IsFirstReaching url f last rs index end (Some z)) (sym same) (
        (index, (at, (omega (arith, near.0), near.1.0 r at))),
        λ j y from lt at_j hits. elim (three j index) [
          | inl less ↦ absurd (omega arith)
          | inr (inl here) ↦ let e : r ≡ y = same_at rs index j r y at at_j (sym here) in
              subst (λ (z : Reference). reference_before z r ≡ false) e (not_itself r)
          | inr (inr more) ↦ elim (three j left) [
            | inl below ↦ let misses : reaches url f last y ≡ false =
                near.1.1 j y (omega arith) below at_j in
                absurd (let g : false ≡ true = sym misses ∙ hits in cc)
            | inr rest ↦ let misses : reaches url f last y ≡ false =
                so_far j y (elim rest [ inl e ↦ omega arith | inr gt ↦ omega arith ]) lt at_j in
                absurd (let g : false ≡ true = sym misses ∙ hits in cc)
          ]
        ],
      )
  first_step rs (Some w) r b end left index so_far near le at is =
      elim (reference_before r w) as
      (λ v. reference_before r w ≡ v → Some b ≡ Some (cond v r w)
      → IsFirstReaching url f last rs index end (Some b)) [
        | true ↦ λ e here. let same : b ≡ r = cc in
            subst (λ (z : Reference). IsFirstReaching url f last rs index end (Some z)) (sym same) (
              (index, (at, (omega (arith, near.0), near.1.0 r at))),
              λ j y from lt at_j hits. each j y from lt at_j hits r (not_itself r)
                  (λ h. reference_weak.chain y w r h (reference_weak.one_way r w e)),
            )
        | false ↦ λ e here. let same : b ≡ w = cc in
            subst (λ (z : Reference). IsFirstReaching url f last rs index end (Some z)) (sym same)
            (so_far.0, λ j y from lt at_j hits. each j y from lt at_j hits w e (λ h. h))
      ] refl is
    where
      each : (j : ℕ) (y : Reference) → index ≤ j → j < end → slice_get rs j ≡ Some y
          → reaches url f last y ≡ true → (z : Reference) → reference_before r z ≡ false
          → (reference_before y w ≡ false → reference_before y z ≡ false)
          → reference_before y z ≡ false
      each j y from lt at_j hits z own later =
          elim (three j index) [
            | inl less ↦ absurd (omega arith)
            | inr (inl here) ↦ let e : r ≡ y = same_at rs index j r y at at_j (sym here) in
                subst (λ (t : Reference). reference_before t z ≡ false) e own
            | inr (inr more) ↦ elim (three j left) [
              | inl below ↦ let misses : reaches url f last y ≡ false =
                  near.1.1 j y (omega arith) below at_j in
                  absurd (let g : false ≡ true = sym misses ∙ hits in cc)
              | inr rest ↦ later (so_far.1 j y
                  (elim rest [ inl e ↦ omega arith | inr gt ↦ omega arith ]) lt at_j hits)
            ]
          ]

  pub first_end : (rs : List Reference) (first : Option Reference) (end left : ℕ)
      → IsFirstReaching url f last rs left end first → NoneReaches url f last rs 0 left
      → IsFirstReaching url f last rs 0 end first
  first_end rs None end left so_far none = λ j y from lt at. elim (three j left) [
    | inl below ↦ none j y (omega arith) below at
    | inr rest ↦ so_far j y (elim rest [ inl e ↦ omega arith | inr gt ↦ omega arith ]) lt at
  ]
  first_end rs (Some w) end left so_far none = (
    so_far.0,
    λ j y from lt at hits. elim (three j left) [
      | inl below ↦ let misses : reaches url f last y ≡ false = none j y (omega arith) below at in
          absurd (let g : false ≡ true = sym misses ∙ hits in cc)
      | inr rest ↦ so_far.1 j y (elim rest [ inl e ↦ omega arith | inr gt ↦ omega arith ]) lt at
          hits
    ],
  )

  pub tells_some : (rs : List Reference) (ls : List Link) (r : Reference) (l : Link) (end index : ℕ)
      (found : Bool) → AreLinks rs ls → EndsAt url f rs end → end ≡ index + 1
      → slice_get rs index ≡ Some r → slice_get ls index ≡ Some l
      → found ≡ (is_of url f r && leb last l.reach) → TellsSome url f last rs end found
  tells_some rs ls r l end index found links grouped next at in_links is = record {
    some = λ hits.
        let both : (is_of url f r && leb last l.reach) ≡ true = sym is ∙ hits in
        let of_it : is_of url f r ≡ true = and_left (is_of url f r) (leb last l.reach) both in
        let enough : leb last l.reach ≡ true = and_right (is_of url f r) (leb last l.reach) both in
        let le : last ≤ l.reach = grind (arith, nat_tests) in
        let s = (links index r l at in_links).reach.some in (
          s.0,
          (
            s.1.0,
            (
              s.1.1.0,
              (
                omega (arith, s.1.1.1.0),
                reaching s.1.0 (of_group url f s.1.0 r s.1.1.1.1.0 of_it)
                    (omega (arith, s.1.1.1.1.1)),
              ),
            ),
          ),
        );
    none = λ misses j y from lt at_j. elim (reaches url f last y) as
        (λ b. reaches url f last y ≡ b → b ≡ false) [
          | true ↦ λ e. absurd (reached j y lt at_j e misses)
          | false ↦ λ e. refl
        ] refl;
  }
    where
      reached : (j : ℕ) (y : Reference) → j < end → slice_get rs j ≡ Some y
          → reaches url f last y ≡ true → found ≡ false → ⊥
      reached j y lt at_j e misses =
          elim (is_of url f r) as (λ b. is_of url f r ≡ b → ⊥) [
            | true ↦ λ of_it.
                let h : y.range.last ≤ l.reach =
                (links index r l at in_links).reach.most j y at_j (omega arith)
                (group_of url f y r (is_of_it y e) of_it) in
                let k : last ≤ y.range.last = far y e in
                let g : leb last l.reach ≡ true = grind (arith, nat_tests) in
                let both : found ≡ true = is ∙ ap (λ b. b && leb last l.reach) of_it ∙ g in
                let t : false ≡ true = sym misses ∙ both in cc
            | false ↦ λ out.
                let t : is_of url f y ≡ false =
                grouped j index y r (omega arith) (omega arith) at_j at out in
                let u : false ≡ true = sym t ∙ is_of_it y e in cc
          ] refl

-- a family is that of a block, or is not
same_family : (r : Ends) (b : Ends)
    → (cond (is_v4 r) (is_v4 b) (not (is_v4 b))) ≡ eqb (family r) (family b)
same_family r b = both (is_v4 r) (is_v4 b)
  where
    both : (x y : Bool) → cond x y (not y) ≡ eqb (cond x 0 1) (cond y 0 1)
    both true true = refl
    both true false = refl
    both false true = refl
    both false false = refl

each_at : (P : Reference → Type 0) (rs : List Reference)
    → ((j : ℕ) (y : Reference) → slice_get rs j ≡ Some y → P y) → AllByRecursion P rs
each_at P [] h = tt
each_at P (r ∷ rs) h = (h 0 r refl, each_at P rs (λ j y at. h (suc j) y at))

among_at : (rs : List Reference) (k : ℕ) (x : Reference) → slice_get rs k ≡ Some x → Among x rs
among_at [] k x at = absurd cc
among_at (r ∷ rs) zero x at = inl cc
among_at (r ∷ rs) (suc k) x at = inr (among_at rs k x at)

module _ (rs : List Reference) (url : List ℕ) (b : Prefix) (end : ℕ) where
  abbrev block : Ends
  block = range_of_block b

  abbrev key : Key
  key = record { url = url; family = family block; first = block.first }

  abbrev fits : Reference → Bool
  fits r = same_text r.url url && covers r b

  -- those of the URL that cover the block stand before the end and reach its last address
  fits_reaches : IsEnd key rs end → (j : ℕ) (y : Reference) → slice_get rs j ≡ Some y
      → fits y ≡ true → (j < end) × (reaches url (family block) block.last y ≡ true)
  fits_reaches at j y at_j e =
      let u : same_text y.url url ≡ true = and_left (same_text y.url url) (covers y b) e in
      let c : covers y b ≡ true = and_right (same_text y.url url) (covers y b) e in
      let v : cond (is_v4 y.range) (is_v4 block) (not (is_v4 block)) ≡ true =
      and_left (cond (is_v4 y.range) (is_v4 block) (not (is_v4 block)))
      (lies_within b y.range) c in
      let w : lies_within b y.range ≡ true =
      and_right (cond (is_v4 y.range) (is_v4 block) (not (is_v4 block)))
      (lies_within b y.range) c in
      let fam : eqb (family y.range) (family block) ≡ true = sym (same_family y.range block) ∙ v in
      let of_it : is_of url (family block) y ≡ true = rw u fam in
      let low : leb y.range.first b.first ≡ true =
      and_left (leb y.range.first b.first) (leb block.last y.range.last) w in
      let high : leb block.last y.range.last ≡ true =
      and_right (leb y.range.first b.first) (leb block.last y.range.last) w in
      let le : y.range.first ≤ b.first = grind (arith, nat_tests) in
      elim (three j end) [
        | inl lt ↦ (lt, rw of_it high)
        | inr rest ↦ absurd (let gt : block.first < y.range.first =
            begins_behind key y (at.1 j y
            (elim rest [ inl f ↦ omega arith | inr g ↦ omega arith ]) at_j) of_it in omega arith)
      ]

  reaches_fits : IsEnd key rs end → (j : ℕ) (y : Reference) → slice_get rs j ≡ Some y → j < end
      → reaches url (family block) block.last y ≡ true → fits y ≡ true
  reaches_fits at j y at_j lt e =
      let of_it : is_of url (family block) y ≡ true =
      and_left (is_of url (family block) y) (leb block.last y.range.last) e in
      let high : leb block.last y.range.last ≡ true =
      and_right (is_of url (family block) y) (leb block.last y.range.last) e in
      let u : same_text y.url url ≡ true =
      and_left (same_text y.url url) (eqb (family y.range) (family block)) of_it in
      let fam : eqb (family y.range) (family block) ≡ true =
      and_right (same_text y.url url) (eqb (family y.range) (family block)) of_it in
      let v : cond (is_v4 y.range) (is_v4 block) (not (is_v4 block)) ≡ true =
      same_family y.range block ∙ fam in
      let le : y.range.first ≤ block.first = begins_before key y (at.0 j y lt at_j) of_it in
      let low : leb y.range.first b.first ≡ true = grind (arith, nat_tests) in
      rw (u, v, low) high

  not_fits : IsEnd key rs end → NoneReaches url (family block) block.last rs 0 end
      → AllByRecursion (λ y. fits y ≡ false) rs
  not_fits at none = each_at (λ y. fits y ≡ false) rs
      (λ j y at_j. elim (fits y) as (λ v. fits y ≡ v → v ≡ false) [
        | true ↦ λ e. let h = fits_reaches at j y at_j e in let f : false ≡ true =
            sym (none j y (omega arith) h.0 at_j) ∙ h.1 in absurd cc
        | false ↦ λ e. refl
      ] refl)

  pub covering_is : (o : Option Reference) → IsEnd key rs end → All (λ r. IsRange r.range) rs
      → IsFirstReaching url (family block) block.last rs 0 end o → o ≡ covering rs url b
  covering_is None at ranges none =
      sym (ap (first_of reference_before) (none_kept fits rs (not_fits at none)))
  covering_is (Some x) at ranges h =
      let here : Among x rs = among_at rs h.0.0 x h.0.1.0 in
      sym (first_is reference_before reference_weak (filter fits rs) x
      (among_filter fits x rs here (reaches_fits at h.0.0 x h.0.1.0 h.0.1.1.0 h.0.1.1.1))
      (all_filter fits (λ y. reference_before y x ≡ false) rs
      (each_at (λ y. fits y ≡ true → reference_before y x ≡ false) rs
      (λ j y at_j e. let k = fits_reaches at j y at_j e in h.1 j y (omega arith) k.0 at_j k.1)))
      (λ y is before after. tie y x (range y (kept y is)) (range x here) before after))
    where
      range : (y : Reference) → Among y rs → IsRange y.range
      range y is = all_among (λ (r : Reference). IsRange r.range) y rs
          (recursion_from_All (λ r. IsRange r.range) rs ranges) is

      kept : (y : Reference) → Among y (filter fits rs) → Among y rs
      kept y is = keep y rs is
        where
          keep : (y : Reference) (ys : List Reference) → Among y (filter fits ys) → Among y ys
          keep y [] is = absurd is
          keep y (z ∷ zs) is =
              elim (fits z) as (λ v. Among y (cond v (z ∷ filter fits zs) (filter fits zs))
              → Among y (z ∷ zs)) [
                | true ↦ elim [ inl e ↦ inl e | inr later ↦ inr (keep y zs later) ]
                | false ↦ λ later. inr (keep y zs later)
              ] is

  any_fits : (ys : List Reference) (y : Reference) → Among y ys → fits y ≡ true
      → list_any fits ys ≡ true
  any_fits [] y is e = absurd is
  any_fits (z ∷ zs) y (inl here) e = let f : fits z ≡ true =
      subst (λ (r : Reference). fits r ≡ true) (sym here) e in rw f refl
  any_fits (z ∷ zs) y (inr later) e = let h : list_any fits zs ≡ true = any_fits zs y later e in
      rw h (or_true (fits z))
    where
      or_true : (v : Bool) → (v || true) ≡ true
      or_true true = refl
      or_true false = refl

  none_fits : (ys : List Reference) → AllByRecursion (λ y. fits y ≡ false) ys
      → list_any fits ys ≡ false
  none_fits [] h = refl
  none_fits (z ∷ zs) h = rw h.0 (none_fits zs h.1)

  pub covered_is : (found : Bool) → IsEnd key rs end
      → TellsSome url (family block) block.last rs end found → found ≡ is_covered rs url b
  covered_is true at tells = let s = tells.some refl in
      sym (any_fits rs s.1.0 (among_at rs s.0 s.1.0 s.1.1.0)
      (reaches_fits at s.0 s.1.0 s.1.1.0 s.1.1.1.0 s.1.1.1.1))
  covered_is false at tells = sym (none_fits rs (not_fits at (tells.none refl)))

-- the same, from numbers that are those of the block
module _ (rs : List Reference) (url : List ℕ) (b : Prefix) (end : ℕ) (f first last : ℕ)
    (fam : f ≡ family (range_of_block b)) (low : first ≡ b.first)
    (high : last ≡ (range_of_block b).last) where
  at_block : (P : ℕ → ℕ → ℕ → Type 0) → P f first last
      → P (family (range_of_block b)) b.first (range_of_block b).last
  at_block P h = subst (λ (n : ℕ). P (family (range_of_block b)) b.first n) high
      (subst (λ (n : ℕ). P (family (range_of_block b)) n last) low
      (subst (λ (n : ℕ). P n first last) fam h))

  abbrev end_at : ℕ → ℕ → ℕ → Type 0
  end_at g n m = IsEnd (record { url = url; family = g; first = n }) rs end

  pub covering_by : (o : Option Reference)
      → IsEnd (record { url = url; family = f; first = first }) rs end
      → All (λ r. IsRange r.range) rs → IsFirstReaching url f last rs 0 end o
      → o ≡ covering rs url b
  covering_by o at ranges h = covering_is rs url b end o (at_block end_at at) ranges
      (at_block (λ g n m. IsFirstReaching url g m rs 0 end o) h)

  pub covered_by : (found : Bool) → IsEnd (record { url = url; family = f; first = first }) rs end
      → TellsSome url f last rs end found → found ≡ is_covered rs url b
  covered_by found at tells = covered_is rs url b end found (at_block end_at at)
      (at_block (λ g n m. TellsSome url g m rs end found) tells)

-- lists with the same references answer alike
pub alike : (given held : List Reference) → IsPermutation given held
    → All (λ r. IsRange r.range) held → AnswerAlike given held
alike given held same ranges = record {
  same = same;
  best = λ a. first_permuted reference_before reference_weak
      (λ r. holds r.range a) given held same ties;
  covering = λ url b. first_permuted reference_before reference_weak
      (λ r. same_text r.url url && covers r b) given held same ties;
  covered = λ url b. list_any-IsPermutation
      (λ r. same_text r.url url && covers r b) given held same;
}
  where
    range : (y : Reference) → Among y held → IsRange y.range
    range y is = all_among (λ (r : Reference). IsRange r.range) y held
        (recursion_from_All (λ r. IsRange r.range) held ranges) is

    ties : (x y : Reference) → Among x held → Among y held → reference_before x y ≡ false
        → reference_before y x ≡ false → x ≡ y
    ties x y here there before after = tie x y (range x here) (range y there) before after
