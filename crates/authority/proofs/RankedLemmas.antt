-- References sorted by range: one pass finds those that stand behind another one of their range.
use Rattle.std.proofs.Common.{◌≡◌, ◌<◌, ◌≤◌, ◌⊎◌, Bool, true, false, cond, ◌&&◌, ◌||◌, eqb, ltb}
use Rattle.std.proofs.Common.{List, [], ◌∷◌, Ordering, Some, None, refl, sym, ap, ◌∙◌, inl, inr}
use Rattle.std.proofs.Common.{arith}
use Rattle.std.specs.Cmp.{IsStrictWeakOrder, IsTotalOrder}
use Rattle.std.specs.List.{AllByRecursion, filter, find}
use Rattle.std.specs.Ordering.{is_lt, nat_cmp, ordering_then}
use Rattle.std.proofs.lemmas.Bool.Decides.{nat_tests}
use Rattle.std.proofs.lemmas.Cmp.{nat_cmp_total, on_total, then_total}
use Rattle.std.proofs.lemmas.List.Sorted.{ranks_by}
use Rattle.geo_addr.specs.Ranges.{Ends}
use Rattle.geo_terms.proofs.Constancy.{same_filter}
use Rattle.geo_terms.specs.Precedence.{reference_before, reference_cmp}
use Rattle.geo_terms.specs.Report.{is_outranked, same_ends}
use Rattle.geo_terms.specs.TotalOrders.{reference_total}
use Rattle.geo_terms.specs.declared.statement.Reference.{Reference}
use Rattle.authority.proofs.Ordered.{Ascends}
use Rattle.authority.specs.Ranked.{behind, is_behind, ranked_cmp}

pub ranked_total : IsTotalOrder ranked_cmp
unfolding ranked_cmp
ranked_total =
    then_total (on_total (λ (r : Reference). r.range.first) nat_cmp_total)
    (then_total (on_total (λ (r : Reference). r.range.last) nat_cmp_total) reference_total)

weak : IsStrictWeakOrder reference_before
weak = ranks_by reference_total (λ (r : Reference). r)

ends_are : (r s : Ends) → same_ends r s ≡ true → (r.first ≡ s.first) × (r.last ≡ s.last)
ends_are r s e = (grind (arith, nat_tests), grind (arith, nat_tests))

are_ends : (r s : Ends) → r.first ≡ s.first → r.last ≡ s.last → same_ends r s ≡ true
are_ends r s e f = grind (arith, nat_tests)

-- of one range, references go in their own order
of_range : (t x : Reference) → same_ends t.range x.range ≡ true → is_lt (ranked_cmp t x) ≡ false
    → reference_before t x ≡ false
unfolding ranked_cmp
of_range t x same low =
    let e = ends_are t.range x.range same in
    let first : nat_cmp t.range.first x.range.first ≡ Ordering.Equal =
    (let s : eqb t.range.first x.range.first ≡ true = grind (arith, nat_tests) in
    let l : ltb t.range.first x.range.first ≡ false = grind (arith, nat_tests) in rw (l, s) refl) in
    let last : nat_cmp t.range.last x.range.last ≡ Ordering.Equal =
    (let s : eqb t.range.last x.range.last ≡ true = grind (arith, nat_tests) in
    let l : ltb t.range.last x.range.last ≡ false = grind (arith, nat_tests) in rw (l, s) refl) in
    rw (first, last) at low

-- a later reference does not begin before an earlier one,
-- and of those that begin alike it does not end before
by_ends : (x t : Reference) → is_lt (ranked_cmp t x) ≡ false → (x.range.first < t.range.first)
    ⊎ ((x.range.first ≡ t.range.first) × (x.range.last ≤ t.range.last))
unfolding ranked_cmp
by_ends x t low =
    elim (ltb x.range.first t.range.first)
    as (λ b. ltb x.range.first t.range.first ≡ b → (x.range.first < t.range.first)
    ⊎ ((x.range.first ≡ t.range.first) × (x.range.last ≤ t.range.last))) [
      | true ↦ λ e. inl (grind (arith, nat_tests))
      | false ↦ λ e. inr (not_first low e)
    ] refl
  where
    not_first : is_lt (ordering_then (nat_cmp t.range.first x.range.first)
        (ordering_then (nat_cmp t.range.last x.range.last) (reference_cmp t x))) ≡ false
        → ltb x.range.first t.range.first ≡ false
        → (x.range.first ≡ t.range.first) × (x.range.last ≤ t.range.last)
    not_first low e =
        elim (ltb t.range.first x.range.first) as (λ b. ltb t.range.first x.range.first ≡ b
        → (x.range.first ≡ t.range.first) × (x.range.last ≤ t.range.last)) [
          | true ↦ λ f. absurd (let g : true ≡ false = (rw f at low) in cc)
          | false ↦ λ f.
              let same : t.range.first ≡ x.range.first = grind (arith, nat_tests) in (
                sym same,
                elim (ltb t.range.last x.range.last)
                    as (λ b. ltb t.range.last x.range.last ≡ b → x.range.last ≤ t.range.last) [
                      | true ↦ λ g. absurd (let s : eqb t.range.first x.range.first ≡ true = grind (
                        arith,
                        nat_tests,
                      ) in let h : true ≡ false = (rw (f, s, g) at low) in cc)
                      | false ↦ λ g. grind (arith, nat_tests)
                    ] refl,
              )
        ] refl

-- between two references of one range stand only references of it
between : (l r q : Reference) → is_lt (ranked_cmp r l) ≡ false → is_lt (ranked_cmp q r) ≡ false
    → same_ends l.range q.range ≡ true → same_ends l.range r.range ≡ true
between l r q low high same =
    let e = ends_are l.range q.range same in
    elim (by_ends l r low) [
      | inl less ↦ elim (by_ends r q high) [
        | inl more ↦ absurd (omega (arith, e.0))
        | inr more ↦ absurd (omega (arith, e.0, more.0))
      ]
      | inr less ↦ elim (by_ends r q high) [
        | inl more ↦ absurd (omega (arith, e.0, less.0))
        | inr more ↦ are_ends l.range r.range less.0 (omega (arith, e.1, less.1, more.1))
      ]
    ]

abbrev of : Reference → Reference → Bool
of q t = same_ends t.range q.range

-- where none goes before the first of a range, none of those behind it goes before
-- one that it does not go before
none_before : (x q : Reference) (ts : List Reference) → of q x ≡ true → reference_before x q ≡ false
    → AllByRecursion (λ t. is_lt (ranked_cmp t x) ≡ false) ts
    → is_outranked ts q ≡ false
none_before x q [] same not up = refl
none_before x q (t ∷ ts) same not up =
    elim (of q t)
    as (λ b. of q t ≡ b → ((b && reference_before t q) || is_outranked ts q) ≡ false) [
      | true ↦ λ e.
          let a = ends_are x.range q.range same in
          let b = ends_are t.range q.range e in
          let low : reference_before t x ≡ false =
          of_range t x (are_ends t.range x.range (b.0 ∙ sym a.0) (b.1 ∙ sym a.1)) up.0 in
          rw (weak.chain t x q low not) (none_before x q ts same not up.1)
      | false ↦ λ e. none_before x q ts same not up.1
    ] refl

-- a reference is outranked where the first one of its range goes before it
outranked_is : (xs : List Reference) (q : Reference) → Ascends ranked_cmp xs
    → is_outranked xs q ≡ is_behind (find (of q) xs) q
outranked_is [] q up = refl
outranked_is (x ∷ xs) q up =
    elim (of q x) as (λ b. of q x ≡ b → ((b && reference_before x q) || is_outranked xs q)
    ≡ is_behind (cond b (Some x) (find (of q) xs)) q) [
      | true ↦ λ e. rw e (cases (reference_before x q) refl e)
      | false ↦ λ e. outranked_is xs q up.1
    ] refl
  where
    cases : (b : Bool) → reference_before x q ≡ b → of q x ≡ true → (b || is_outranked xs q) ≡ b
    cases true e same = refl
    cases false e same = none_before x q xs same e up.0

itself : (r : Reference) → of r r ≡ true
itself r = are_ends r.range r.range refl refl

not_before_itself : (r : Reference) → reference_before r r ≡ false
not_before_itself r =
    weak.chain r r r (same (reference_before r r) refl) (same (reference_before r r) refl)
  where
    same : (b : Bool) → reference_before r r ≡ b → reference_before r r ≡ false
    same true e = weak.one_way r r e
    same false e = e

each : (P Q : Reference → Type 0) → ((z : Reference) → P z → Q z) → (xs : List Reference)
    → AllByRecursion P xs → AllByRecursion Q xs
each P Q f [] h = tt
each P Q f (x ∷ xs) h = (f x h.0, each P Q f xs h.1)

-- behind a reference of its range, one more of it changes nothing
skip_same : (l r q : Reference) (rs : List Reference)
    → of r l ≡ true → is_lt (ranked_cmp r l) ≡ false
    → Ascends ranked_cmp (l ∷ r ∷ rs) → is_outranked (l ∷ r ∷ rs) q ≡ is_outranked (l ∷ rs) q
skip_same l r q rs same low up =
    outranked_is (l ∷ r ∷ rs) q up ∙ ap (λ o. is_behind o q) (found (of q l) refl)
    ∙ sym (outranked_is (l ∷ rs) q (up.0.1, up.1.1))
  where
    found : (b : Bool) → of q l ≡ b → cond b (Some l) (cond (of q r) (Some r) (find (of q) rs))
        ≡ cond b (Some l) (find (of q) rs)
    found true e = refl
    found false e =
        let not : of q r ≡ false = elim (of q r) as (λ b. of q r ≡ b → b ≡ false) [
          | true ↦ λ f. absurd (let a = ends_are r.range q.range f in
              let b = ends_are l.range r.range same in let g : true ≡ false =
              sym (are_ends l.range q.range (b.0 ∙ a.0) (b.1 ∙ a.1)) ∙ e in cc)
          | false ↦ λ f. refl
        ] refl in
        rw not refl

-- once the range changes, the earlier ranges do not come again
skip_other : (l r q : Reference) (rs : List Reference)
    → of r l ≡ false → is_lt (ranked_cmp r l) ≡ false → is_lt (ranked_cmp q r) ≡ false
    → is_outranked (l ∷ r ∷ rs) q ≡ is_outranked (r ∷ rs) q
skip_other l r q rs other low high =
    let not : of q l ≡ false = elim (of q l) as (λ b. of q l ≡ b → b ≡ false) [
      | true ↦ λ e. absurd (let f : true ≡ false = sym (between l r q low high e) ∙ other in cc)
      | false ↦ λ e. refl
    ] refl in
    rw not refl

none_of : (b : Bool) → (b && false) ≡ false
none_of true = refl
none_of false = refl

behind_from : (l : Reference) (rs : List Reference)
    → Ascends ranked_cmp (l ∷ rs) → behind (Some l) rs ≡ filter (is_outranked (l ∷ rs)) rs
behind_from l [] up = refl
behind_from l (r ∷ rs) up =
    cases (of r l) refl (behind_from l rs (up.0.1, up.1.1)) (behind_from r rs up.1)
  where
    head_is : (b : Bool) → of r l ≡ b → is_outranked (l ∷ r ∷ rs) r ≡ (b && reference_before l r)
    head_is true e =
        outranked_is (l ∷ r ∷ rs) r up
        ∙ ap (λ b. is_behind (cond b (Some l) (find (of r) (r ∷ rs))) r) e
        ∙ ap (λ b. b && reference_before l r) e
    head_is false e =
        outranked_is (l ∷ r ∷ rs) r up
        ∙ ap (λ b. is_behind (cond b (Some l) (find (of r) (r ∷ rs))) r) e
        ∙ ap (λ b. is_behind (cond b (Some r) (find (of r) rs)) r) (itself r)
        ∙ ap (λ b. same_ends r.range r.range && b) (not_before_itself r)
        ∙ none_of (same_ends r.range r.range)

    pick : (p : Bool) (later : List Reference) → is_outranked (l ∷ r ∷ rs) r ≡ p
        → later ≡ filter (is_outranked (l ∷ r ∷ rs)) rs
        → cond p (r ∷ later) later ≡ filter (is_outranked (l ∷ r ∷ rs)) (r ∷ rs)
    pick p later e f = rw (e, ← f) refl

    cases : (b : Bool) → of r l ≡ b → behind (Some l) rs ≡ filter (is_outranked (l ∷ rs)) rs
        → behind (Some r) rs ≡ filter (is_outranked (r ∷ rs)) rs
        → cond (b && reference_before l r) (r ∷ behind (Some (cond b l r)) rs)
        (behind (Some (cond b l r)) rs) ≡ filter (is_outranked (l ∷ r ∷ rs)) (r ∷ rs)
    cases true e same other =
        pick (reference_before l r) (behind (Some l) rs) (head_is true e)
        (same ∙ sym (same_filter (is_outranked (l ∷ r ∷ rs)) (is_outranked (l ∷ rs)) rs
        (each (λ q. is_lt (ranked_cmp q r) ≡ false) (λ q. is_outranked (l ∷ r ∷ rs) q
        ≡ is_outranked (l ∷ rs) q) (λ q high. skip_same l r q rs e up.0.0 up) rs up.1.0)))
    cases false e same other =
        pick false (behind (Some r) rs) (head_is false e)
        (other ∙ sym (same_filter (is_outranked (l ∷ r ∷ rs)) (is_outranked (r ∷ rs)) rs
        (each (λ q. is_lt (ranked_cmp q r) ≡ false) (λ q. is_outranked (l ∷ r ∷ rs) q
        ≡ is_outranked (r ∷ rs) q) (λ q high. skip_other l r q rs e up.0.0 high) rs up.1.0)))

-- one pass finds those that are outranked
pub behind_all : (rs : List Reference) → Ascends ranked_cmp rs
    → behind None rs ≡ filter (is_outranked rs) rs
behind_all [] up = refl
behind_all (r ∷ rs) up =
    let first : is_outranked (r ∷ rs) r ≡ false =
    outranked_is (r ∷ rs) r up ∙ ap (λ b. is_behind (cond b (Some r) (find (of r) rs)) r) (itself r)
    ∙ ap (λ b. same_ends r.range r.range && b) (not_before_itself r)
    ∙ none_of (same_ends r.range r.range) in
    rw first (behind_from r rs up)
