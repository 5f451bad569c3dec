-- Where the record of an address may change: the cut points of the sources, and their
-- images in the blocks that carry IPv4 addresses.
use Rattle.std.proofs.Common.{◌≡◌, ℕ, zero, suc, ◌+◌, ◌*◌, ◌/◌, ◌%◌, ◌^◌, ◌<◌, ◌≤◌, inl, inr, Bool}
use Rattle.std.proofs.Common.{true, false, List, [], ◌∷◌, ◌++◌, length, map, refl, sym, ap, ◌∙◌}
use Rattle.std.proofs.Common.{arith, length-append, eq-eqb}
use Rattle.std.proofs.lemmas.Bool.{cases_lt, eqb-true, ne_eqb}
use Rattle.std.proofs.lemmas.List.{length-map}
use Rattle.std.specs.Prelude.{flat_map, if◌then◌else◌}
use Rattle.geo_addr.specs.Ranges.{Ends, IsCut, edges_of, ground_first}
use Rattle.geo_terms.specs.Alias.{home, is_mapped, is_six_to_four}
use Rattle.geo_terms.specs.Cuts.{statement_ranges}
use Rattle.geo_terms.specs.Precedence.{record_at, spoken_at}
use Rattle.geo_terms.specs.Sources.{InForce}
use Rattle.geo_terms.proofs.Constancy.{constant_between_cuts}
use Rattle.generated_job.proofs.TreeSizes.{Among, ChangesAt}

-- the cut points of ranges, one after another
abbrev pub cuts : List Ends → List ℕ
cuts ranges = flat_map edges_of ranges

cut_among : (ranges : List Ends) (c : ℕ) → IsCut ranges c → Among c (cuts ranges)
cut_among [] c cut = absurd (let low = cut.2 in omega arith)
cut_among (r ∷ rs) c (zero, x, low, is, edge) =
    let same : r ≡ x = cc in
    elim edge [
      | inl first ↦ inl (ap ground_first same ∙ sym first)
      | inr last ↦ inr (inl (ap (λ (y : Ends). y.last + 1) same ∙ sym last))
    ]
cut_among (r ∷ rs) c (suc k, x, low, is, edge) =
    inr (inr (cut_among rs c (k, x, omega arith, is, edge)))

among-left : (c : ℕ) (xs ys : List ℕ) → Among c xs → Among c (xs ++ ys)
among-left c [] ys there = absurd there
among-left c (x ∷ xs) ys (inl is) = inl is
among-left c (x ∷ xs) ys (inr there) = inr (among-left c xs ys there)

among-right : (c : ℕ) (xs ys : List ℕ) → Among c ys → Among c (xs ++ ys)
among-right c [] ys there = there
among-right c (x ∷ xs) ys there = inr (among-right c xs ys there)

among-map : (f : ℕ → ℕ) (c : ℕ) (xs : List ℕ) → Among c xs → Among (f c) (map f xs)
among-map f c [] there = absurd there
among-map f c (x ∷ xs) (inl is) = inl (ap f is)
among-map f c (x ∷ xs) (inr there) = inr (among-map f c xs there)

-- an IPv4 address in ::ffff:0:0/96, and the first of its block in 2002::/16
abbrev mapped : ℕ → ℕ
mapped c = 0xffff * 2 ^ 32 + c

abbrev six_to_four : ℕ → ℕ
six_to_four c = 0x2002 * 2 ^ 112 + c * 2 ^ 80

abbrev bounds : List ℕ
bounds = 0xffff * 2 ^ 32 ∷ 0x10000 * 2 ^ 32 ∷ 0x2002 * 2 ^ 112 ∷ 0x2003 * 2 ^ 112 ∷ []

abbrev pub record_cuts : InForce → List ℕ
record_cuts s =
    let own = cuts (statement_ranges s) in
    own ++ (map mapped own ++ (map six_to_four own ++ bounds))

six-by : (a : ℕ) → is_six_to_four a ≡ true → a / 2 ^ 112 ≡ 0x2002
six-by a is = eqb-true (a / 2 ^ 112) 0x2002 is

not-six : (a : ℕ) → is_six_to_four a ≡ false → a / 2 ^ 112 ≡ 0x2002 → ⊥
not-six a is same = let both : false ≡ true = sym is ∙ eq-eqb (a / 2 ^ 112) 0x2002 same in cc

mapped-by : (a : ℕ) → is_mapped a ≡ true → a / 2 ^ 32 ≡ 0xffff
mapped-by a is = eqb-true (a / 2 ^ 32) 0xffff is

not-mapped : (a : ℕ) → is_mapped a ≡ false → a / 2 ^ 32 ≡ 0xffff → ⊥
not-mapped a is same = let both : false ≡ true = sym is ∙ eq-eqb (a / 2 ^ 32) 0xffff same in cc

by_six : (a : ℕ) → a / 2 ^ 112 ≡ 0x2002 → is_six_to_four a ≡ true
by_six a is = eq-eqb (a / 2 ^ 112) 0x2002 is

by_mapped : (a : ℕ) → a / 2 ^ 32 ≡ 0xffff → is_mapped a ≡ true
by_mapped a is = eq-eqb (a / 2 ^ 32) 0xffff is

no_six_by : (a : ℕ) → (a / 2 ^ 112 ≡ 0x2002 → ⊥) → is_six_to_four a ≡ false
no_six_by a other = ne_eqb (a / 2 ^ 112) 0x2002 other

no_mapped_by : (a : ℕ) → (a / 2 ^ 32 ≡ 0xffff → ⊥) → is_mapped a ≡ false
no_mapped_by a other = ne_eqb (a / 2 ^ 32) 0xffff other

home-six : (a : ℕ) → is_six_to_four a ≡ true → home a ≡ a / 2 ^ 80 % 2 ^ 32
unfolding home
home-six a is = ap (λ t. if t then a / 2 ^ 80 % 2 ^ 32 else (if is_mapped a then a % 2 ^ 32 else a))
    is

home-mapped : (a : ℕ) → is_six_to_four a ≡ false → is_mapped a ≡ true → home a ≡ a % 2 ^ 32
unfolding home
home-mapped a other is =
    ap (λ t. if t then a / 2 ^ 80 % 2 ^ 32 else (if is_mapped a then a % 2 ^ 32 else a)) other
    ∙ ap (λ t. if t then a % 2 ^ 32 else a) is

home-own : (a : ℕ) → is_six_to_four a ≡ false → is_mapped a ≡ false → home a ≡ a
unfolding home
home-own a other also =
    ap (λ t. if t then a / 2 ^ 80 % 2 ^ 32 else (if is_mapped a then a % 2 ^ 32 else a)) other
    ∙ ap (λ t. if t then a % 2 ^ 32 else a) also

-- where an address of a block that begins and ends at these cut points stands, b stands too
module _ (s : InForce) (a b : ℕ) (up : a ≤ b)
    (none : (c : ℕ) → a < c → c ≤ b → Among c (record_cuts s) → ⊥) where
  abbrev own : List ℕ
  own = cuts (statement_ranges s)

  bound : (c : ℕ) → Among c bounds → a < c → b < c
  bound c there above = elim (cases_lt b c) [
    | inl below ↦ below
    | inr up ↦ absurd (none c above up
        (among-right c own _ (among-right c (map mapped own) _
        (among-right c (map six_to_four own) bounds there))))
  ]

  no_own : (c : ℕ) → a < c → c ≤ b → Among c own → ⊥
  no_own c above below there = none c above below (among-left c own _ there)

  no_mapped : (c : ℕ) → a < mapped c → mapped c ≤ b → Among c own → ⊥
  no_mapped c above below there =
      none (mapped c) above below
      (among-right (mapped c) own _
      (among-left (mapped c) (map mapped own) _ (among-map mapped c own there)))

  no_six : (c : ℕ) → a < six_to_four c → six_to_four c ≤ b → Among c own → ⊥
  no_six c above below there =
      none (six_to_four c) above below
      (among-right (six_to_four c) own _
      (among-right (six_to_four c) (map mapped own) _
      (among-left (six_to_four c) (map six_to_four own) bounds
      (among-map six_to_four c own there))))

  same_at : (x y : ℕ) → x ≤ y → ((c : ℕ) → x < c → c ≤ y → Among c own → ⊥)
      → spoken_at s x ≡ spoken_at s y
  same_at x y le absent =
      constant_between_cuts s x y le
      (λ c above below cut. absent c above below (cut_among (statement_ranges s) c cut))

  joined : (x y : ℕ) → home a ≡ x → home b ≡ y → spoken_at s x ≡ spoken_at s y
      → record_at s a ≡ record_at s b
  joined x y p q same = ap (spoken_at s) p ∙ same ∙ sym (ap (spoken_at s) q)

  of_six : is_six_to_four a ≡ true → record_at s a ≡ record_at s b
  of_six is =
      let here = six-by a is in
      let end = bound (0x2003 * 2 ^ 112) (inr (inr (inr (inl refl)))) (omega arith) in
      let there : b / 2 ^ 112 ≡ 0x2002 = omega arith in
      let also : is_six_to_four b ≡ true = by_six b there in
      joined (a / 2 ^ 80 % 2 ^ 32) (b / 2 ^ 80 % 2 ^ 32) (home-six a is) (home-six b also)
      (same_at (a / 2 ^ 80 % 2 ^ 32) (b / 2 ^ 80 % 2 ^ 32) (omega arith)
      (λ c above below. no_six c (omega arith) (omega arith)))

  of_mapped : is_six_to_four a ≡ false → is_mapped a ≡ true → record_at s a ≡ record_at s b
  of_mapped other is =
      let here = mapped-by a is in
      let end = bound (0x10000 * 2 ^ 32) (inr (inl refl)) (omega arith) in
      let there : b / 2 ^ 32 ≡ 0xffff = omega arith in
      let apart : is_six_to_four b ≡ false = no_six_by b (λ e. omega arith) in
      joined (a % 2 ^ 32) (b % 2 ^ 32) (home-mapped a other is)
      (home-mapped b apart (by_mapped b there))
      (same_at (a % 2 ^ 32) (b % 2 ^ 32) (omega arith)
      (λ c above below. no_mapped c (omega arith) (omega arith)))

  of_own : is_six_to_four a ≡ false → is_mapped a ≡ false → record_at s a ≡ record_at s b
  of_own other also =
      let out = not-six a other in
      let away = not-mapped a also in
      let apart : is_six_to_four b ≡ false = no_six_by b (λ e.
      elim (cases_lt a (0x2002 * 2 ^ 112)) [
        | inl below ↦ (let first = bound (0x2002 * 2 ^ 112) (inr (inr (inl refl))) below in
            omega arith)
        | inr above ↦ out (omega arith)
      ]) in
      let far : is_mapped b ≡ false = no_mapped_by b (λ e.
      elim (cases_lt a (0xffff * 2 ^ 32)) [
        | inl below ↦ (let first = bound (0xffff * 2 ^ 32) (inl refl) below in omega arith)
        | inr above ↦ away (omega arith)
      ]) in
      joined a b (home-own a other also) (home-own b apart far) (same_at a b up no_own)

  same_record : record_at s a ≡ record_at s b
  same_record = by (is_six_to_four a) (is_mapped a) refl refl
    where
      by : (t u : Bool) → is_six_to_four a ≡ t → is_mapped a ≡ u → record_at s a ≡ record_at s b
      by true u is also = of_six is
      by false true is also = of_mapped is also
      by false false is also = of_own is also

-- the record changes at these cut points alone
pub record_changes : (s : InForce) → ChangesAt (record_at s) (record_cuts s)
record_changes s a b up none = same_record s a b up none

length-cuts : (ranges : List Ends) → length (cuts ranges) ≡ 2 * length ranges
length-cuts [] = refl
length-cuts (r ∷ rs) = omega (arith, length-cuts rs)

-- six for each statement, and four
pub few_cuts : (s : InForce) → length (record_cuts s) ≡ 6 * length (statement_ranges s) + 4
few_cuts s =
    let own = cuts (statement_ranges s) in
    omega (
      arith,
      length-cuts (statement_ranges s),
      length-append own (map mapped own ++ (map six_to_four own ++ bounds)),
      length-append (map mapped own) (map six_to_four own ++ bounds),
      length-append (map six_to_four own) bounds,
      length-map own mapped,
      length-map own six_to_four,
    )
