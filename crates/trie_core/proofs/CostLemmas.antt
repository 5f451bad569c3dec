-- Lemmas on how many blocks a range cuts: at most two at each depth.
use Rattle.std.proofs.Common.{◌≡◌, ℕ, zero, suc, ◌+◌, ◌*◌, ◌^◌, ◌<◌, ◌≤◌, ◌⊎◌, inl, inr, Bool, true}
use Rattle.std.proofs.Common.{false, not, ◌&&◌, true≢false, if◌then◌else◌, nat_le, nat_lt, List, []}
use Rattle.std.proofs.Common.{◌∷◌, length, refl, sym, ◌∙◌, ap, arith, le-leb, lt-ltb, le-ltb}
use Rattle.std.proofs.lemmas.Bool.{cases_lt, lt-leb}
use Rattle.std.proofs.lemmas.List.Sums.{sum_by-le, sum_by-cons}
use Rattle.std.proofs.Math.Nat.{two-pow-succ}
use Rattle.geo_addr.specs.Ranges.{Ends}
use Rattle.trie_core.specs.declared.paint.Part.{Part}
use Rattle.trie_core.specs.Paint.{is_cut, cut_blocks, paint_cost, IsAscending}

-- a range that has no address of a block does not cut it
is_cut-apart : (n first : ℕ) (r : Ends)
    → (r.last < first) ⊎ (first + 2 ^ n ≤ r.first) → is_cut n first r ≡ false
is_cut-apart n first r (inl before) =
    let test : nat_le first r.last ≡ false = lt-leb first r.last before in
    rw test refl
is_cut-apart n first r (inr after) =
    let test : nat_lt r.first (first + 2 ^ n) ≡ false = le-ltb r.first (first + 2 ^ n) after in
    rw test (and_false (nat_le first r.last))
  where
    and_false : (b : Bool) → ((b && false)
        && not (nat_le r.first first && nat_le (first + 2 ^ n) (r.last + 1))) ≡ false
    and_false true = refl
    and_false false = refl

-- a range that has all addresses of a block does not cut it
is_cut-whole : (n first : ℕ) (r : Ends) → r.first ≤ first → first + 2 ^ n ≤ r.last + 1
    → is_cut n first r ≡ false
is_cut-whole n first r begins ends =
    let first-test : nat_le r.first first ≡ true = le-leb r.first first begins in
    let last-test : nat_le (first + 2 ^ n) (r.last + 1) ≡ true =
    le-leb (first + 2 ^ n) (r.last + 1) ends in
    rw (first-test, last-test) (and_false (nat_le first r.last && nat_lt r.first (first + 2 ^ n)))
  where
    and_false : (b : Bool) → (b && false) ≡ false
    and_false true = refl
    and_false false = refl

-- and any other range does
is_cut-part : (n first : ℕ) (r : Ends) → first ≤ r.last → r.first < first + 2 ^ n
    → (r.first ≤ first → r.last + 1 < first + 2 ^ n) → is_cut n first r ≡ true
is_cut-part n first r last begins other =
    let one : nat_le first r.last ≡ true = le-leb first r.last last in
    let two : nat_lt r.first (first + 2 ^ n) ≡ true = lt-ltb r.first (first + 2 ^ n) begins in
    let three : (nat_le r.first first && nat_le (first + 2 ^ n) (r.last + 1)) ≡ false =
    elim (cases_lt first r.first) [
      | inl out ↦ let test : nat_le r.first first ≡ false = lt-leb r.first first out in rw test refl
      | inr at ↦
          let a : nat_le r.first first ≡ true = le-leb r.first first at in
          let b : nat_le (first + 2 ^ n) (r.last + 1) ≡ false =
          lt-leb (first + 2 ^ n) (r.last + 1) (other at) in
          rw (a, b) refl
    ] in
    rw (one, two, three) refl

-- a block that is not cut costs nothing
cut_blocks-none : (n first : ℕ) (r : Ends) → is_cut n first r ≡ false → cut_blocks n first r ≡ 0
unfolding cut_blocks
cut_blocks-none zero first r is = refl
cut_blocks-none (suc n) first r is =
    ap (λ (b : Bool). if b then suc (cut_blocks n first r + cut_blocks n (first + 2 ^ n) r) else 0)
    is

-- a block that is cut costs one and what its halves cost
cut_blocks-some : (n first : ℕ) (r : Ends) → is_cut (suc n) first r ≡ true
    → cut_blocks (suc n) first r ≡ suc (cut_blocks n first r + cut_blocks n (first + 2 ^ n) r)
unfolding cut_blocks
cut_blocks-some n first r is =
    ap (λ (b : Bool). if b then suc (cut_blocks n first r + cut_blocks n (first + 2 ^ n) r) else 0)
    is

pub cut_blocks-apart : (n first : ℕ) (r : Ends)
    → (r.last < first) ⊎ (first + 2 ^ n ≤ r.first) → cut_blocks n first r ≡ 0
cut_blocks-apart n first r out = cut_blocks-none n first r (is_cut-apart n first r out)

pub cut_blocks-whole : (n first : ℕ) (r : Ends) → r.first ≤ first → first + 2 ^ n ≤ r.last + 1
    → cut_blocks n first r ≡ 0
cut_blocks-whole n first r begins ends =
    cut_blocks-none n first r (is_cut-whole n first r begins ends)

-- a block costs at least what its halves cost, and one more where it is cut
cut_blocks-halves : (n first : ℕ) (r : Ends)
    → cut_blocks n first r + cut_blocks n (first + 2 ^ n) r ≤ cut_blocks (suc n) first r
cut_blocks-halves n first r = by (is_cut (suc n) first r) refl
  where
    power : 2 ^ suc n ≡ 2 ^ n + 2 ^ n
    power = two-pow-succ n

    none : (r.last < first) ⊎ (first + 2 ^ suc n ≤ r.first)
        → cut_blocks n first r + cut_blocks n (first + 2 ^ n) r ≤ cut_blocks (suc n) first r
    none (inl before) = omega (
      arith,
      cut_blocks-apart n first r (inl before),
      cut_blocks-apart n (first + 2 ^ n) r (inl (omega arith)),
    )
    none (inr after) = omega (
      arith,
      cut_blocks-apart n first r (inr (omega (arith, two-pow-succ n))),
      cut_blocks-apart n (first + 2 ^ n) r (inr (omega (arith, two-pow-succ n))),
    )

    whole : r.first ≤ first → first + 2 ^ suc n ≤ r.last + 1
        → cut_blocks n first r + cut_blocks n (first + 2 ^ n) r ≤ cut_blocks (suc n) first r
    whole begins ends = omega (
      arith,
      cut_blocks-whole n first r begins (omega (arith, two-pow-succ n)),
      cut_blocks-whole n (first + 2 ^ n) r (omega arith) (omega (arith, two-pow-succ n)),
    )

    by : (cut : Bool) → is_cut (suc n) first r ≡ cut
        → cut_blocks n first r + cut_blocks n (first + 2 ^ n) r ≤ cut_blocks (suc n) first r
    by true is = omega (arith, cut_blocks-some n first r is)
    by false is =
        elim (cases_lt r.last first) [
          | inl before ↦ none (inl before)
          | inr reaches ↦ elim (cases_lt r.first (first + 2 ^ suc n)) [
            | inr after ↦ none (inr after)
            | inl begins ↦ elim (cases_lt first r.first) [
              | inl later ↦ absurd (true≢false (sym
                  (is_cut-part (suc n) first r reaches begins (λ le. absurd (omega arith))) ∙ is))
              | inr at ↦ elim (cases_lt (r.last + 1) (first + 2 ^ suc n)) [
                | inl ends ↦ absurd
                    (true≢false (sym (is_cut-part (suc n) first r reaches begins (λ _. ends)) ∙ is))
                | inr past ↦ whole at past
              ]
            ]
          ]
        ]

-- and at most one more than they cost
cut_blocks-le_halves : (n first : ℕ) (r : Ends)
    → cut_blocks (suc n) first r ≤ suc (cut_blocks n first r + cut_blocks n (first + 2 ^ n) r)
cut_blocks-le_halves n first r = by (is_cut (suc n) first r) refl
  where
    by : (cut : Bool) → is_cut (suc n) first r ≡ cut
        → cut_blocks (suc n) first r ≤ suc (cut_blocks n first r + cut_blocks n (first + 2 ^ n) r)
    by true is = omega (arith, cut_blocks-some n first r is)
    by false is = omega (arith, cut_blocks-none (suc n) first r is)

-- a range that reaches the block's end has one edge in it
cut_blocks_from : (n first : ℕ) (r : Ends) → first + 2 ^ n ≤ r.last + 1 → cut_blocks n first r ≤ n
unfolding cut_blocks
cut_blocks_from zero first r ends = omega arith
cut_blocks_from (suc n) first r ends =
    let power : 2 ^ suc n ≡ 2 ^ n + 2 ^ n = two-pow-succ n in
    elim (cases_lt first r.first) [
      | inr at ↦ omega (arith, cut_blocks-whole (suc n) first r at ends)
      | inl later ↦ elim (cases_lt r.first (first + 2 ^ n)) [
        | inl lower ↦
            let under : cut_blocks n first r ≤ n = cut_blocks_from n first r (omega arith) in
            omega (
              arith,
              cut_blocks-le_halves n first r,
              under,
              cut_blocks-whole n (first + 2 ^ n) r (omega arith) (omega arith),
            )
        | inr upper ↦
            let under : cut_blocks n (first + 2 ^ n) r ≤ n =
            cut_blocks_from n (first + 2 ^ n) r (omega arith) in
            omega
            (arith, cut_blocks-le_halves n first r, cut_blocks-apart n first r (inr upper), under)
      ]
    ]

-- so has a range that begins at or before the block's first address
cut_blocks_to : (n first : ℕ) (r : Ends) → r.first ≤ first → cut_blocks n first r ≤ n
unfolding cut_blocks
cut_blocks_to zero first r begins = omega arith
cut_blocks_to (suc n) first r begins =
    let power : 2 ^ suc n ≡ 2 ^ n + 2 ^ n = two-pow-succ n in
    elim (cases_lt (r.last + 1) (first + 2 ^ suc n)) [
      | inr past ↦ omega (arith, cut_blocks-whole (suc n) first r begins past)
      | inl ends ↦ elim (cases_lt r.last (first + 2 ^ n)) [
        | inl lower ↦
            let under : cut_blocks n first r ≤ n = cut_blocks_to n first r begins in
            omega (
              arith,
              cut_blocks-le_halves n first r,
              under,
              cut_blocks-apart n (first + 2 ^ n) r (inl lower),
            )
        | inr upper ↦
            let under : cut_blocks n (first + 2 ^ n) r ≤ n =
            cut_blocks_to n (first + 2 ^ n) r (omega arith) in
            omega (
              arith,
              cut_blocks-le_halves n first r,
              cut_blocks-whole n first r begins (omega arith),
              under,
            )
      ]
    ]

-- every range has at most two
pub cut_blocks-le : (n first : ℕ) (r : Ends) → r.first ≤ r.last → cut_blocks n first r ≤ 2 * n
unfolding cut_blocks
cut_blocks-le zero first r ordered = omega arith
cut_blocks-le (suc n) first r ordered =
    let power : 2 ^ suc n ≡ 2 ^ n + 2 ^ n = two-pow-succ n in
    elim (cases_lt r.last (first + 2 ^ n)) [
      | inl lower ↦
          let under : cut_blocks n first r ≤ 2 * n = cut_blocks-le n first r ordered in
          omega (
            arith,
            cut_blocks-le_halves n first r,
            under,
            cut_blocks-apart n (first + 2 ^ n) r (inl lower),
          )
      | inr reaches ↦ elim (cases_lt r.first (first + 2 ^ n)) [
        | inr upper ↦
            let under : cut_blocks n (first + 2 ^ n) r ≤ 2 * n =
            cut_blocks-le n (first + 2 ^ n) r ordered in
            omega
            (arith, cut_blocks-le_halves n first r, under, cut_blocks-apart n first r (inr upper))
        | inl both ↦
            omega (
              arith,
              cut_blocks-le_halves n first r,
              cut_blocks_from n first r (omega arith),
              cut_blocks_to n (first + 2 ^ n) r (omega arith),
            )
      ]
    ]

-- ---- all parts together

paint_cost-cons : (n first : ℕ) (p : Part) (ps : List Part)
    → paint_cost n first (p ∷ ps) ≡ cut_blocks n first p.range + paint_cost n first ps
paint_cost-cons n first p ps = sum_by-cons (λ q. cut_blocks n first q.range) p ps

-- all parts cost at least what they cost in the halves
paint_cost-halves : (n first : ℕ) (parts : List Part)
    → paint_cost n first parts + paint_cost n (first + 2 ^ n) parts ≤ paint_cost (suc n) first parts
paint_cost-halves n first [] = omega arith
paint_cost-halves n first (p ∷ ps) = omega (
  arith,
  cut_blocks-halves n first p.range,
  paint_cost-halves n first ps,
  paint_cost-cons n first p ps,
  paint_cost-cons n (first + 2 ^ n) p ps,
  paint_cost-cons (suc n) first p ps,
)

-- where the first part does not have the whole block, one more
pub paint_cost_cut : (n first : ℕ) (p : Part) (ps : List Part) → first ≤ p.range.last
    → p.range.first < first + 2 ^ suc n
    → (p.range.first ≤ first → p.range.last + 1 < first + 2 ^ suc n)
    → suc (paint_cost n first (p ∷ ps) + paint_cost n (first + 2 ^ n) (p ∷ ps))
    ≤ paint_cost (suc n) first (p ∷ ps)
paint_cost_cut n first p ps last begins other =
    omega (
      arith,
      cut_blocks-some n first p.range (is_cut-part (suc n) first p.range last begins other),
      paint_cost-halves n first ps,
      paint_cost-cons n first p ps,
      paint_cost-cons n (first + 2 ^ n) p ps,
      paint_cost-cons (suc n) first p ps,
    )

-- in the whole space a part costs at most 256
pub paint_cost-le : (parts : List Part) → IsAscending parts
    → paint_cost 128 0 parts ≤ 256 * length parts
paint_cost-le parts up =
    omega (
      arith,
      sum_by-le (λ p. cut_blocks 128 0 p.range) 256 parts
          (λ k d below. cut_blocks-le 128 0 _ (up.ranges k d below).ordered),
    )
