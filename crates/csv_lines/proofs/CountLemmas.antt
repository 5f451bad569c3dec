-- Lines counted in slots: those that share none are alone.
use Rattle.std.proofs.Common.{inl, inr, ◌≡◌, ℕ, ◌+◌, ◌<◌, ◌≤◌, true, false, List, length}
use Rattle.std.proofs.Common.{get_or, min, refl, sym, ap, ◌∙◌, subst, arith, ◌&&◌}
use Rattle.std.proofs.Common.{◌*◌, ◌/◌, ◌%◌, ◌^◌}
use Rattle.std.proofs.Math.Nat.{div-lt_iff_lt-mul, mul-lt-mul_of_pos_right}
use Rattle.std.proofs.lemmas.Bool.{and_parts, cases_order, cases_eq, false_from_ne_true, lt-ltb}
use Rattle.std.proofs.lemmas.List.{get_or-set_same, get_or-set_other, length-set}
use Rattle.std.proofs.lemmas.Map.Keys.{IsDistinct-from_apart}
use Rattle.geo_addr.specs.Ranges.{Ends}
use Rattle.geo_terms.specs.Report.{same_ends}
use Rattle.csv_lines.specs.Doubled.{IsAlone, count_at, counted, is_shared, slot}
use Rattle.csv_lines.proofs.FateLemmas.{ends_same, get_or_same}

part_below : (part slots : ℕ) → part < 2 ^ 64 → 0 < slots → part * slots / 2 ^ 64 < slots
part_below part slots less some =
    let below = mul-lt-mul_of_pos_right less some in
    (div-lt_iff_lt-mul (omega arith)).1 (omega (arith, below))

-- a slot is one of those that there are
slot_within : (slots : ℕ) (r : Ends) → 0 < slots → slot slots r < slots
unfolding slot
slot_within slots r some =
    let sum = (r.first + r.last) % 2 ^ 128 in
    let spread = sum * 0x9e37_79b9_7f4a_7c15_f39c_c060_5ced_c835 % 2 ^ 128 in
    part_below (spread / 2 ^ 64) slots (omega arith) some

-- the first ranges of a list are counted
pub record AreCounted (rs : List Ends) (i : ℕ) (counts : List ℕ) : Type 0 where
  pub some : 0 < length counts
  pub each : (j : ℕ) (d : Ends) → j < i → 1 ≤ count_at counts (get_or rs j d)
  pub pairs : (j k : ℕ) (d : Ends) → j < k → k < i
      → slot (length counts) (get_or rs j d) ≡ slot (length counts) (get_or rs k d)
      → 2 ≤ count_at counts (get_or rs j d)

-- one more is counted in its slot, and in no other
counts_here : (counts : List ℕ) (r s : Ends) → slot (length counts) r < length counts
    → slot (length counts) s ≡ slot (length counts) r
    → count_at (counted counts r) s ≡ min (count_at counts r + 1) 255
counts_here counts r s within same =
    let long = length-set counts (slot (length counts) r) (min (count_at counts r + 1) 255) in
    rw (long, same)
    (get_or-set_same counts (slot (length counts) r) (min (count_at counts r + 1) 255) 0 within)

counts_there : (counts : List ℕ) (r s : Ends)
    → (slot (length counts) s ≡ slot (length counts) r → ⊥)
    → count_at (counted counts r) s ≡ count_at counts s
counts_there counts r s apart =
    let long = length-set counts (slot (length counts) r) (min (count_at counts r + 1) 255) in
    rw long
    (get_or-set_other counts (slot (length counts) r) (slot (length counts) s)
    (min (count_at counts r + 1) 255) 0 apart)

-- no count falls
counts_rise : (counts : List ℕ) (r s : Ends) (n : ℕ) → slot (length counts) r < length counts
    → n ≤ 255 → n ≤ count_at counts s → n ≤ count_at (counted counts r) s
counts_rise counts r s n within low some =
    elim (cases_eq (slot (length counts) s) (slot (length counts) r)) [
      | inl same ↦
          let own : count_at counts s ≡ count_at counts r = ap (λ m. get_or counts m 0) same in
          rw (counts_here counts r s within same) (omega (arith, own))
      | inr apart ↦ rw (counts_there counts r s apart) some
    ]

pub counted_more : (rs : List Ends) (i : ℕ) (counts : List ℕ) (r : Ends) → i < length rs
    → r ≡ get_or rs i r → AreCounted rs i counts → AreCounted rs (i + 1) (counted counts r)
counted_more rs i counts r l is old = record {
  some = omega (arith, old.some, long);
  each =
      λ j d less. elim (cases_order j i) [
        | inl here ↦
            let at : get_or rs j d ≡ r =
            ap (λ n. get_or rs n d) here ∙ get_or_same rs i d r l ∙ sym is in
            rw (at, counts_here counts r r within refl) (omega arith)
        | inr other ↦ elim other [
          | inl before ↦ counts_rise counts r (get_or rs j d) 1 within (omega arith)
              (old.each j d before)
          | inr behind ↦ absurd (omega arith)
        ]
      ];
  pairs =
      λ j k d less up same. elim (cases_order k i) [
        | inl here ↦
            let at : get_or rs k d ≡ r =
            ap (λ n. get_or rs n d) here ∙ get_or_same rs i d r l ∙ sym is in
            let one : slot (length counts) (get_or rs j d) ≡ slot (length counts) r =
            rw (long, at) at same in
            let had : 1 ≤ count_at counts (get_or rs j d) = old.each j d (omega arith) in
            let own : count_at counts (get_or rs j d) ≡ count_at counts r =
            ap (λ m. get_or counts m 0) one in
            rw (counts_here counts r (get_or rs j d) within one) (omega (arith, own))
        | inr other ↦ elim other [
          | inl before ↦ counts_rise counts r (get_or rs j d) 2 within (omega arith)
              (old.pairs j k d less before (rw long at same))
          | inr behind ↦ absurd (omega arith)
        ]
      ];
}
  where
    long : length (counted counts r) ≡ length counts
    long = length-set counts (slot (length counts) r) (min (count_at counts r + 1) 255)

    within : slot (length counts) r < length counts
    within = slot_within (length counts) r old.some

-- of a range whose slot no two lines share, there is at most one line
pub alone_counted : (rs : List Ends) (counts : List ℕ) → AreCounted rs (length rs) counts
    → (k : Ends) → is_shared counts k ≡ false → IsAlone k rs
alone_counted rs counts all k one =
    IsDistinct-from_apart (λ x y. same_ends k x && same_ends k y) rs (λ i j d less within.
    false_from_ne_true _ (λ h.
    let (first, second) =
    and_parts (same_ends k (get_or rs i d)) (same_ends k (get_or rs j d)) h in
    let at_i : k ≡ get_or rs i d = ends_same k (get_or rs i d) first in
    let at_j : k ≡ get_or rs j d = ends_same k (get_or rs j d) second in
    let two : 2 ≤ count_at counts (get_or rs i d) =
    all.pairs i j d less within (ap (slot (length counts)) (sym at_i ∙ at_j)) in
    let here : 2 ≤ count_at counts k =
    subst (λ (r : Ends). 2 ≤ count_at counts r) (sym at_i) two in
    let clash : true ≡ false =
    sym (lt-ltb 1 (count_at counts k) (omega (arith, here))) ∙ one in cc))
