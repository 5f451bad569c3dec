-- A value that is read through a pointer to where it stands in full.
use Rattle.std.proofs.Common.{◌≡◌, ℕ, zero, suc, ◌+◌, ◌-◌, ◌/◌, ◌%◌, ◌^◌, ◌<◌, true, List, [], ◌∷◌}
use Rattle.std.proofs.Common.{◌++◌, length, drop, Ok, refl, sym, ap, ◌∙◌, arith, inl, inr}
use Rattle.std.specs.Int.{bytes_high_first}
use Rattle.std.proofs.lemmas.Bool.{lt-ltb, le-ltb, eq-eqb, ne_eqb, cases_lt}
use Rattle.std.proofs.lemmas.List.{append-nil, drop_at}
use Rattle.byteorder.specs.Endian.{big_number}
use Rattle.byteorder.specs.Numbers.{big_from-bytes, length-bytes_high_first}
use Rattle.mmdb_data.specs.declared.fault.DataCause.TheVariants.{Truncated, Many, OutOfSection}
use Rattle.mmdb_data.specs.ValueTree.{ValueTree}
use Rattle.mmdb_data.specs.Reading.{Fault, byte_from, number_from, pointer_from, is_pointer}
use Rattle.mmdb_data.specs.Reading.{target_from, value_from}
use Rattle.mmdb_data.specs.Packing.{pointer}
use Rattle.mmdb_data.specs.Laws.{PointsTo, PointersReadBack}
use Rattle.mmdb_data.proofs.Offsets.{moved, byte_here, bytes_here}
use Rattle.mmdb_data.proofs.Values.{StandsFull, Stands, one_less_is, some_levels, some_values}

-- the low bytes of a number that need not fit
low_here : (section : List ℕ) (offset size n : ℕ) (y : List ℕ) (fault : Fault)
    → drop offset section ≡ bytes_high_first size n ++ y
    → number_from section offset size fault ≡ Ok (n % 256 ^ size)
unfolding number_from
low_here section offset size n y fault here =
    rw (bytes_here section offset size (bytes_high_first size n) y fault here
    (length-bytes_high_first size n))
    (ap Ok (ap (big_number size) (sym (append-nil (bytes_high_first size n)))
    ∙ big_from-bytes size n []))

-- the control byte, and the bytes after it
record IsControl (section : List ℕ) (at control : ℕ) (behind : List ℕ) : Type 0 where
  pub first : (fault : Fault) → byte_from section at fault ≡ Ok control
  pub next : drop (at + 1) section ≡ behind
  pub is_one : is_pointer control ≡ true

control_here : (section : List ℕ) (at control : ℕ) (behind : List ℕ) → control / 32 ≡ 1
    → drop at section ≡ control ∷ behind → IsControl section at control behind
control_here section at control behind high here =
    record {
      first = λ fault. byte_here section at control behind fault here;
      next = moved section at (control ∷ []) behind (at + 1) here refl;
      is_one = eq-eqb (control / 32) 1 high;
    }

pointer_here : (section : List ℕ) (at to : ℕ) (y : List ℕ) → to < 2 ^ 32
    → drop at section ≡ pointer to ++ y → PointsTo section at to
unfolding pointer pointer_from
pointer_here section at to y fits here =
    elim (cases_lt to 2048) [
      | inl a ↦ let a' = lt-ltb to 2048 a in
          let h = control_here section at (32 + to / 2 ^ 8) (bytes_high_first 1 to ++ y)
          (omega arith) (rw a' at here) in
          let low = low_here section (at + 1) 1 to y (at, Truncated) h.next in
          let which = eq-eqb ((32 + to / 2 ^ 8) % 32 / 8) 0 (omega arith) in
          record {
            control = 32 + to / 2 ^ 8;
            first = h.first;
            is_one = h.is_one;
            read =
                rw (a', which, low) (ap (λ (n : ℕ). Ok (n, at + 2)) (omega arith));
          }
      | inr a ↦ let a' = le-ltb to 2048 a in
          elim (cases_lt to 526336) [
            | inl b ↦ let b' = lt-ltb to 526336 b in
                let h = control_here section at (40 + (to - 2048) / 2 ^ 16)
                (bytes_high_first 2 (to - 2048) ++ y) (omega arith) (rw (a', b') at here) in
                let low = low_here section (at + 1) 2 (to - 2048) y (at, Truncated) h.next in
                let first = ne_eqb ((40 + (to - 2048) / 2 ^ 16) % 32 / 8) 0 (λ e. omega arith) in
                let which = eq-eqb ((40 + (to - 2048) / 2 ^ 16) % 32 / 8) 1 (omega arith) in
                record {
                  control = 40 + (to - 2048) / 2 ^ 16;
                  first = h.first;
                  is_one = h.is_one;
                  read = rw (a', b', first, which, low)
                      (ap (λ (n : ℕ). Ok (n, at + 3)) (omega arith));
                }
            | inr b ↦ let b' = le-ltb to 526336 b in
                elim (cases_lt to 134744064) [
                  | inl c ↦ let c' = lt-ltb to 134744064 c in
                      let h = control_here section at (48 + (to - 526336) / 2 ^ 24)
                      (bytes_high_first 3 (to - 526336) ++ y) (omega arith)
                      (rw (a', b', c') at here) in
                      let low = low_here section (at + 1) 3 (to - 526336) y
                      (at, Truncated) h.next in
                      let first = ne_eqb ((48 + (to - 526336) / 2 ^ 24) % 32 / 8) 0
                      (λ e. omega arith) in
                      let second = ne_eqb ((48 + (to - 526336) / 2 ^ 24) % 32 / 8) 1
                      (λ e. omega arith) in
                      let which = eq-eqb ((48 + (to - 526336) / 2 ^ 24) % 32 / 8) 2 (omega arith) in
                      record {
                        control = 48 + (to - 526336) / 2 ^ 24;
                        first = h.first;
                        is_one =
                            h.is_one;
                        read = rw (a', b', c', first, second, which, low)
                            (ap (λ (n : ℕ). Ok (n, at + 4)) (omega arith));
                      }
                  | inr c ↦ let c' = le-ltb to 134744064 c in
                      let h = control_here section at 56 (bytes_high_first 4 to ++ y) refl
                      (rw (a', b', c') at here) in
                      let low = low_here section (at + 1) 4 to y (at, Truncated) h.next in
                      record {
                        control = 56;
                        first = h.first;
                        is_one = h.is_one;
                        read =
                            rw (a', b', c', low) (ap (λ (n : ℕ). Ok (n, at + 5))
                            (omega (arith, fits)));
                      }
                ]
          ]
    ]

pub pointers_back : PointersReadBack
pointers_back to before after fits =
    pointer_here (before ++ (pointer to ++ after)) (length before) to after fits
    (drop_at before (pointer to ++ after) (length before) refl)

pub pointed : {section : List ℕ} {value : ValueTree} {to after : ℕ} (at : ℕ) (y : List ℕ)
    → StandsFull section value to after → to < 2 ^ 32 → drop at section ≡ pointer to ++ y
    → Stands section value at (at + length (pointer to))
unfolding value_from target_from
pointed {value = value} at y h fits here zero is_key n m b c may deep few light =
    absurd (omega (arith, some_levels value, deep))
pointed {value = value} at y h fits here (suc levels) is_key n m zero c may deep few light =
    absurd (omega (arith, some_values value, few))
pointed {section = section} {to = to} at y h fits here (suc levels) is_key n m
    (suc b) c may deep few light =
    let p = pointer_here section at to y fits here in
    rw (
      one_less_is b c (at, Many),
      p.first (at, Truncated),
      p.is_one,
      p.read,
      h.first (at, OutOfSection),
      h.no_pointer,
      h.read levels is_key n m b c may deep few light,
    )
    refl
