-- What is written before the content of a value is read again: its type, its size and the offset of
-- the content.
use Rattle.std.proofs.Common.{◌≡◌, ℕ, ◌+◌, ◌-◌, ◌*◌, ◌/◌, ◌%◌, ◌<◌, ◌≤◌, false, List, [], ◌∷◌, ◌++◌}
use Rattle.std.proofs.Common.{length, drop, Ok, refl, ap, ◌∙◌, append_assoc, arith, inl, inr}
use Rattle.std.proofs.lemmas.Bool.{lt-ltb, le-ltb, ne_eqb, cases_lt}
use Rattle.std.proofs.lemmas.List.{length-append}
use Rattle.mmdb_data.specs.declared.fault.DataCause.TheVariants.{Truncated}
use Rattle.mmdb_data.specs.ValueTree.{most}
use Rattle.mmdb_data.specs.Spelling.{size_code, size_bytes, kind_bytes, head}
use Rattle.mmdb_data.specs.Reading.{Fault, byte_from, kind_from, size_from, head_from, is_pointer}
use Rattle.mmdb_data.proofs.Offsets.{moved, byte_here, number_here}

-- the two parts of a size, and how they are read
record SizeIs (section : List ℕ) (at offset size : ℕ) : Type 0 where
  pub small : size_code size < 32
  pub read : size_from section at (size_code size) offset ≡ Ok
      (size, offset + length (size_bytes size))

size_here : (section : List ℕ) (at offset size : ℕ) (y : List ℕ) → size ≤ most
    → drop offset section ≡ size_bytes size ++ y → SizeIs section at offset size
unfolding size_code size_bytes size_from
size_here section at offset size y fits here =
    elim (cases_lt size 29) [
      | inl a ↦ let a' = lt-ltb size 29 a in
          record {
            small = rw a' (omega arith);
            read =
                rw (a', a') (ap (λ (n : ℕ). Ok (size, n)) (omega arith));
          }
      | inr a ↦ let a' = le-ltb size 29 a in
          elim (cases_lt size 285) [
            | inl b ↦ let b' = lt-ltb size 285 b in
                let one = number_here section offset 1 (size - 29) y (at, Truncated)
                (rw (a', b') at here) (omega arith) in
                record {
                  small = rw (a', b') (omega arith);
                  read =
                      rw (a', b', one) (ap (λ (n : ℕ). Ok (n, offset + 1)) (omega arith));
                }
            | inr b ↦ let b' = le-ltb size 285 b in
                elim (cases_lt size 65821) [
                  | inl c ↦ let c' = lt-ltb size 65821 c in
                      let two = number_here section offset 2 (size - 285) y (at, Truncated)
                      (rw (a', b', c') at here) (omega arith) in
                      record {
                        small = rw (a', b', c') (omega arith);
                        read =
                            rw (a', b', c', two) (ap (λ (n : ℕ). Ok (n, offset + 2)) (omega arith));
                      }
                  | inr c ↦ let c' = le-ltb size 65821 c in
                      let three = number_here section offset 3 (size - 65821) y (at, Truncated)
                      (rw (a', b', c') at here) (omega arith) in
                      record {
                        small = rw (a', b', c') (omega arith);
                        read =
                            rw (a', b', c', three) (ap (λ (n : ℕ). Ok (n, offset + 3))
                            (omega arith));
                      }
                ]
          ]
    ]

-- the control byte, and how the type is read from it
record KindIs (section : List ℕ) (at kind code : ℕ) : Type 0 where
  pub control : ℕ
  pub first : (fault : Fault) → byte_from section at fault ≡ Ok control
  pub no_pointer : is_pointer control ≡ false
  pub code_is : control % 32 ≡ code
  pub read : kind_from section at control ≡ Ok (kind, at + length (kind_bytes kind code))

kind_here : (section : List ℕ) (at kind code : ℕ) (y : List ℕ) → 2 ≤ kind → code < 32
    → drop at section ≡ kind_bytes kind code ++ y → KindIs section at kind code
unfolding kind_bytes kind_from
kind_here section at kind code y low small here =
    elim (cases_lt kind 8) [
      | inl a ↦ let a' = lt-ltb kind 8 a in
          let here' : drop at section ≡ (kind * 32 + code) ∷ y = rw a' at here in
          let high : (kind * 32 + code) / 32 ≡ kind = omega arith in
          record {
            control = kind * 32 + code;
            first = λ fault. byte_here section at (kind * 32 + code) y fault here';
            no_pointer = rw high (ne_eqb kind 1 (λ e. omega arith));
            code_is = omega arith;
            read = rw (high, ne_eqb kind 0 (λ e. omega arith), a') refl;
          }
      | inr a ↦ let a' = le-ltb kind 8 a in
          let here' : drop at section ≡ code ∷ (kind - 7) ∷ y = rw a' at here in
          let next : drop (at + 1) section ≡ (kind - 7) ∷ y =
          moved section at (code ∷ []) ((kind - 7) ∷ y) (at + 1) here' refl in
          let high : code / 32 ≡ 0 = omega arith in
          let one = byte_here section (at + 1) (kind - 7) y (at, Truncated) next in
          record {
            control = code;
            first = λ fault. byte_here section at code ((kind - 7) ∷ y) fault here';
            no_pointer = rw high refl;
            code_is = omega arith;
            read = rw (high, one, a') (ap (λ (n : ℕ). Ok (n, at + 2)) (omega arith));
          }
    ]

-- the control byte, and how the whole head is read
pub record HeadIs (section : List ℕ) (at kind size : ℕ) : Type 0 where
  pub control : ℕ
  pub first : (fault : Fault) → byte_from section at fault ≡ Ok control
  pub no_pointer : is_pointer control ≡ false
  pub read : head_from section at ≡ Ok (kind, size, at + length (head kind size))

pub head_here : (section : List ℕ) (at kind size : ℕ) (y : List ℕ) → 2 ≤ kind → size ≤ most
    → drop at section ≡ head kind size ++ y → HeadIs section at kind size
unfolding head head_from
head_here section at kind size y low fits here =
    let parts : drop at section ≡ kind_bytes kind (size_code size) ++ (size_bytes size ++ y) =
    here ∙ append_assoc (kind_bytes kind (size_code size)) (size_bytes size) y in
    let offset = at + length (kind_bytes kind (size_code size)) in
    let second = size_here section at offset size y fits
    (moved section at (kind_bytes kind (size_code size))
    (size_bytes size ++ y) offset parts refl) in
    let one = kind_here section at kind (size_code size)
    (size_bytes size ++ y) low second.small parts in
    let whole : offset + length (size_bytes size) ≡ at + length
    (kind_bytes kind (size_code size) ++ size_bytes size) =
    omega (arith, length-append (kind_bytes kind (size_code size)) (size_bytes size)) in
    record {
      control = one.control;
      first = one.first;
      no_pointer = one.no_pointer;
      read = rw (one.first (at, Truncated), one.read, one.code_is, second.read)
          (ap (λ (n : ℕ). Ok (kind, size, n)) whole);
    }
