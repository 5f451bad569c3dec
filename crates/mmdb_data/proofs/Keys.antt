-- What is read as a key is a text.
use Rattle.std.specs.Prelude.{nat_lt, ◌||◌}
use Rattle.std.proofs.Common.{◌≡◌, ℕ, zero, suc, ◌+◌, Bool, true, eqb, ltb, List}
use Rattle.std.proofs.Common.{Option, Some, None, Result, Ok, Err, refl, subst, inl, inr}
use Rattle.std.specs.Str.{IsUtf8, is_utf8}
use Rattle.std.proofs.lemmas.Str.{IsUtf8-from_is_utf8}
use Rattle.mmdb_data.specs.declared.fault.DataCause.TheVariants.{Truncated, PointerToPointer}
use Rattle.mmdb_data.specs.declared.fault.DataCause.TheVariants.{OutOfSection, Key, Many, Size}
use Rattle.mmdb_data.specs.declared.fault.DataCause.TheVariants.{Utf8}
use Rattle.mmdb_data.specs.ValueTree.{ValueTree, text, bytes, bool}
use Rattle.mmdb_data.specs.Laws.{KeysAreTexts}
use Rattle.mmdb_data.specs.Reading.{◌>>=◌, Fault, Budget, Read, Scalar, scalar_of, one_less}
use Rattle.mmdb_data.specs.Reading.{byte_from, bytes_from, head_from, pointer_from}
use Rattle.mmdb_data.specs.Reading.{scalar_bytes_from, scalar_value_from, scalar_from}
use Rattle.mmdb_data.specs.Reading.{content_bytes_from, text_from, byte_string_from, bool_from}
use Rattle.mmdb_data.specs.Reading.{leaf_from, content_from, plain_from, target_from, value_from}
use Rattle.mmdb_data.specs.Reading.{is_pointer}
use Rattle.mmdb_data.proofs.Bounds.{bind_ok, chosen, passed, ok_is, kept_if}

abbrev IsText : ValueTree → Type 0
IsText value = (content : List ℕ) × (value ≡ text content) × IsUtf8 content

-- what was found is a text
abbrev FindsText : ValueTree × ℕ × Budget → Type 0
FindsText found = IsText found.0

no_bytes : (section : List ℕ) (at size offset : ℕ) (left : Budget) (found : List ℕ × Budget)
    → byte_string_from section true at size offset left ≡ Ok found → ⊥
unfolding byte_string_from
no_bytes section at size offset left found e =
    let b = bind_ok (content_bytes_from section at size offset left) _ found e in
    absurd (let never = b.2 in cc)

no_bool : (at size : ℕ) (found : Bool) → bool_from true at size ≡ Ok found → ⊥
unfolding bool_from
no_bool at size found e = absurd (let never = passed (ltb 1 size) _ _ found e in cc)

no_content : (section : List ℕ) (at least greatest size offset : ℕ) (found : List ℕ)
    → scalar_bytes_from section true at least greatest size offset ≡ Ok found → ⊥
unfolding scalar_bytes_from
no_content section at least greatest size offset found e =
    let rest : Result (List ℕ) Fault =
    bytes_from section offset size (at, Truncated) >>= λ content. Err (at, Key) in
    let p : rest ≡ Ok found =
    passed (nat_lt size least || nat_lt greatest size) (at, Size) rest found e in
    let b =
    bind_ok (bytes_from section offset size (at, Truncated)) (λ content. Err (at, Key)) found
    p in
    absurd (let never = b.2 in cc)

no_scalar : (section : List ℕ) (at : ℕ) (scalar : Option Scalar) (size offset : ℕ)
    (found : ValueTree)
    → scalar_value_from section true at scalar size offset ≡ Ok found → ⊥
no_scalar section at None size offset found e = absurd cc
no_scalar section at (Some scalar) size offset found e =
    let a = bind_ok (scalar_bytes_from section true at scalar.least scalar.greatest size offset)
    (λ content. Ok (scalar.value content)) found e in
    no_content section at scalar.least scalar.greatest size offset a.0 a.1

leaf_is_text : (section : List ℕ) (at kind size offset : ℕ) (left : Budget)
    (found : ValueTree × ℕ × Budget) → leaf_from section true at kind size offset left ≡ Ok found
    → FindsText found
unfolding leaf_from scalar_from text_from
leaf_is_text section at kind size offset left found e =
    elim (chosen (eqb kind 2) _ _ (Ok found) e) [
      | inl a ↦ let b = bind_ok (text_from section at size offset left)
          (λ x. Ok (text x.0, offset + size, x.1)) found a.1 in
          let c = bind_ok (content_bytes_from section at size offset left) _ b.0 b.1 in
          let d = kept_if (is_utf8 c.0.0) (at, Utf8) (Ok c.0) b.0 c.2 in
          let same = ok_is c.0 b.0 d.1 in
          let utf8 : IsUtf8 b.0.0 =
          subst (λ (x : List ℕ × Budget). IsUtf8 x.0) same (IsUtf8-from_is_utf8 c.0.0 d.0) in
          subst FindsText (ok_is (text b.0.0, offset + size, b.0.1) found b.2) (b.0.0, refl, utf8)
      | inr a ↦ elim (chosen (eqb kind 4) _ _ (Ok found) a.1) [
        | inl b ↦ let c = bind_ok (byte_string_from section true at size offset left)
            (λ x. Ok (bytes x.0, offset + size, x.1)) found b.1 in
            absurd (no_bytes section at size offset left c.0 c.1)
        | inr b ↦ elim (chosen (eqb kind 14) _ _ (Ok found) b.1) [
          | inl c ↦ let d = bind_ok (bool_from true at size) (λ v. Ok (bool v, offset, left)) found
              c.1 in
              absurd (no_bool at size d.0 d.1)
          | inr c ↦ let d = bind_ok (scalar_value_from section true at (scalar_of kind) size offset)
              (λ v. Ok (v, offset + size, left)) found c.1 in
              absurd (no_scalar section at (scalar_of kind) size offset d.0 d.1)
        ]
      ]
    ]

content_is_text : (read : Read) (section : List ℕ) (at kind size offset : ℕ) (left : Budget)
    (found : ValueTree × ℕ × Budget)
    → content_from read section true at kind size offset left ≡ Ok found → FindsText found
unfolding content_from
content_is_text read section at kind size offset left found e =
    elim (chosen (eqb kind 7) _ _ (Ok found) e) [
      | inl a ↦ absurd (let never = a.1 in cc)
      | inr a ↦ elim (chosen (eqb kind 11) _ _ (Ok found) a.1) [
        | inl c ↦ absurd (let never = c.1 in cc)
        | inr c ↦ leaf_is_text section at kind size offset left found c.1
      ]
    ]

plain_is_text : (read : Read) (section : List ℕ) (at : ℕ) (left : Budget)
    (found : ValueTree × ℕ × Budget) → plain_from read section true at left ≡ Ok found
    → FindsText found
unfolding plain_from
plain_is_text read section at left found e =
    let b = bind_ok (head_from section at)
    (λ head. content_from read section true at head.0 head.1 head.2 left) found e in
    content_is_text read section at b.0.0 b.0.1 b.0.2 left found b.2

target_is_text : (read : Read) (section : List ℕ) (at control : ℕ) (left : Budget)
    (found : ValueTree × ℕ × Budget) → target_from read section true at control left ≡ Ok found
    → FindsText found
unfolding target_from
target_is_text read section at control left found e =
    let a = bind_ok (pointer_from section at control) _ found e in
    let b = bind_ok (byte_from section a.0.0 (at, OutOfSection)) _ found a.2 in
    let p = passed (is_pointer b.0) (a.0.0, PointerToPointer) _ found b.2 in
    let c = bind_ok (plain_from read section true a.0.0 left) (λ x. Ok (x.0, a.0.1, x.2)) found p in
    subst FindsText (ok_is (c.0.0, a.0.1, c.0.2) found c.2)
    (plain_is_text read section a.0.0 left c.0 c.1)

pub keys_are_texts : KeysAreTexts
unfolding value_from
keys_are_texts section zero at left found e = absurd cc
keys_are_texts section (suc levels) at left found e =
    let read = value_from section levels in
    let a = bind_ok (one_less left (at, Many)) _ found e in
    let b = bind_ok (byte_from section at (at, Truncated)) _ found a.2 in
    elim (chosen (is_pointer b.0) _ _ (Ok found) b.2) [
      | inl c ↦ target_is_text read section at b.0 a.0 found c.1
      | inr c ↦ plain_is_text read section at a.0 found c.1
    ]
