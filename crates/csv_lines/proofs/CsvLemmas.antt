-- `csv`'s machine reads a text that scans as the values of its fields.
use Rattle.std.proofs.Common.{◌≡◌, ℕ, Bool, true, false, cond, ◌==◌, ◌⊎◌, ◌≢◌, inl, inr, List, []}
use Rattle.std.proofs.Common.{◌∷◌, ◌++◌, map, Option, Some, None, refl, ap, ◌∙◌, ne_eqb}
use Rattle.std.specs.Prelude.{option_map}
use Rattle.std.specs.List.{list_all}
use Rattle.std.proofs.lemmas.Bool.{and_parts, cases_eq}
use Rattle.std.proofs.lemmas.List.{append_assoc, append-nil}
use Rattle.csv.specs.Machine.{next_record, Read}
use Rattle.csv.specs.Reading.{default_config, strip_bom}
use Rattle.csv.specs.declared.parser.State.{State}
use Rattle.csv.specs.declared.parser.State.TheVariants as st
use Rattle.csv_lines.specs.Fields.{Field, Plain, Quoted, fields, is_inner, scan, value, values_of}
use Rattle.csv_lines.specs.Fields.{with_byte, with_plain, with_quoted}
use Rattle.csv_lines.specs.declared.scan.Spot.{Spot}
use Rattle.csv_lines.specs.declared.scan.Spot.TheVariants.{Start, Inside, Within, Closed}

-- the tests of a byte that is neither a quote nor a comma nor a line end
record IsOther (b : ℕ) : Type 0 where
  quote : (b == 34) ≡ false
  comma : (b == 44) ≡ false
  feed : (b == 10) ≡ false
  carriage : (b == 13) ≡ false

kind : (b : ℕ) → is_inner b ≡ true → (b ≡ 34) ⊎ ((b ≡ 44) ⊎ IsOther b)
kind b e =
    elim (cases_eq b 34) [
      | inl q ↦ inl q
      | inr q ↦ elim (cases_eq b 44) [
        | inl c ↦ inr (inl c)
        | inr c ↦ inr (inr (record {
          quote = ne_eqb b 34 q;
          comma = ne_eqb b 44 c;
          feed = ne_eqb b 10 (λ (h : b ≡ 10). let f = rw h at e in cc);
          carriage = ne_eqb b 13 (λ (h : b ≡ 13). let f = rw h at e in cc);
        }))
      ]
    ]

-- what `csv` stands at
state_of : Spot → State
state_of Start = st.StartField
state_of Inside = st.InField
state_of Within = st.InQuoted
state_of Closed = st.AfterQuote

-- the values, with bytes that were read before in front of the first
unfoldable pub grown : List ℕ → List (List ℕ) → List (List ℕ)
grown part [] = []
grown part (v ∷ vs) = (part ++ v) ∷ vs

pub grown_byte : (part : List ℕ) (b : ℕ) (fs : List Field)
    → grown (part ++ (b ∷ [])) (map value fs) ≡ grown part (map value (with_byte b fs))
unfolding grown
grown_byte part b [] = refl
grown_byte part b (Plain x ∷ more) = rw append_assoc refl
grown_byte part b (Quoted x ∷ more) = rw append_assoc refl

pub grown_none : (vs : List (List ℕ)) → grown [] vs ≡ vs
unfolding grown
grown_none [] = refl
grown_none (v ∷ vs) = refl

pub map_some : {A B : Type 0} (f : A → B) (o : Option A) (y : B) → option_map f o ≡ Some y
    → (x : A) × (o ≡ Some x) × (f x ≡ y)
map_some f None y e = absurd cc
map_some f (Some x) y e = (x, refl, cc)

-- the machine's answer
abbrev given : List (List ℕ) → List ℕ → Option Read
given vs tail = Some (vs, st.StartRecord, tail)

abbrev answer : List (List ℕ) → List ℕ → List Field → List ℕ → Option Read
answer done part fs tail = given (done ++ grown part (map value fs)) tail

-- one more field, which ends here
closes : (done : List (List ℕ)) (part : List ℕ) (fs : List Field) (tail : List ℕ) (f : Field)
    → value f ≡ []
    → answer (done ++ (part ∷ [])) [] fs tail ≡ answer done part (f ∷ fs) tail
unfolding grown
closes done part fs tail f e = rw (grown_none (map value fs), append_assoc, e, append-nil part) refl

reads : (s : Spot) (done : List (List ℕ)) (part text tail : List ℕ) (fs : List Field)
    → list_all is_inner text ≡ true → scan s text ≡ Some fs
    → next_record default_config (state_of s) done part (text ++ (10 ∷ tail))
    ≡ answer done part fs tail
unfolding next_record scan state_of grown
reads Start done part [] tail fs i e =
    let is : (Plain [] ∷ []) ≡ fs = cc in
    rw (← is) (rw (append-nil part) refl)
reads Inside done part [] tail fs i e =
    let is : (Plain [] ∷ []) ≡ fs = cc in
    rw (← is) (rw (append-nil part) refl)
reads Within done part [] tail fs i e = absurd cc
reads Closed done part [] tail fs i e =
    let is : (Quoted [] ∷ []) ≡ fs = cc in
    rw (← is) (rw (append-nil part) refl)
reads Start done part (b ∷ bs) tail fs i e =
    let (one, all) = and_parts (is_inner b) (list_all is_inner bs) i in
    elim (kind b one) [
      | inl q ↦ rw q (reads Within done part bs tail fs all (rw q at e))
      | inr k ↦ elim k [
        | inl c ↦
            let (more, is, made) = map_some with_plain (scan Start bs) fs (rw c at e) in
            rw c (reads Start (done ++ (part ∷ [])) [] bs tail more all is ∙ closes done part more
            tail (Plain []) refl ∙ ap (λ (x : List Field). answer done part x tail) made)
        | inr o ↦
            let (more, is, made) =
            map_some (with_byte b) (scan Inside bs) fs (rw (o.quote, o.comma) at e) in
            rw (o.quote, o.comma, o.carriage, o.feed) (
            reads Inside done (part ++ (b ∷ [])) bs tail more all is
            ∙ ap (λ (x : List (List ℕ)). given (done ++ x) tail) (grown_byte part b more)
            ∙ ap (λ (x : List Field). answer done part x tail) made)
      ]
    ]
reads Inside done part (b ∷ bs) tail fs i e =
    let (one, all) = and_parts (is_inner b) (list_all is_inner bs) i in
    elim (kind b one) [
      | inl q ↦ absurd (let f = rw q at e in cc)
      | inr k ↦ elim k [
        | inl c ↦
            let (more, is, made) = map_some with_plain (scan Start bs) fs (rw c at e) in
            rw c (reads Start (done ++ (part ∷ [])) [] bs tail more all is ∙ closes done part more
            tail (Plain []) refl ∙ ap (λ (x : List Field). answer done part x tail) made)
        | inr o ↦
            let (more, is, made) =
            map_some (with_byte b) (scan Inside bs) fs (rw (o.quote, o.comma) at e) in
            rw (o.comma, o.carriage, o.feed) (
            reads Inside done (part ++ (b ∷ [])) bs tail more all is
            ∙ ap (λ (x : List (List ℕ)). given (done ++ x) tail) (grown_byte part b more)
            ∙ ap (λ (x : List Field). answer done part x tail) made)
      ]
    ]
reads Within done part (b ∷ bs) tail fs i e =
    let (one, all) = and_parts (is_inner b) (list_all is_inner bs) i in
    elim (cases_eq b 34) [
      | inl q ↦ rw q (reads Closed done part bs tail fs all (rw q at e))
      | inr q ↦
          let apart = ne_eqb b 34 q in
          let (more, is, made) = map_some (with_byte b) (scan Within bs) fs (rw apart at e) in
          rw apart (
          reads Within done (part ++ (b ∷ [])) bs tail more all is
          ∙ ap (λ (x : List (List ℕ)). given (done ++ x) tail) (grown_byte part b more)
          ∙ ap (λ (x : List Field). answer done part x tail) made)
    ]
reads Closed done part (b ∷ bs) tail fs i e =
    let (one, all) = and_parts (is_inner b) (list_all is_inner bs) i in
    elim (kind b one) [
      | inl q ↦
          let (more, is, made) = map_some (with_byte 34) (scan Within bs) fs (rw q at e) in
          rw q (
          reads Within done (part ++ (34 ∷ [])) bs tail more all is
          ∙ ap (λ (x : List (List ℕ)). given (done ++ x) tail) (grown_byte part 34 more)
          ∙ ap (λ (x : List Field). answer done part x tail) made)
      | inr k ↦ elim k [
        | inl c ↦
            let (more, is, made) = map_some with_quoted (scan Start bs) fs (rw c at e) in
            rw c (reads Start (done ++ (part ∷ [])) [] bs tail more all is ∙ closes done part more
            tail (Quoted []) refl ∙ ap (λ (x : List Field). answer done part x tail) made)
        | inr o ↦ absurd (let f = rw (o.quote, o.comma) at e in cc)
      ]
    ]

-- the first byte of a record that is no line end is read as that of a field
first_byte : (b : ℕ) (bs : List ℕ) → is_inner b ≡ true → next_record default_config st.StartRecord
    [] [] (b ∷ bs) ≡ next_record default_config st.StartField [] [] (b ∷ bs)
unfolding next_record
first_byte b bs e =
    elim (kind b e) [
      | inl q ↦ rw q refl
      | inr k ↦ elim k [
        | inl c ↦ rw c refl
        | inr o ↦ rw (o.quote, o.comma, o.carriage, o.feed) refl
      ]
    ]

-- a text that has bytes and the values of fields is read as these values,
-- whatever follows its line feed
pub record_of : (text tail : List ℕ) (vs : List (List ℕ)) → text ≢ [] → values_of text ≡ Some vs
    → next_record default_config st.StartRecord [] [] (text ++ (10 ∷ tail))
    ≡ Some (vs, st.StartRecord, tail)
unfolding state_of
record_of [] tail vs some e = absurd (some refl)
record_of (b ∷ bs) tail vs some e = by (list_all is_inner (b ∷ bs)) refl e
  where
    by : (x : Bool) → list_all is_inner (b ∷ bs) ≡ x
        → cond x (option_map (map value) (fields (b ∷ bs))) None ≡ Some vs
        → next_record default_config st.StartRecord [] [] ((b ∷ bs) ++ (10 ∷ tail))
        ≡ Some (vs, st.StartRecord, tail)
    by false i h = absurd cc
    by true i h =
        let (fs, is, made) = map_some (map value) (fields (b ∷ bs)) vs h in
        let (one, all) = and_parts (is_inner b) (list_all is_inner bs) i in
        first_byte b (bs ++ (10 ∷ tail)) one
        ∙ reads Start [] [] (b ∷ bs) tail fs i is
        ∙ ap (λ (x : List (List ℕ)). given x tail) (grown_none (map value fs) ∙ made)

-- a line feed before the first record keeps a byte order mark from being taken off
pub strip_feed : (bs : List ℕ) → strip_bom (10 ∷ bs) ≡ 10 ∷ bs
unfolding strip_bom
strip_feed [] = refl
strip_feed (a ∷ []) = refl
strip_feed (a ∷ b ∷ bs) = refl

-- and is passed over
pub after_feed : (bs : List ℕ) → next_record default_config st.StartRecord [] [] (10 ∷ bs)
    ≡ next_record default_config st.StartRecord [] [] bs
unfolding next_record
after_feed bs = refl
