-- The scan of a text gives the only list of fields that joins to it.
use Rattle.std.proofs.Common.{inl, inr, ◌≡◌, ℕ, Bool, true, false, ◌&&◌, ◌==◌, List, [], ◌∷◌, ◌++◌}
use Rattle.std.proofs.Common.{Some, refl, sym, ap, ◌∙◌, ne_eqb}
use Rattle.std.specs.Prelude.{option_map}
use Rattle.std.specs.List.{list_all}
use Rattle.std.proofs.lemmas.Bool.{and_parts, cases_eq}
use Rattle.std.proofs.lemmas.List.{append_assoc, append-nil}
use Rattle.csv_lines.specs.FieldsLaw.{FieldsAreUnique}
use Rattle.csv_lines.specs.Fields.{Field, Plain, Quoted, doubled, is_field, is_plain, joined, scan}
use Rattle.csv_lines.specs.Fields.{with_byte, with_plain, with_quoted, written}
use Rattle.csv_lines.specs.declared.scan.Spot.{Spot}
use Rattle.csv_lines.specs.declared.scan.Spot.TheVariants.{Start, Inside, Within, Closed}
use Rattle.csv_lines.proofs.CsvLemmas.{map_some}

-- what stands behind the first of fields
abbrev tail_of : List Field → List ℕ
tail_of [] = []
tail_of (g ∷ gs) = 44 ∷ joined (g ∷ gs)

joined_is : (f : Field) (more : List Field) → joined (f ∷ more) ≡ written f ++ tail_of more
joined_is f [] = sym (append-nil (written f))
joined_is f (g ∷ gs) = refl

quoted_joins : (value : List ℕ) (more : List Field)
    → written (Quoted value) ++ tail_of more ≡ 34 ∷ (doubled value ++ (34 ∷ tail_of more))
quoted_joins value more = ap (λ t. 34 ∷ t) (append_assoc (doubled value) (34 ∷ []) (tail_of more))

apart_from : (b : ℕ) → is_plain b ≡ true → ((b == 34) ≡ false) × ((b == 44) ≡ false)
apart_from b e = (
  ne_eqb b 34 (λ (h : b ≡ 34). let f = rw h at e in cc),
  ne_eqb b 44 (λ (h : b ≡ 44). let f = rw h at e in cc),
)

-- ---- fields that are joined are found

module _ (more : List Field) (inside_tail : scan Inside (tail_of more) ≡ Some (Plain [] ∷ more))
    (start_tail : scan Start (tail_of more) ≡ Some (Plain [] ∷ more))
    (closed_tail : scan Closed (tail_of more) ≡ Some (Quoted [] ∷ more)) where
  inside_plain : (x : List ℕ) → list_all is_plain x ≡ true
      → scan Inside (x ++ tail_of more) ≡ Some (Plain x ∷ more)
  unfolding scan
  inside_plain [] e = inside_tail
  inside_plain (b ∷ bs) e =
      let (one, rest) = and_parts (is_plain b) (list_all is_plain bs) e in
      let (quote, comma) = apart_from b one in
      rw (quote, comma) (ap (option_map (with_byte b)) (inside_plain bs rest))

  start_plain : (x : List ℕ) → list_all is_plain x ≡ true
      → scan Start (x ++ tail_of more) ≡ Some (Plain x ∷ more)
  unfolding scan
  start_plain [] e = start_tail
  start_plain (b ∷ bs) e =
      let (one, rest) = and_parts (is_plain b) (list_all is_plain bs) e in
      let (quote, comma) = apart_from b one in
      rw (quote, comma) (ap (option_map (with_byte b)) (inside_plain bs rest))

  within_quoted : (x : List ℕ)
      → scan Within (doubled x ++ (34 ∷ tail_of more)) ≡ Some (Quoted x ∷ more)
  unfolding scan
  within_quoted [] = closed_tail
  within_quoted (b ∷ bs) =
      elim (cases_eq b 34) [
        | inl q ↦ rw q (ap (option_map (with_byte 34)) (within_quoted bs))
        | inr q ↦ let apart = ne_eqb b 34 q in
            rw apart (rw apart (ap (option_map (with_byte b)) (within_quoted bs)))
      ]

  first_found : (f : Field) → is_field f ≡ true → scan Start (joined (f ∷ more)) ≡ Some (f ∷ more)
  unfolding scan
  first_found (Plain x) e = ap (scan Start) (joined_is (Plain x) more) ∙ start_plain x e
  first_found (Quoted x) e =
      ap (scan Start) (joined_is (Quoted x) more ∙ quoted_joins x more) ∙ within_quoted x

found : (f : Field) (more : List Field) → list_all is_field (f ∷ more) ≡ true
    → scan Start (joined (f ∷ more)) ≡ Some (f ∷ more)
unfolding scan
found f [] e = first_found [] refl refl refl f (and_parts (is_field f) true e).0
found f (g ∷ gs) e =
    let (one, rest) = and_parts (is_field f) (list_all is_field (g ∷ gs)) e in
    let later = found g gs rest in
    first_found (g ∷ gs) (ap (option_map with_plain) later) (ap (option_map with_plain) later)
    (ap (option_map with_quoted) later) f one

-- ---- fields that are found join to the text

record IsStart (text : List ℕ) (fs : List Field) : Type 0 where
  first : Field
  more : List Field
  is : fs ≡ first ∷ more
  joins : written first ++ tail_of more ≡ text
  fields : list_all is_field (first ∷ more) ≡ true

record IsInside (text : List ℕ) (fs : List Field) : Type 0 where
  value : List ℕ
  more : List Field
  is : fs ≡ Plain value ∷ more
  joins : value ++ tail_of more ≡ text
  plain : list_all is_plain value ≡ true
  fields : list_all is_field more ≡ true

record IsWithin (text : List ℕ) (fs : List Field) : Type 0 where
  value : List ℕ
  more : List Field
  is : fs ≡ Quoted value ∷ more
  joins : doubled value ++ (34 ∷ tail_of more) ≡ text
  fields : list_all is_field more ≡ true

abbrev IsScanned : Spot → List ℕ → List Field → Type 0
IsScanned Start text fs = IsStart text fs
IsScanned Inside text fs = IsInside text fs
IsScanned Within text fs = IsWithin text fs
IsScanned Closed text fs = IsWithin (34 ∷ text) fs

tail_is : (text : List ℕ) (fs : List Field) → IsStart text fs → tail_of fs ≡ 44 ∷ text
tail_is text fs s = ap tail_of s.is ∙ ap (λ t. 44 ∷ t) (joined_is s.first s.more ∙ s.joins)

all_of : (text : List ℕ) (fs : List Field) → IsStart text fs → list_all is_field fs ≡ true
all_of text fs s = ap (list_all is_field) s.is ∙ s.fields

both_true : (a b : Bool) → a ≡ true → b ≡ true → (a && b) ≡ true
both_true a b e f = rw (e, f) refl

plain_byte : (b : ℕ) → (b ≡ 34 → ⊥) → (b ≡ 44 → ⊥) → is_plain b ≡ true
plain_byte b q c = rw (ne_eqb b 34 q, ne_eqb b 44 c) refl

scanned : (s : Spot) (text : List ℕ) (fs : List Field) → scan s text ≡ Some fs → IsScanned s text fs
unfolding scan
scanned Start [] fs e = record { first = Plain []; more = []; is = cc; joins = refl; fields = refl }
scanned Inside [] fs e =
    record { value = []; more = []; is = cc; joins = refl; plain = refl; fields = refl }
scanned Within [] fs e = absurd cc
scanned Closed [] fs e = record { value = []; more = []; is = cc; joins = refl; fields = refl }
scanned Start (b ∷ bs) fs e =
    elim (cases_eq b 34) [
      | inl q ↦
          let w = scanned Within bs fs (rw q at e) in
          record {
            first = Quoted w.value;
            more = w.more;
            is = w.is;
            joins =
                quoted_joins w.value w.more ∙ ap (λ t. 34 ∷ t) w.joins ∙ ap (λ t. t ∷ bs) (sym q);
            fields = w.fields;
          }
      | inr q ↦ elim (cases_eq b 44) [
        | inl c ↦
            let (found, was, made) = map_some with_plain (scan Start bs) fs (rw c at e) in
            let later = scanned Start bs found was in
            record {
              first = Plain [];
              more = found;
              is = sym made;
              joins = tail_is bs found later ∙ ap (λ t. t ∷ bs) (sym c);
              fields = all_of bs found later;
            }
        | inr c ↦
            let (found, was, made) =
            map_some (with_byte b) (scan Inside bs) fs (rw (ne_eqb b 34 q, ne_eqb b 44 c) at e) in
            let later = scanned Inside bs found was in
            record {
              first = Plain (b ∷ later.value);
              more = later.more;
              is = sym made ∙ ap (with_byte b) later.is;
              joins = ap (λ t. b ∷ t) later.joins;
              fields = both_true _ _ (both_true _ _ (plain_byte b q c) later.plain) later.fields;
            }
      ]
    ]
scanned Inside (b ∷ bs) fs e =
    elim (cases_eq b 34) [
      | inl q ↦ absurd (let f = rw q at e in cc)
      | inr q ↦ elim (cases_eq b 44) [
        | inl c ↦
            let (found, was, made) = map_some with_plain (scan Start bs) fs (rw c at e) in
            let later = scanned Start bs found was in
            record {
              value = [];
              more = found;
              is = sym made;
              joins = tail_is bs found later ∙ ap (λ t. t ∷ bs) (sym c);
              plain = refl;
              fields = all_of bs found later;
            }
        | inr c ↦
            let (found, was, made) =
            map_some (with_byte b) (scan Inside bs) fs (rw (ne_eqb b 34 q, ne_eqb b 44 c) at e) in
            let later = scanned Inside bs found was in
            record {
              value = b ∷ later.value;
              more = later.more;
              is = sym made ∙ ap (with_byte b) later.is;
              joins = ap (λ t. b ∷ t) later.joins;
              plain = both_true _ _ (plain_byte b q c) later.plain;
              fields = later.fields;
            }
      ]
    ]
scanned Within (b ∷ bs) fs e =
    elim (cases_eq b 34) [
      | inl q ↦
          let w = scanned Closed bs fs (rw q at e) in
          record {
            value = w.value;
            more = w.more;
            is = w.is;
            joins = w.joins ∙ ap (λ t. t ∷ bs) (sym q);
            fields = w.fields;
          }
      | inr q ↦
          let apart = ne_eqb b 34 q in
          let (found, was, made) = map_some (with_byte b) (scan Within bs) fs (rw apart at e) in
          let later = scanned Within bs found was in
          record {
            value = b ∷ later.value;
            more = later.more;
            is = sym made ∙ ap (with_byte b) later.is;
            joins = rw apart (ap (λ t. b ∷ t) later.joins);
            fields = later.fields;
          }
    ]
scanned Closed (b ∷ bs) fs e =
    elim (cases_eq b 34) [
      | inl q ↦
          let (found, was, made) = map_some (with_byte 34) (scan Within bs) fs (rw q at e) in
          let later = scanned Within bs found was in
          record {
            value = 34 ∷ later.value;
            more = later.more;
            is = sym made ∙ ap (with_byte 34) later.is;
            joins = rw q (ap (λ t. 34 ∷ 34 ∷ t) later.joins);
            fields = later.fields;
          }
      | inr q ↦ elim (cases_eq b 44) [
        | inl c ↦
            let (found, was, made) = map_some with_quoted (scan Start bs) fs (rw c at e) in
            let later = scanned Start bs found was in
            record {
              value = [];
              more = found;
              is = sym made;
              joins = ap (λ t. 34 ∷ t) (tail_is bs found later ∙ ap (λ t. t ∷ bs) (sym c));
              fields = all_of bs found later;
            }
        | inr c ↦ absurd (let f = rw (ne_eqb b 34 q, ne_eqb b 44 c) at e in cc)
      ]
    ]

same_list : (f g : Field) (more later : List Field) → f ∷ more ≡ g ∷ later
    → (f ≡ g) × (more ≡ later)
same_list f g more later e = (cc, cc)

pub fields_are_unique : FieldsAreUnique
fields_are_unique text first more = (
  λ are. sym (ap (scan Start) are.joined) ∙ found first more are.fields,
  λ e.
      let s = scanned Start text (first ∷ more) e in
      record {
        joined = ap joined s.is ∙ joined_is s.first s.more ∙ s.joins;
        fields = ap (list_all is_field) s.is ∙ s.fields;
      },
)
