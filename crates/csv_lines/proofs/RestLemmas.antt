-- Texts, fields by their indexes, and what a read of a row gives.
use Rattle.std.proofs.Common.{inl, inr, ◌≡◌, ◌≢◌, ℕ, zero, suc, Bool, true, false, not, cond, List}
use Rattle.std.proofs.Common.{[], ◌∷◌, ◌++◌, get_or, Option, Some, None, refl, sym, ap, ◌∙◌}
use Rattle.std.specs.Prelude.{IsUtf8, unwrap_or, is_some, Result, Ok, Err, IfErr, OnOk, IsOkUnless}
use Rattle.geo_terms.specs.declared.place.Said.{Said}
use Rattle.geo_terms.specs.declared.place.PlaceFault.{PlaceFault}
use Rattle.geo_terms.specs.declared.place.PlaceFault.TheVariants.{Memory}
use Rattle.std.specs.Str.{is_utf8}
use Rattle.std.proofs.lemmas.Bool.{cases_Bool}
use Rattle.std.proofs.lemmas.List.{append_assoc}
use Rattle.std.proofs.lemmas.Str.{IsUtf8-from_is_utf8, is_utf8-from_IsUtf8}
use Rattle.csv.specs.Machine.{next_record}
use Rattle.csv.specs.Reading.{ReadRecord, ReadsNext, default_config, pending_of, took_first}
use Rattle.csv.specs.Records.{field_at}
use Rattle.csv.specs.declared.parser.State.{State}
use Rattle.csv.specs.declared.parser.State.TheVariants as st
use Rattle.csv.specs.declared.reader.Reader.{Reader}
use Rattle.geo_terms.specs.PlaceForm.{is_empty}
use Rattle.csv_lines.specs.Fields.{is_unquoted, values_of}
use Rattle.csv_lines.specs.Rests.{Stands, content_of, handed, handed_by, handed_text, rest_of}
use Rattle.csv_lines.specs.Rests.{row_of}
use Rattle.csv_lines.specs.declared.rest.Content.{Content}
use Rattle.csv_lines.specs.declared.rest.Content.TheVariants.{Blank, NotText, NoFields, Fields}
use Rattle.csv_lines.proofs.CsvLemmas.{record_of}

pub text_is : (bs : List ℕ) → IsUtf8 bs → true ≡ is_utf8 bs
text_is bs u = sym (is_utf8-from_IsUtf8 bs u)

pub text_is_not : (bs : List ℕ) → (IsUtf8 bs → ⊥) → false ≡ is_utf8 bs
text_is_not bs n =
    elim (cases_Bool (is_utf8 bs)) [ inl y ↦ absurd (n (IsUtf8-from_is_utf8 bs y)) | inr e ↦ sym e ]

-- the field at an index, or an empty one
pub field_is : (row : List (List ℕ)) (i : ℕ) → unwrap_or (field_at row i) [] ≡ get_or row i []
unfolding field_at
field_is [] i = refl
field_is (f ∷ fs) zero = refl
field_is (f ∷ fs) (suc i) = field_is fs i

-- a rest with fields has bytes and values
fields_by : (rest : List ℕ) (u : Bool) (vs : Option (List (List ℕ)))
    → cond (is_empty rest) Blank (cond (not u) NotText (cond (is_some vs) Fields NoFields)) ≡ Fields
    → (rest ≢ []) × (vs ≡ Some (unwrap_or vs []))
fields_by [] u vs e = absurd cc
fields_by (b ∷ bs) false vs e = absurd cc
fields_by (b ∷ bs) true None e = absurd cc
fields_by (b ∷ bs) true (Some v) e = (λ h. cc, refl)

pub has_row : (rest : List ℕ) → content_of rest ≡ Fields
    → (rest ≢ []) × (values_of rest ≡ Some (row_of rest))
has_row rest e = fields_by rest (is_utf8 rest) (values_of rest) e

module _ (line : List ℕ) where
  pub handed_blank : content_of (rest_of line) ≡ Blank → handed line ≡ []
  unfolding handed
  handed_blank e = ap (λ (c : Content). handed_by c (rest_of line)) e

  pub handed_not_text : content_of (rest_of line) ≡ NotText → handed line ≡ []
  unfolding handed
  handed_not_text e = ap (λ (c : Content). handed_by c (rest_of line)) e

  pub handed_no_fields : content_of (rest_of line) ≡ NoFields → handed line ≡ []
  unfolding handed
  handed_no_fields e = ap (λ (c : Content). handed_by c (rest_of line)) e

  pub handed_fields : (left : List ℕ) → content_of (rest_of line) ≡ Fields
      → handed line ++ left ≡ handed_text (rest_of line) ++ left
  unfolding handed
  handed_fields left e = ap (λ (c : Content). handed_by c (rest_of line) ++ left) e

-- a text with quotes is handed over as a line of its own, and one without is not
pub text_handed : (text left : List ℕ) → is_unquoted text ≡ false
    → handed_text text ++ left ≡ text ++ (10 ∷ left)
text_handed text left e =
    ap (λ (x : Bool). cond x [] (text ++ (10 ∷ [])) ++ left) e ∙ append_assoc text (10 ∷ []) left

pub text_kept : (text left : List ℕ) → is_unquoted text ≡ true → handed_text text ++ left ≡ left
text_kept text left e = ap (λ (x : Bool). cond x [] (text ++ (10 ∷ [])) ++ left) e

-- what the next record of a reader's bytes shows
next_go : (after : Option (List ℕ)) (found : Bool) (f : List (List ℕ)) (s2 : State)
    (bytes tail : List ℕ) (vs : List (List ℕ))
    → next_record default_config st.StartRecord [] [] bytes ≡ Some (vs, st.StartRecord, tail)
    → ReadsNext default_config st.StartRecord (Some bytes) after found f s2
    → (f ≡ vs) × (s2 ≡ st.StartRecord) × (after ≡ Some tail)
next_go None found f s2 bytes tail vs e r = absurd r
next_go (Some ys) found f s2 bytes tail vs e r =
    let shown = rw e at r in
    (shown.1, shown.2, ap (λ (x : List ℕ). Some x) shown.3)

-- a read of a reader that stands before a text with values, which a line feed ends,
-- takes these values
pub read_gives : {R : Type 0} (source : R → Option (List ℕ)) (a b : Reader R) (found : Bool)
    (f : List (List ℕ)) (text left : List ℕ) (vs : List (List ℕ))
    → text ≢ [] → values_of text ≡ Some vs
    → Stands source a (text ++ (10 ∷ left)) → ReadRecord source a b found f → took_first b ≡ true
    → (f ≡ vs) × Stands source b left
read_gives source a b found f text left vs some is stands r first =
    let next = rw (stands.config, stands.state, stands.held) at r.0 in
    let (row, state, rest) = next_go (pending_of (source b.rdr) b) found f b.state stands.bytes left
    vs (stands.reads ∙ record_of text left vs some is) next in (
      row,
      record {
        ready = inl first;
        trim = r.3 ∙ stands.trim;
        config = r.2 ∙ stands.config;
        state = state;
        bytes = left;
        held = rw r.1 rest;
        reads = refl;
      },
    )

abbrev refused_by : PlaceFault → Result Said PlaceFault
refused_by fault = Err fault

-- a fault other than of memory is that of the fields
pub fault_told : (said : Result Said PlaceFault) (fault : PlaceFault) → fault ≢ Memory
    → IfErr said (λ f. refused_by fault ≡ Err f) → OnOk said (IsOkUnless (refused_by fault) Memory)
    → refused_by fault ≡ said
fault_told (Ok s) fault other refused otherwise = absurd (other otherwise)
fault_told (Err f) fault other refused otherwise = refused
