-- What a line says, by its fields.
use Rattle.std.proofs.Common.{◌≡◌, ℕ, Bool, true, false, cond, List, ◌∷◌, ◌&&◌, ◌||◌, ap, refl}
use Rattle.std.proofs.Common.{sym, ◌∙◌}
use Rattle.std.specs.Prelude.{codes}
use Rattle.geo_terms.specs.PlaceForm.{same_text}
use Rattle.geo_terms.specs.declared.note.Rule.TheVariants.{S01}
use Rattle.nro_stats.specs.declared.outcome.LineOutcome.TheVariants.{Silent, Broken}
use Rattle.nro_stats.specs.declared.record.Record.{Record}
use Rattle.nro_stats.specs.Fields.{IsRecord, IsShort, fields, is_skipped, is_summary_line}
use Rattle.nro_stats.specs.Fields.{is_version, is_version_line}
use Rattle.nro_stats.specs.Outcomes.{fields_outcome, judged, outcome, record_outcome}

pub skipped_says : (line : List ℕ) → is_skipped line ≡ true → Silent ≡ outcome line
unfolding outcome
skipped_says line is = sym (ap (λ t. cond t Silent (fields_outcome (fields line))) is)

says_fields : (line : List ℕ) → is_skipped line ≡ false
    → outcome line ≡ fields_outcome (fields line)
unfolding outcome
says_fields line is = ap (λ t. cond t Silent (fields_outcome (fields line))) is

-- a version line or a summary line, by the fields of a record
abbrev pub heads : Record → Bool
heads r =
    is_version r.registry.now
    || (same_text r.country.now (codes "*") && same_text r.date.now (codes "summary"))

heads_fields : (fs : List (List ℕ)) (r : Record) → IsRecord fs r
    → heads r ≡ (is_version_line fs || is_summary_line fs)
heads_fields (a ∷ b ∷ c ∷ d ∷ e ∷ f ∷ g ∷ more) r is =
    λ i. is_version (is.0 i)
    || (same_text (is.1 i) (codes "*") && same_text (is.5 i) (codes "summary"))
heads_fields _ r is = absurd is

record_says : (fs : List (List ℕ)) (r : Record) → IsRecord fs r
    → record_outcome fs ≡ judged r.country.now r.kind.now r.start.now r.value.now r.status.now
record_says (a ∷ b ∷ c ∷ d ∷ e ∷ f ∷ g ∷ more) r is =
    sym (λ i. judged (is.1 i) (is.2 i) (is.3 i) (is.4 i) (is.6 i))
record_says _ r is = absurd is

short_says : (fs : List (List ℕ)) → IsShort fs → record_outcome fs ≡ Broken S01
short_says (a ∷ b ∷ c ∷ d ∷ e ∷ f ∷ g ∷ more) s = absurd s
short_says _ s = refl

-- a line that is not passed over
module _ (line : List ℕ) (read : is_skipped line ≡ false) where
  heading : (b : Bool) → (is_version_line (fields line) || is_summary_line (fields line)) ≡ b
      → outcome line ≡ cond b Silent (record_outcome (fields line))
  heading b is =
      says_fields line read ∙ ap (λ t. cond t Silent (record_outcome (fields line))) is

  pub heading_says : (is_version_line (fields line) || is_summary_line (fields line)) ≡ true
      → Silent ≡ outcome line
  heading_says is = sym (heading true is)

  pub no_record_says : IsShort (fields line)
      → (is_version_line (fields line) || is_summary_line (fields line)) ≡ false
      → Broken S01 ≡ outcome line
  no_record_says short is = sym (heading false is ∙ short_says (fields line) short)

  pub heading_record_says : (r : Record) → IsRecord (fields line) r → heads r ≡ true
      → Silent ≡ outcome line
  heading_record_says r of is = heading_says (sym (heads_fields (fields line) r of) ∙ is)

  pub record_line_says : (r : Record) → IsRecord (fields line) r → heads r ≡ false
      → judged r.country.now r.kind.now r.start.now r.value.now r.status.now ≡ outcome line
  record_line_says r of is =
      sym (heading false (sym (heads_fields (fields line) r of) ∙ is)
      ∙ record_says (fields line) r of)
