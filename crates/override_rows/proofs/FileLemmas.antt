-- The lists of a file keep what `Overrides` promises.
use Rattle.std.proofs.Common.{◌≡◌, ℕ, List, map, Option, Some, None, refl, sym, ◌∙◌}
use Rattle.std.proofs.Common.{subst, arith}
use Rattle.std.specs.List.{enumerate_from}
use Rattle.geo_addr.specs.Lines.{lines_of, without_mark}
use Rattle.geo_terms.specs.SourceForm.{IsOverrides}
use Rattle.geo_terms.specs.declared.note.LineNote.{LineNote}
use Rattle.geo_terms.specs.declared.statement.Override.{Override}
use Rattle.csv_lines.specs.Repeats.{Rises, fate, fault_by, is_kept_by, merged, repeat_faults}
use Rattle.csv_lines.specs.declared.fate.Fate.{Fate}
use Rattle.csv_lines.proofs.OrderLemmas.{acc_rises, either, fault_line}
use Rattle.csv_lines.proofs.OrderLemmas.{filter_map_agree, increasing, kept_apart, merged_is}
use Rattle.csv_lines.proofs.OrderLemmas.{rises_filter, rises_lower}
use Rattle.override_rows.specs.File.{accepted, rows, row_by, row_line, row_of_line, row_range}
use Rattle.override_rows.specs.File.{row_said, fault_alone, fault_among, fault_of, faults}
use Rattle.override_rows.specs.File.{overrides, refused, repeat_rules}
use Rattle.override_rows.specs.Outcomes.{outcome}
use Rattle.override_rows.specs.declared.outcome.LineOutcome.{LineOutcome}
use Rattle.override_rows.specs.declared.outcome.LineOutcome.TheVariants.{Silent, Broken, Accepted}

entry_number : (line : ℕ) (v : LineOutcome) (e : Override) → row_by line v ≡ Some e
    → row_line e ≡ line
entry_number line Silent e h = absurd cc
entry_number line (Broken rule) e h = absurd cc
entry_number line (Accepted range said) e h = cc

fault_number : (line : ℕ) (v : LineOutcome) (f : LineNote) → fault_alone line v ≡ Some f
    → f.line ≡ line
fault_number line Silent f h = absurd cc
fault_number line (Broken rule) f h = cc
fault_number line (Accepted range said) f h = absurd cc

-- a line that has an entry breaks no rule by itself
one_thing : (line : ℕ) (v : LineOutcome) (e : Override) → row_by line v ≡ Some e
    → fault_alone line v ≡ None
one_thing line Silent e h = absurd cc
one_thing line (Broken rule) e h = absurd cc
one_thing line (Accepted range said) e h = refl

module _ (file : List ℕ) where
  abbrev all : List Override
  all = accepted file

  abbrev lines : List (List ℕ)
  lines = lines_of (without_mark file)

  abbrev fate_of : Override → Fate
  fate_of e = fate row_line row_range row_said all e

  abbrev late : Override → Option LineNote
  late e = fault_by repeat_rules (row_line e) (fate_of e)

  acc_line : (p : ℕ × List ℕ) (e : Override) → row_of_line p ≡ Some e → row_line e ≡ p.0
  acc_line p e h = entry_number p.0 (outcome p.1) e h

  bad_line : (p : ℕ × List ℕ) (f : LineNote) → fault_of p ≡ Some f → f.line ≡ p.0
  bad_line p f h = fault_number p.0 (outcome p.1) f h

  late_line : (e : Override) (f : LineNote) → late e ≡ Some f → f.line ≡ row_line e
  late_line e f h = fault_line repeat_rules (row_line e) (fate_of e) f h

  among_is : (line : ℕ) (v : LineOutcome)
      → either row_of_line fault_of row_line acc_line bad_line late
      late_line (row_by line v) (fault_alone line v) ≡ fault_among all line v
  among_is line Silent = refl
  among_is line (Broken rule) = refl
  among_is line (Accepted range said) = refl

  pub faults_are : merged (repeat_faults row_line row_range row_said repeat_rules all)
      (refused file) ≡ faults file
  faults_are =
      merged_is row_of_line fault_of row_line acc_line bad_line late late_line
      (λ p e h. one_thing p.0 (outcome p.1) e h) 1 lines
      ∙ filter_map_agree (λ p. either row_of_line fault_of row_line acc_line bad_line late late_line
      (row_of_line p) (fault_of p)) (λ p. fault_among all p.0 (outcome p.1))
      (λ p. among_is p.0 (outcome p.1)) (enumerate_from 1 lines)

  pub all_rise : Rises 0 (map row_line all)
  all_rise =
      rises_lower 0 1 (map row_line all) (omega arith)
      (acc_rises row_of_line fault_of row_line acc_line bad_line 1 lines)

  among_number : (line : ℕ) (v : LineOutcome) (f : LineNote) → fault_among all line v ≡ Some f
      → f.line ≡ line
  among_number line Silent f h = absurd cc
  among_number line (Broken rule) f h = cc
  among_number line (Accepted range said) f h =
      fault_line repeat_rules line
      (fate_of (record { line = line; range = range; said = said })) f h

  among_line : (p : ℕ × List ℕ) (f : LineNote) → fault_among all p.0 (outcome p.1) ≡ Some f
      → f.line ≡ p.0
  among_line p f h = among_number p.0 (outcome p.1) f h

  faults_rise : Rises 1 (map (λ f. f.line) (faults file))
  faults_rise =
      acc_rises (λ p. fault_among all p.0 (outcome p.1)) fault_of
      (λ f. f.line) among_line bad_line 1 lines

  in_form : IsOverrides (overrides file)
  in_form = record {
    distinct = kept_apart row_line row_range row_said 0 all all_rise;
    ordered =
        increasing 0 (map row_line (rows file))
        (rises_filter row_line (λ x. is_kept_by (fate_of x)) 0 all all_rise);
    notes = increasing 1 (map (λ f. f.line) (faults file)) faults_rise;
  }

  -- the lists that were read are those of the file
  pub overrides_in_form : (rs : List Override) (ns : List LineNote) → rs ≡ rows file
      → ns ≡ faults file → IsOverrides (record { rows = rs; notes = ns })
  overrides_in_form rs ns f g =
      let same : record { rows = rs; notes = ns } ≡ overrides file =
      λ i. record { rows = f i; notes = g i } in
      subst IsOverrides (sym same) in_form
