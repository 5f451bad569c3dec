-- The lists are those of the file, which are in form.
use Rattle.std.proofs.Common.{◌∙◌, ap, sym, subst, map, List}
use Rattle.geo_terms.specs.declared.note.LineNote.{LineNote}
use Rattle.geo_terms.specs.declared.statement.Override.{Override}
use Rattle.csv_lines.specs.Repeats.{Rises, kept, merged, repeat_faults}
use Rattle.override_rows.specs.File.{AreClean, accepted, repeat_rules, row_line, row_range}
use Rattle.override_rows.specs.File.{row_said}
use Rattle.override_rows.proofs.CleanLemmas.{rows_clean}
use Rattle.override_rows.proofs.FileLemmas.{all_rise, faults_are, overrides_in_form}
use Rattle.override_rows.proofs.read.read_overrides.Goals as goal

pub judge-requires : goal.judge-requires
judge-requires c =
    subst (λ (rs : List Override). Rises 0 (map row_line rs)) (sym c.in_ok-found.ensures.rows)
    (all_rise c.args.bytes.now)

pub invariant_of-result : goal.invariant_of-result
invariant_of-result c =
    let rows = c.of.ensures ∙ c.in_ok-judged.ensures.rows
    ∙ ap (λ (rs : List Override). kept row_line row_range row_said rs) c.in_ok-found.ensures.rows in
    let notes =
    c.of-2.ensures ∙ c.in_ok-judged.ensures.faults
    ∙ ap (λ (rs : List Override). merged (repeat_faults row_line row_range row_said repeat_rules rs)
    c.in_ok-found.found.faults.items) c.in_ok-found.ensures.rows
    ∙ ap (λ (fs : List LineNote). merged (repeat_faults row_line row_range row_said repeat_rules
    (accepted c.args.bytes.now)) fs) c.in_ok-found.ensures.faults
    ∙ faults_are c.args.bytes.now in
    overrides_in_form c.args.bytes.now _ _ rows notes

pub returns-clause-read : goal.returns-clause-read
returns-clause-read c =
    let rows = c.of.ensures ∙ c.in_ok-judged.ensures.rows
    ∙ ap (λ (rs : List Override). kept row_line row_range row_said rs) c.in_ok-found.ensures.rows in
    let notes =
    c.of-2.ensures ∙ c.in_ok-judged.ensures.faults
    ∙ ap (λ (rs : List Override). merged (repeat_faults row_line row_range row_said repeat_rules rs)
    c.in_ok-found.found.faults.items) c.in_ok-found.ensures.rows
    ∙ ap (λ (fs : List LineNote). merged (repeat_faults row_line row_range row_said repeat_rules
    (accepted c.args.bytes.now)) fs) c.in_ok-found.ensures.faults
    ∙ faults_are c.args.bytes.now in
    λ i. record { rows = rows i; notes = notes i }

pub returns-clause-clean : goal.returns-clause-clean
returns-clause-clean c =
    let rows = c.of.ensures ∙ c.in_ok-judged.ensures.rows
    ∙ ap (λ (rs : List Override). kept row_line row_range row_said rs) c.in_ok-found.ensures.rows in
    subst AreClean (sym rows) (rows_clean c.args.bytes.now)
