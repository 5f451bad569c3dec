-- The lists are those of the file, which are in form.
use Rattle.std.proofs.Common.{◌∙◌, ap, sym, subst, map, List}
use Rattle.geo_terms.specs.declared.note.LineNote.{LineNote}
use Rattle.geo_terms.specs.declared.statement.Entry.{Entry}
use Rattle.csv_lines.specs.Repeats.{Rises, kept, merged, repeat_faults}
use Rattle.feed_csv.specs.File.{AreClean, accepted, entry_line, entry_range, entry_said}
use Rattle.feed_csv.specs.File.{repeat_rules}
use Rattle.feed_csv.proofs.CleanLemmas.{entries_clean}
use Rattle.feed_csv.proofs.FileLemmas.{all_rise, faults_are, feed_in_form}
use Rattle.feed_csv.proofs.read.feed_of.Goals as goal

pub judge-requires : goal.judge-requires
judge-requires c =
    let (file, said) = c.requires in
    subst (λ (es : List Entry). Rises 0 (map entry_line es)) (sym said.0) (all_rise file)

pub invariant_of-result : goal.invariant_of-result
invariant_of-result c =
    let (file, said) = c.requires in
    let entries = c.of-2.ensures ∙ c.in_ok-judged.ensures.rows ∙ ap (λ (es : List Entry).
    kept entry_line entry_range entry_said es) said.0 in
    let notes =
    c.of-3.ensures ∙ c.in_ok-judged.ensures.faults
    ∙ ap (λ (es : List Entry). merged (repeat_faults entry_line entry_range entry_said repeat_rules
    es) c.args.found.faults.items) said.0
    ∙ ap (λ (fs : List LineNote). merged (repeat_faults entry_line entry_range entry_said
    repeat_rules (accepted file)) fs) said.1
    ∙ faults_are file in
    feed_in_form file c.args.url.now _ _ _ c.in_ok-url.ensures entries notes

pub returns-clause-read : goal.returns-clause-read
returns-clause-read c file said =
    let url = c.in_ok-url.ensures in
    let entries = c.of-2.ensures ∙ c.in_ok-judged.ensures.rows ∙ ap (λ (es : List Entry).
    kept entry_line entry_range entry_said es) said.0 in
    let notes =
    c.of-3.ensures ∙ c.in_ok-judged.ensures.faults
    ∙ ap (λ (es : List Entry). merged (repeat_faults entry_line entry_range entry_said repeat_rules
    es) c.args.found.faults.items) said.0
    ∙ ap (λ (fs : List LineNote). merged (repeat_faults entry_line entry_range entry_said
    repeat_rules (accepted file)) fs) said.1
    ∙ faults_are file in
    λ i. record { url = url i; entries = entries i; notes = notes i }

pub returns-clause-clean : goal.returns-clause-clean
returns-clause-clean c =
    let (file, said) = c.requires in
    let entries = c.of-2.ensures ∙ c.in_ok-judged.ensures.rows ∙ ap (λ (es : List Entry).
    kept entry_line entry_range entry_said es) said.0 in
    subst AreClean (sym entries) (entries_clean file)
