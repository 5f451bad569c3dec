-- What a line says is what its fields say.
use Rattle.std.proofs.Common.{sym, ◌∙◌}
use Rattle.nro_stats.proofs.LineLemmas.{heading_record_says, heading_says, no_record_says}
use Rattle.nro_stats.proofs.LineLemmas.{skipped_says}
use Rattle.nro_stats.proofs.outcome.read_line.Goals as goal

pub returns-then-is_skipped-clause-outcome : goal.returns-then-is_skipped-clause-outcome
returns-then-is_skipped-clause-outcome c =
    skipped_says c.args.line.now (sym c.is_skipped.ensures ∙ c.if-is_skipped.true)

pub returns-in-Some-clause-outcome : goal.returns-in-Some-clause-outcome
returns-in-Some-clause-outcome c =
    heading_record_says c.args.line.now (sym c.is_skipped.ensures ∙ c.if-is_skipped.false)
    c.in-Some.found c.in-Some.ensures (sym c.is_heading.ensures ∙ c.if-is_heading.true)

pub returns-in-None-clause-outcome : goal.returns-in-None-clause-outcome
returns-in-None-clause-outcome c =
    heading_says c.args.line.now (sym c.is_skipped.ensures ∙ c.if-is_skipped.false)
    (sym c.is_heading_line.ensures ∙ c.if-is_heading_line.true)

pub returns-in-None-2-clause-outcome : goal.returns-in-None-2-clause-outcome
returns-in-None-2-clause-outcome c =
    no_record_says c.args.line.now (sym c.is_skipped.ensures ∙ c.if-is_skipped.false)
    c.in-None.ensures (sym c.is_heading_line.ensures ∙ c.if-is_heading_line.false)
