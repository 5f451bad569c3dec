-- The lines are cut where no mark can follow.
use Rattle.std.proofs.Common.{◌∙◌, arith, sym}
use Rattle.line_parts.proofs.WholeLemmas.{none_whole, whole_split}
use Rattle.line_parts.proofs.whole.whole_lines.Goals as goal

pub returns-then-left-lt-MARK-clause-lines : goal.returns-then-left-lt-MARK-clause-lines
returns-then-left-lt-MARK-clause-lines c = λ more. none_whole c.args.text.now more

pub returns-clause-lines : goal.returns-clause-lines
returns-clause-lines c =
    whole_split c.split_behind_last.result.0.now c.split_behind_last.result.1.now c.args.text.now
    c.split_behind_last.ensures.joined c.split_behind_last.ensures.end
    (omega (arith, c.if-left-lt-MARK.false))
    (sym c.has_mark.ensures.exact ∙ c.if-has_mark.false)
