-- The lines of the text, with higher numbers.
use Rattle.std.proofs.Common.{ℕ, ◌+◌, ◌<◌, ◌^◌, All, List, subst, sym}
use Rattle.line_parts.proofs.PartLemmas.{lines_are, numbers_fit}
use Rattle.line_parts.proofs.part.LinePart.lines.Goals as goal

pub invariant_of-result : goal.invariant_of-result
invariant_of-result c =
    subst (All (λ (l : ℕ × List ℕ). c.args.self.before + l.0 < 2 ^ 64)) (sym c.of-lines.ensures)
    (numbers_fit c.args.self.before c.args.self.text.now c.args.self.few)

pub returns : goal.returns
returns c = lines_are c.args.self c.of-lines.result c.of-lines.ensures
