-- The numbers of the lines that are left stay small.
use Rattle.std.proofs.Common.{ℕ, ◌+◌, ◌<◌, ◌^◌, List}
use Rattle.line_parts.proofs.PartLemmas.{rest_fits}
use Rattle.line_parts.proofs.lines.PartLinesIterator.next.Goals as goal
use Rattle.std.proofs.Common.{rules}

pub invariant_of-self : goal.invariant_of-self
invariant_of-self c =
    rest_fits (λ (l : ℕ × List ℕ). c.self.inside.before + l.0 < 2 ^ 64) _ c.next.result
    c.self.inside.lines c.next.new.self c.next.ensures.steps c.self.invariant

pub returns-clause-steps : goal.returns-clause-steps
returns-clause-steps c = search rules steps 1000000
