use Rattle.std.proofs.Common.{subst}
use Rattle.geo_addr.specs.Ranges.{Ends, AreCuts}
use Rattle.geo_terms.specs.Cuts.{statement_ranges}
use Rattle.cut_segments.proofs.CutLemmas.{cuts_inside_one}
use Rattle.precedence.proofs.SourceLemmas.{constant}
use Rattle.precedence.proofs.sources.Sources.cuts_in.Goals as goal

pub returns-clause-exact : goal.returns-clause-exact
returns-clause-exact c =
    subst (λ (within : Ends). AreCuts (statement_ranges c.args.self.now) within
    c.in_ok-points.points.items) c.within.view_is
    (cuts_inside_one (statement_ranges c.args.self.now) _ c.in_ok-points.points.items
    c.within.invariant c.in_ok-points.ensures.exact)

pub returns-clause-constant : goal.returns-clause-constant
returns-clause-constant c all =
    constant c.args.self.now c.in_ok-points.points.items
    (subst (λ (within : Ends). AreCuts (statement_ranges c.args.self.now) within
    c.in_ok-points.points.items) all (returns-clause-exact c))
