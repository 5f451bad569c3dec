use Rattle.std.proofs.Common.{ℕ, List, map, subst, sym}
use Rattle.geo_terms.specs.declared.statement.Reference.{Reference}
use Rattle.source_changes.specs.CutPoints.{AreCutsOf}
use Rattle.authority.proofs.CutLemmas.{cuts_told}
use Rattle.authority.proofs.speakers.copied_cuts.Goals as goal

pub returns : goal.returns
returns c =
    subst (λ (points : List ℕ). AreCutsOf (map (λ (r : Reference). r.range) c.args.refs.now) points)
    (sym c.in_ok-points.ensures.items)
    (cuts_told (λ (r : Reference). r.range) c.args.refs.now c.args.kind.now.firsts c.cuts.result.now
    c.requires.cuts c.cuts.ensures.same c.cuts.ensures.ascending)
