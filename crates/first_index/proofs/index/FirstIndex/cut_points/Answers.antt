use Rattle.std.proofs.Common.{◌∙◌, ap, map, sym}
use Rattle.first_index.specs.declared.boundaries.Boundary.{Boundary}
use Rattle.first_index.proofs.ColumnLemmas.{points_are}
use Rattle.first_index.proofs.index.FirstIndex.cut_points.Goals as goal

pub returns-clause-same : goal.returns-clause-same
returns-clause-same c =
    c.as_slice.ensures.value
    ∙ sym (points_are c.self.inside.points.items c.self.inside.codes.items
    c.self.invariant.same_length)
    ∙ ap (map (λ (b : Boundary). b.at)) c.self.view_is
