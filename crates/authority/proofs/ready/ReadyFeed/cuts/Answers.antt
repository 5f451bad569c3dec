use Rattle.std.proofs.Common.{◌∙◌, List, ap, map, subst}
use Rattle.std.specs.Arc.{arc_value}
use Rattle.geo_addr.specs.Ranges.{Ends, range_of_block}
use Rattle.geo_terms.specs.SourceForm.{FeedParts}
use Rattle.geo_terms.specs.declared.statement.Entry.{Entry}
use Rattle.first_index.specs.declared.boundaries.Boundary.{Boundary}
use Rattle.source_changes.specs.CutPoints.{AreCutsOf}
use Rattle.authority.proofs.CutLemmas.{cuts_told}
use Rattle.authority.specs.declared.kind_index.KindIndex.{KindIndex}
use Rattle.authority.proofs.ready.ReadyFeed.cuts.Goals as goal

abbrev ranges_of : FeedParts → List Ends
ranges_of f = map (λ (e : Entry). range_of_block e.block) f.entries

pub returns : goal.returns
returns c =
    let index : KindIndex = arc_value c.self.inside.index in
    subst (λ (f : FeedParts). AreCutsOf (ranges_of f) c.cuts.result.now) c.self.view_is
    (cuts_told (λ (e : Entry). range_of_block e.block) (arc_value c.self.inside.feed).entries
    index.firsts c.cuts.result.now c.self.invariant.entries.cuts
    (c.cuts.ensures.same
    ∙ ap (λ (k : KindIndex). map (λ (b : Boundary). b.at) k.firsts) c.deref.ensures)
    c.cuts.ensures.ascending)
