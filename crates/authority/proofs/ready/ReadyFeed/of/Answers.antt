use Rattle.std.proofs.Common.{subst}
use Rattle.std.specs.Arc.{arc_value}
use Rattle.geo_terms.specs.SourceForm.{FeedParts}
use Rattle.authority.specs.Kinds.{IsReady}
use Rattle.authority.proofs.ready.ReadyFeed.of.Goals as goal

pub invariant_of-result : goal.invariant_of-result
invariant_of-result c =
    subst (λ (f : FeedParts). IsReady f (arc_value c.in_ok-index.index)) c.deref.ensures
    c.in_ok-index.ensures
