use Rattle.std.proofs.Common.{◌∙◌, List}
use Rattle.std.proofs.Common.{ap, map}
use Rattle.std.specs.Arc.{arc_value}
use Rattle.std.specs.List.{find}
use Rattle.geo_terms.specs.PlaceForm.{same_text}
use Rattle.geo_terms.specs.SlotOrder.{placed}
use Rattle.geo_terms.specs.SourceForm.{FeedParts}
use Rattle.geo_terms.specs.Sources.{InForce}
use Rattle.authority.specs.Held.{in_force}
use Rattle.authority.proofs.force.Authority.set_ready_feed.Goals as goal

pub invariant_of-self-2 : goal.invariant_of-self-2
invariant_of-self-2 c = record {
  slots = c.self.invariant.slots;
  urls = c.put.ensures.order;
  made = c.self.invariant.made;
  heard = tt;
}

pub returns-clause-sources : goal.returns-clause-sources
returns-clause-sources c =
    ap (λ (fs : List FeedParts). in_force (map arc_value c.self.inside.dumps.items) fs)
    c.in_ok-old.ensures.new
    ∙ ap (λ (s : InForce). record s { feeds = placed (λ f. f.url) c.args.feed s.feeds })
    c.self.view_is

pub returns-clause-old : goal.returns-clause-old
returns-clause-old c =
    c.feed_alone.ensures ∙ c.in_ok-old.ensures.old
    ∙ ap (λ (s : InForce). find (λ f. same_text f.url c.args.feed.url) s.feeds) c.self.view_is
