use Rattle.std.proofs.Common.{◌∙◌, List}
use Rattle.std.proofs.Common.{ap, map}
use Rattle.std.specs.Arc.{arc_value}
use Rattle.geo_terms.specs.SourceForm.{FeedParts}
use Rattle.geo_terms.specs.Sources.{InForce}
use Rattle.source_changes.specs.Placing.{all_placed}
use Rattle.authority.specs.Held.{in_force}
use Rattle.authority.proofs.force.Authority.set_ready_feeds.Goals as goal

pub invariant_of-self-2 : goal.invariant_of-self-2
invariant_of-self-2 c = record {
  slots = c.self.invariant.slots;
  urls = c.put_all.ensures.order;
  made = c.self.invariant.made;
  heard = tt;
}

pub returns-clause-sources : goal.returns-clause-sources
returns-clause-sources c =
    ap (λ (fs : List FeedParts). in_force (map arc_value c.self.inside.dumps.items) fs)
    c.in_ok-put_all.ensures.new
    ∙ ap (λ (s : InForce). record s { feeds = all_placed (λ f. f.url) c.args.feeds.items s.feeds })
    c.self.view_is
