use Rattle.std.proofs.Common.{None, map, subst}
use Rattle.source_changes.specs.Changes.{SetFeed}
use Rattle.update_session.specs.Calls.{HaveChanged}
use Rattle.update_session.specs.Kept.{Held}
use Rattle.update_session.specs.contracts.session.Session.{the_view}
use Rattle.update_session.proofs.TogetherLemmas.{feeds_have_changed, feeds_kept}
use Rattle.update_session.proofs.session.Session.set_ready_feeds.Goals as goal

pub invariant_of-self-in-Ok-set_ready_feeds : goal.invariant_of-self-in-Ok-set_ready_feeds
invariant_of-self-in-Ok-set_ready_feeds c = (
  (c.self.invariant.0.0, tt),
  feeds_kept c.sources_stay.ensures c.kept_by_one_more.ensures c.args.feeds.items
      c.in-Ok.last.items c.self.inside.sources c.set_ready_feeds.new.self _ _ _
      c.self.inside.touched c.add_feeds.new.touched _ c.self.invariant.1 c.in-Ok.ensures.added
      c.in-Ok-set_ready_feeds.ensures.sources,
)

pub returns-in-Ok-set_ready_feeds-clause-ok : goal.returns-in-Ok-set_ready_feeds-clause-ok
returns-in-Ok-set_ready_feeds-clause-ok c =
    subst (λ (held : Held). HaveChanged (map SetFeed c.args.feeds.items) held
    (the_view (record c.self.inside {
      sources = c.set_ready_feeds.new.self;
      touched = c.add_feeds.new.touched;
      noted = None;
    }))) c.self.view_is
    (feeds_have_changed c.args.feeds.items c.in-Ok.last.items (the_view c.self.inside)
    c.set_ready_feeds.new.self c.add_feeds.new.touched c.in-Ok.ensures.added
    c.in-Ok-set_ready_feeds.ensures.sources)
