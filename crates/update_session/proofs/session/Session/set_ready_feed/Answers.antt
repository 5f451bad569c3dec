use Rattle.std.proofs.Common.{◌≢◌, ◌∙◌, List, ap, subst}
use Rattle.std.specs.List.{AllPairs}
use Rattle.geo_terms.specs.declared.statement.Entry.{Entry}
use Rattle.geo_terms.specs.SourceForm.{FeedParts}
use Rattle.source_changes.specs.Changes.{SetFeed}
use Rattle.source_changes.specs.Keeping.{AreEntries}
use Rattle.update_session.specs.Calls.{HasChanged}
use Rattle.update_session.specs.Kept.{Held}
use Rattle.update_session.specs.contracts.session.Session.{the_view}
use Rattle.update_session.proofs.ChangeLemmas.{changes_by_feed}
use Rattle.update_session.proofs.KeptLemmas.{HasChanged-made, IsSession-changed}
use Rattle.update_session.proofs.session.Session.set_ready_feed.Goals as goal
use Rattle.update_session.proofs.session.Session.set_ready_feed.Goals.{in-Ok, in-Err}

pub returns-clause-ok : goal.returns-clause-ok
returns-clause-ok c =
    let same = changes_by_feed c.self.inside.sources c.args.ready _ _ _ _ _
    c.in_ok-before.ensures.added.0 (c.feed.view_is ∙ c.feed-feed.ensures.feed) c.as_str.ensures
    c.as_slice-new.ensures c.feed_of.ensures c.entries_of-old.ensures
    c.in_ok-before.ensures.added.2 in
    elim c.match-set_ready_feed.branch [
      | in-Ok w ↦ rw (w.result-is, w.self-is) (
          subst (λ (held : Held). HasChanged (SetFeed c.args.ready) held
          (the_view (record c.self.inside {
            sources = c.set_ready_feed.new.self;
            touched = c.add_changed.new.touched;
          }))) c.self.view_is
          (HasChanged-made (SetFeed c.args.ready) (the_view c.self.inside) c.set_ready_feed.new.self
          c.add_changed.new.touched c.in_ok-before.ensures.added.0 w.in-Ok.ensures.sources
          c.in_ok-before.ensures.added.1 same))
      | in-Err w ↦ rw w.result-is tt
    ]

pub invariant_of-self-in-Ok : goal.invariant_of-self-in-Ok
invariant_of-self-in-Ok c =
    let same = changes_by_feed c.self.inside.sources c.args.ready _ _ _ _ _
    c.in_ok-before.ensures.added.0 (c.feed.view_is ∙ c.feed-feed.ensures.feed) c.as_str.ensures
    c.as_slice-new.ensures c.feed_of.ensures c.entries_of-old.ensures
    c.in_ok-before.ensures.added.2 in
    let sound : AreEntries c.args.ready.entries = record {
      blocks = c.feed-feed.ensures.blocks;
      distinct =
          subst (λ (es : List Entry). AllPairs (λ x y. x.block ≢ y.block) es)
          (ap (λ (f : FeedParts). f.entries) (c.feed.view_is ∙ c.feed-feed.ensures.feed))
          c.feed.invariant.distinct;
    } in (
      (c.self.invariant.0.0, tt),
      IsSession-changed c.sources_stay.ensures c.kept_by_one_more.ensures c.self.inside.sources
          c.set_ready_feed.new.self (SetFeed c.args.ready) _ _ _ c.self.inside.touched
          c.add_changed.new.touched c.in_ok-before.ensures.added.0 _
          c.self.invariant.1 sound c.in-Ok.ensures.sources
          c.in_ok-before.ensures.added.1 same,
    )
