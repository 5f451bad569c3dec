use Rattle.std.proofs.Common.{◌∙◌, ◌++◌, List, ap, rules}
use Rattle.std.proofs.lemmas.List.{append_assoc}
use Rattle.geo_addr.specs.Ranges.{Ends}
use Rattle.update_session.proofs.TogetherLemmas.{HaveCome-none, HaveCome-push}
use Rattle.update_session.proofs.setting.add_feeds.Goals as goal

pub loop-ready-init : goal.loop-ready-init
loop-ready-init c = HaveCome-none _ _ _ (search rules)

pub add_feed-requires : goal.add_feed-requires
add_feed-requires c = c.loop-ready.invariant.order

pub loop-ready-preserved : goal.loop-ready-preserved
loop-ready-preserved c =
    HaveCome-push _ c.loop-ready.yielded _ _ _ _ _ _ c.in_ok-add_feed.ensures.added.0
    c.loop-ready.invariant c.in_ok-add_feed.ensures.added.1 c.in_ok-add_feed.ensures.added.2
    c.in_ok-add_feed.ensures.last c.add_feed.ensures.order c.add_feed.ensures.sound

pub returns-in_err-add_feed-clause-more : goal.returns-in_err-add_feed-clause-more
returns-in_err-add_feed-clause-more c =
    let h = c.loop-ready.invariant in
    let m = c.add_feed.ensures.more in
    (h.more ++ m.0, m.1 ∙ ap (λ (l : List Ends). l ++ m.0) h.touched ∙ append_assoc _ h.more m.0)

pub returns-clause-more : goal.returns-clause-more
returns-clause-more c = (c.loop-ready.invariant.more, c.loop-ready.invariant.touched)
