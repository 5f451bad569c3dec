use Rattle.rpsl_reader.proofs.Feeds.{feed_far, none_far}
use Rattle.rpsl_reader.proofs.front.feed_among.Goals as goal

pub returns-clause-free : goal.returns-clause-free
returns-clause-free c k l =
    none_far c.args.text.now _ _ _ k c.split_at.ensures.back c.if-near-lt-HALF.false
    c.near_feed-near.ensures.free c.near_feed.ensures.free l

pub returns-clause-feed : goal.returns-clause-feed
returns-clause-feed c l =
    feed_far c.args.text.now _ _ c.split_at.ensures.back c.near_feed.ensures.feed l
