use Rattle.rpsl_reader.proofs.Feeds.{feed_there, lowest_within, no_feed, none_before}
use Rattle.rpsl_reader.proofs.front.near_feed.Goals as goal

pub returns-then-found-eq0-clause-free : goal.returns-then-found-eq0-clause-free
returns-then-found-eq0-clause-free c k l =
    no_feed c.args.text.now _ k c.requires c.feeds-found.ensures c.if-found-eq0.true l

pub returns-clause-within : goal.returns-clause-within
returns-clause-within c =
    lowest_within c.args.text.now _ c.requires c.feeds-found.ensures c.if-found-eq0.false

pub returns-clause-free : goal.returns-clause-free
returns-clause-free c k l =
    none_before c.args.text.now _ k c.requires c.feeds-found.ensures c.if-found-eq0.false l

pub returns-clause-feed : goal.returns-clause-feed
returns-clause-feed c l =
    feed_there c.args.text.now _ c.requires c.feeds-found.ensures c.if-found-eq0.false l
