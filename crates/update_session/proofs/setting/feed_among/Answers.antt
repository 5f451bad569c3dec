use Rattle.std.proofs.Common.{◌∙◌, Some, ap, sym}
use Rattle.source_changes.proofs.Together.{found_new, found_old}
use Rattle.update_session.proofs.setting.feed_among.Goals as goal

pub returns-in-Some : goal.returns-in-Some
returns-in-Some c =
    ap Some c.feed.ensures.feed
    ∙ sym (found_new (λ f. f.url) c.args.url.now c.in-Some.ready.now c.args.last.now
    c.args.sources.now.feeds (sym c.in-Some.ensures))

pub returns-in-None : goal.returns-in-None
returns-in-None c =
    c.feed_of.ensures
    ∙ sym (found_old (λ f. f.url) c.args.url.now c.args.last.now c.args.sources.now.feeds
    (sym c.in-None.ensures))
