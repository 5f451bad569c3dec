use Rattle.job_run.proofs.FeedLemmas.{all_were_set}
use Rattle.job_run.proofs.feeds.set_all.Goals as goal

pub returns : goal.returns
returns c w stands =
    all_were_set c.standing_stays.ensures c.args.feeds.items w c.args.session.now
    c.set_ready_feeds.new.self stands c.in_ok-set_ready_feeds.ensures.ok
