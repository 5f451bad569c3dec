-- Where the session stands after three sources were set.
use Rattle.std.proofs.Common.{ap, false, subst}
use Rattle.source_changes.specs.Changes.{Change, SetDump, SetFeed, SetStats}
use Rattle.update_session.specs.Calls.{HasChanged}
use Rattle.update_session.specs.Standing.{changed}
use Rattle.generated_job.specs.Job.{begun, gen_epoch, gen_name, the_dump, the_feed, the_stats}
use Rattle.generated_job.proofs.FreeLemmas.{for_ok}
use Rattle.generated_job.proofs.sources.set_first.Goals as goal

pub returns : goal.returns
returns g c =
    let stays = c.standing_stays.ensures in
    let start = c.args.session.now in
    let one = c.set_rpsl.new.self in
    let two = c.set_stats.new.self in
    let three = c.set_ready_feed.new.self in
    let at_first = stays.begins gen_epoch gen_name start c.requires.new in
    let dumped = subst (λ (x : Change). HasChanged x start one)
    (ap SetDump c.in_ok-dump.ensures) c.in_ok-set_rpsl.ensures.ok in
    let at_one = stays.changes (SetDump the_dump) start one begun at_first dumped in
    let counted = subst (λ (x : Change). HasChanged x one two)
    (ap SetStats c.in_ok-stats.ensures) c.in_ok-set_stats.ensures.ok in
    let at_two = stays.changes (SetStats the_stats) one two (changed (SetDump the_dump) begun)
    at_one counted in
    for_ok c.set_ready_feed.result _ _ c.set_ready_feed.ensures.ok
    (λ has.
    stays.changes (SetFeed (the_feed false c.args.lines)) two three
    (changed (SetStats the_stats) (changed (SetDump the_dump) begun)) at_two
    (subst (λ (x : Change). HasChanged x two three) (ap SetFeed c.in_ok-feed.ensures) has))
