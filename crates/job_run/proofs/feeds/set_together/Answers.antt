use Rattle.std.proofs.Common.{◌∙◌, sym, rules}
use Rattle.job_run.proofs.FeedLemmas.{counting_fails, group_done, memory_fails, reading_fails}
use Rattle.job_run.proofs.FeedLemmas.{within_group}
use Rattle.job_run.proofs.feeds.set_together.Goals as goal

pub returns-in-Err-clause-stopped : goal.returns-in-Err-clause-stopped
returns-in-Err-clause-stopped g c now world same here =
    reading_fails c.args.group.now world c.args.session.now now here
    c.in-Err.stop.why c.in-Err.stop.at
    (c.in-Err.ensures.halted world.told (sym same ∙ here.tells))

pub returns-in-Err-parse_all-clause-stopped : goal.returns-in-Err-parse_all-clause-stopped
returns-in-Err-parse_all-clause-stopped g c now world same here =
    counting_fails c.args.group.now world c.args.session.now now here
    c.in-Ok.held.items (search rules) c.requires.some
    c.in-Err-parse_all.stop.why c.in-Err-parse_all.stop.at c.in-Err-parse_all.ensures.refused

pub returns-in-Err-parse_all-clause-at : goal.returns-in-Err-parse_all-clause-at
returns-in-Err-parse_all-clause-at g c =
    within_group c.args.group.now c.in-Ok.held.items c.in-Err-parse_all.stop.why
    c.in-Err-parse_all.stop.at c.requires.some (search rules) c.in-Err-parse_all.ensures.refused

pub returns-in-Ok-set_all-clause-done : goal.returns-in-Ok-set_all-clause-done
returns-in-Ok-set_all-clause-done g c now world same here =
    group_done c.args.group.now world c.args.session.now now here
    c.in-Ok.held.items (search rules)
    c.in-Ok-parse_all.feeds.items c.in-Ok-parse_all.ensures.feeds c.set_all.new.session
    (search rules)

pub returns-in-Err-set_all-clause-stopped : goal.returns-in-Err-set_all-clause-stopped
returns-in-Err-set_all-clause-stopped g c now world same here =
    memory_fails c.args.group.now world c.args.session.now now here
    c.requires.some
