use Rattle.std.proofs.Common.{arith}
use Rattle.job_run.proofs.ActLemmas.{readable, unreadable-long, unreadable-none}
use Rattle.job_run.proofs.reading.read_file.Goals as goal

pub returns-in-Ok-clause-readable : goal.returns-in-Ok-clause-readable
returns-in-Ok-clause-readable g c =
    readable c.args.longest c.in-Ok.bytes.items
    (omega (arith, c.in-Ok.bytes.ok.0, c.in-Ok.ensures.limit))

pub returns-in-Err-Missing-clause-unread : goal.returns-in-Err-Missing-clause-unread
returns-in-Err-Missing-clause-unread g c w told =
    unreadable-none c.args.longest _ (c.in-Err-Missing.ensures.absent w told (cc))

pub returns-in-Err-TooLong-clause-unread : goal.returns-in-Err-TooLong-clause-unread
returns-in-Err-TooLong-clause-unread g c w told =
    unreadable-long c.args.longest _ (c.in-Err-TooLong.ensures.long w told (cc))
