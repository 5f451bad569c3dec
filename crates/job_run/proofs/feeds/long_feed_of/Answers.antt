use Rattle.std.proofs.Common.{◌<◌, length}
use Rattle.feed_csv.specs.File.{longest, most}
use Rattle.job_run.specs.Sources.{entries_of}
use Rattle.job_run.proofs.ActLemmas.{too_long, too_many, usable}
use Rattle.job_run.proofs.feeds.long_feed_of.Goals as goal

pub returns-in-Ok-clause-few : goal.returns-in-Ok-clause-few
returns-in-Ok-clause-few g c =
    usable longest most entries_of c.args.bytes.items
    (λ (over : longest < length c.args.bytes.items). let e = c.in-Ok.ensures.too_long.1 over in cc)
    c.in-Ok.ensures.within

pub returns-in-Err-TooLong-clause-unset : goal.returns-in-Err-TooLong-clause-unset
returns-in-Err-TooLong-clause-unset g c =
    too_long longest most entries_of c.args.bytes.items (c.in-Err-TooLong.ensures.too_long.0 (cc))

pub returns-in-Err-TooMany-clause-unset : goal.returns-in-Err-TooMany-clause-unset
returns-in-Err-TooMany-clause-unset g c =
    too_many longest most entries_of c.args.bytes.items
    (λ (over : longest < length c.args.bytes.items). let e =
    c.in-Err-TooMany.ensures.too_long.1 over in cc)
    (c.in-Err-TooMany.ensures.too_many (cc))
