use Rattle.std.proofs.Common.{arith, rules, suc}
use Rattle.std.proofs.Math.Nat.{pow-succ'}
use Rattle.std.proofs.lemmas.Fmt.{length-decimal-le}
use Rattle.job_run.proofs.reporting.digits.Goals as goal

pub returns-in-Some-clause-enough : goal.returns-in-Some-clause-enough
returns-in-Some-clause-enough c =
    let shorter = length-decimal-le (suc c.in-Some.log) c.args.number (search (rules, arith))
    (search (rules, pow-succ' 10 c.in-Some.log)) c.ranges.number.fits in
    search (arith, shorter)

pub returns-in-None-clause-enough : goal.returns-in-None-clause-enough
returns-in-None-clause-enough c =
    length-decimal-le 1 c.args.number (search rules) (search (rules, arith)) c.ranges.number.fits
