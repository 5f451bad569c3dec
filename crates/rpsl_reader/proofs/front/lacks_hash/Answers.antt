use Rattle.std.proofs.Common.{arith}
use Rattle.rpsl_reader.proofs.Hashes.{lacking}
use Rattle.rpsl_reader.proofs.front.lacks_hash.Goals as goal

pub returns-then-lacks_few : goal.returns-then-lacks_few
returns-then-lacks_few c h =
    lacking 16 35 c.args.text.now _ (omega (arith, c.if-text-lt-TOGETHER.false))
    (omega (arith, c.if-text-le-HALF.true)) c.split_at.ensures.back
    (c.lacks_few.ensures c.if-lacks_few.true) (c.lacks_few-then-lacks_few.ensures h)

pub returns-then-lacks_many : goal.returns-then-lacks_many
returns-then-lacks_many c h =
    lacking 32 35 c.args.text.now _ (omega (arith, c.if-text-le-HALF.false))
    (omega (arith, c.if-text-gt-WIDE.false)) c.split_at-2.ensures.back
    (c.lacks_many.ensures c.if-lacks_many.true) (c.lacks_many-then-lacks_many.ensures h)
