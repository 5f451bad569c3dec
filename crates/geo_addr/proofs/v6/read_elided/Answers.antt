use Rattle.geo_addr.proofs.V6Lemmas.{elided-left, elided-right, elided-groups, elided-value}
use Rattle.geo_addr.proofs.v6.read_elided.Goals as goal

pub returns-in-Err : goal.returns-in-Err
returns-in-Err c =
    elided-left c.args.left.now c.args.right.now c.in-Err.fault c.in-Err.ensures.reads

pub returns-in-Err-read_side : goal.returns-in-Err-read_side
returns-in-Err-read_side c =
    elided-right c.args.left.now c.args.right.now c.in-Ok.side c.in-Err-read_side.fault
    c.in-Ok.ensures.reads c.in-Err-read_side.ensures.reads

pub returns-then-head-tail-gt-MOST_BESIDE_DOUBLE : goal.returns-then-head-tail-gt-MOST_BESIDE_DOUBLE
returns-then-head-tail-gt-MOST_BESIDE_DOUBLE c =
    elided-groups c.args.left.now c.args.right.now c.in-Ok.side c.in-Ok-read_side.side
    c.in-Ok.ensures.reads c.in-Ok-read_side.ensures.reads c.if-head-tail-gt-MOST_BESIDE_DOUBLE.true

pub returns : goal.returns
returns c =
    elided-value c.args.left.now c.args.right.now c.in-Ok.side c.in-Ok-read_side.side _
    c.in-Ok.ensures.reads c.in-Ok-read_side.ensures.reads c.if-head-tail-gt-MOST_BESIDE_DOUBLE.false
    c.joined.ensures
