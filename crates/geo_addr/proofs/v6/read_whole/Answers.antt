use Rattle.geo_addr.proofs.V6Lemmas.{whole-fault, whole-groups, whole-value}
use Rattle.geo_addr.proofs.v6.read_whole.Goals as goal

pub returns-then-side-eq8 : goal.returns-then-side-eq8
returns-then-side-eq8 c =
    whole-value c.args.text.now c.in-Ok.side c.in-Ok.ensures.reads c.if-side-eq8.true

pub returns-else-side-eq8 : goal.returns-else-side-eq8
returns-else-side-eq8 c =
    whole-groups c.args.text.now c.in-Ok.side c.in-Ok.ensures.reads c.if-side-eq8.false

pub returns-in-Err : goal.returns-in-Err
returns-in-Err c = whole-fault c.args.text.now c.in-Err.fault c.in-Err.ensures.reads
