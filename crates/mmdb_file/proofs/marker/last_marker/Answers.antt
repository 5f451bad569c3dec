use Rattle.std.proofs.Common.{arith}
use Rattle.mmdb_file.proofs.AdoptLemmas.{found_here, none_here}
use Rattle.mmdb_file.proofs.marker.last_marker.Goals as goal

pub returns-then-begins_marker-clause-offset : goal.returns-then-begins_marker-clause-offset
returns-then-begins_marker-clause-offset c =
    found_here c.args.bytes.now c.loop-offset.offset c.loop-offset-test.true
    c.loop-offset.invariant.0
    c.loop-offset.invariant.1 c.if-begins_marker.ensures.value

pub loop-offset-preserved : goal.loop-offset-preserved
loop-offset-preserved c = (
  omega (arith, c.loop-offset.invariant.0),
  none_here c.args.bytes.now c.loop-offset.offset c.loop-offset-test.true c.loop-offset.invariant.0
      c.loop-offset.invariant.1 c.if-begins_marker.ensures.value,
)
