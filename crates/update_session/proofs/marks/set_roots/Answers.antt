use Rattle.std.proofs.Common.{sym, arith}
use Rattle.update_session.proofs.CompactLemmas.{with_roots-none, with_roots-step}
use Rattle.update_session.proofs.marks.set_roots.Goals as goal

pub loop-at-init : goal.loop-at-init
loop-at-init c = sym (with_roots-none c.args.marks.now)

pub loop-at-preserved : goal.loop-at-preserved
loop-at-preserved c =
    with_roots-step c.loop-at.marks c.args.marks.now c.args.roots.now c.loop-at.at
    c.index-marks-at.result _ c.loop-at.invariant (omega arith) (omega arith)
