use Rattle.std.proofs.Common.{◌-◌, ap, rules, subst, arith}
use Rattle.std.proofs.Common.{take}
use Rattle.source_changes.proofs.PlacingLemmas.{IsPuttingOver, begin_over, end_over, next_over}
use Rattle.source_changes.proofs.PlacingLemmas.{over_by_search, passed_by_search}
use Rattle.source_changes.proofs.shelf.put_over.Goals as goal

pub loop-at-init : goal.loop-at-init
loop-at-init g c =
    begin_over g.T.Named.name c.args.count c.len-at.result c.args.shelf.now.items c.requires.count
    (search rules) c.requires.shelf c.requires.things

pub loop-at-preserved-in-Ok : goal.loop-at-preserved-in-Ok
loop-at-preserved-in-Ok g c =
    over_by_search g.T.Named.name c.args.count (c.loop-at.at - 1) c.args.shelf.now.items
    c.loop-at.shelf.items
    (next_over g.T.Named.name c.args.count (c.loop-at.at - 1) c.args.shelf.now.items
    c.loop-at.shelf.items (omega (arith, c.loop-at-test.true))
    (subst (λ n. IsPuttingOver g.T.Named.name c.args.count n c.args.shelf.now.items
    c.loop-at.shelf.items) (omega (arith, c.loop-at-test.true)) c.loop-at.invariant)) _
    c.name.result.now c.index.result.now (ap (take c.args.count) c.deref.ensures.value)
    c.name.ensures (search rules) c.in-Ok.index _ _ _ c.in-Ok.ensures.within c.in-Ok.ensures.found
    c.take_at-thing.ensures.old c.take_at-thing.ensures.new c.replace_at.ensures.new

pub loop-at-preserved : goal.loop-at-preserved
loop-at-preserved g c =
    passed_by_search g.T.Named.name c.args.count (c.loop-at.at - 1) c.args.shelf.now.items
    c.loop-at.shelf.items
    (next_over g.T.Named.name c.args.count (c.loop-at.at - 1) c.args.shelf.now.items
    c.loop-at.shelf.items (omega (arith, c.loop-at-test.true))
    (subst (λ n. IsPuttingOver g.T.Named.name c.args.count n c.args.shelf.now.items
    c.loop-at.shelf.items) (omega (arith, c.loop-at-test.true)) c.loop-at.invariant)) _
    c.name.result.now c.index.result.now (ap (take c.args.count) c.deref.ensures.value)
    c.name.ensures (search rules) c.in_default.field-0 c.in_default.ensures.found

pub returns : goal.returns
returns g c =
    end_over g.T.Named.name c.args.count c.loop-at.at c.args.shelf.now.items c.loop-at.shelf.items
    (omega (arith, c.loop-at-test.false)) c.loop-at.invariant
