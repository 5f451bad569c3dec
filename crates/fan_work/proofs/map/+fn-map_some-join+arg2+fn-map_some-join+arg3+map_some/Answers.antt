-- The results of the halves, one behind the other, and the pieces that entered.
use Rattle.std.proofs.Common.{◌≡◌, ◌∙◌, arith, length, rules, sym}
use Rattle.std.proofs.lemmas.Bool.{eqb-true}
use Rattle.std.proofs.lemmas.Result.{on_ok_weaker}
use Rattle.fan_work.proofs.Entering.{entered_alone, entered_both, none_entered}
use Rattle.fan_work.proofs.Zipped.{AllZip-joined}
use Rattle.fan_work.proofs.map.+fn-map_some-join+arg2+fn-map_some-join+arg3+map_some.Goals as goal
use Rattle.fan_work.proofs.map.+fn-map_some-join+arg2+fn-map_some-join+arg3+map_some.Goals.{
  then-is_empty-via-then-is_empty,
  then-is_empty-via-else-is_empty+then-stretch-eq1,
}

pub returns-clause-related : goal.returns-clause-related
returns-clause-related g t c =
    AllZip-joined (g.W.Work.related c.args.work.now) c.halves.result.0.1.now c.halves.result.1.1.now
    c.args.items.now c.in_ok-results.results.items c.in_ok-rest.rest.items c.append.new.self.items
    (search rules) (search rules) c.halves.ensures.items (search rules)

pub returns-clause-entered : goal.returns-clause-entered
returns-clause-entered g t c =
    entered_both (g.G.Gate.entered c.args.gate.now) c.args.stretch c.halves.result.0.0
    c.halves.result.1.0 c.halves.ensures.halves (search rules) (search rules)

pub returns-then-is_empty-clause-entered : goal.returns-then-is_empty-clause-entered
returns-then-is_empty-clause-entered g t c =
    let count = length c.args.items.now in
    let entered = g.G.Gate.entered c.args.gate.now in
    elim c.then-is_empty.branch [
      | then-is_empty-via-then-is_empty w ↦
          let none : count ≡ 0 =
          eqb-true count 0 (sym c.is_empty.ensures ∙ w.if-is_empty.true) in
          on_ok_weaker c.map_piece.result
          (λ here. none_entered entered c.args.stretch count c.requires none)
          c.map_piece.ensures.entered
      | then-is_empty-via-else-is_empty+then-stretch-eq1 w ↦
          on_ok_weaker c.map_piece.result (entered_alone entered c.args.stretch count c.requires
          (omega (arith, w.if-stretch-eq1.true))) c.map_piece.ensures.entered
    ]
