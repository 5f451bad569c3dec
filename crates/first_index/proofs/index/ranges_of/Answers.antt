use Rattle.std.proofs.Common.{ℕ, ◌<◌, ◌∙◌, Bor, List, ap, length, map, arith, subst}
use Rattle.std.proofs.lemmas.Grind.{common_steps}
use Rattle.std.proofs.lemmas.List.{take_all}
use Rattle.std.proofs.lemmas.List.Elements.{All-more}
use Rattle.std.specs.List.{All}
use Rattle.first_index.proofs.index.ranges_of.Goals as goal

pub loop-statement-preserved : goal.loop-statement-preserved
loop-statement-preserved g c =
    let within : c.loop-statement.statement-index < length c.args.ranked.now = omega arith in
    record {
      ranges = grind (arith, common_steps);
      kept =
          All-more (λ x. g.S.Statement.kept x.1.now) c.args.ranked.now
          c.loop-statement.statement-index c.loop-statement-item.result within
          c.loop-statement.invariant.kept
          (subst (λ (x : ℕ × Bor g.row.S.Denot). g.S.Statement.kept x.1.now)
          c.loop-statement-item.is c.range.ensures.kept);
    }

pub returns-clause-ranges : goal.returns-clause-ranges
returns-clause-ranges g c =
    c.loop-statement.invariant.ranges
    ∙ ap (map (λ (x : ℕ × Bor g.row.S.Denot). g.S.Statement.range x.1.now))
    (take_all c.loop-statement.statement-index c.args.ranked.now c.loop-statement-test.false)

pub returns-clause-kept : goal.returns-clause-kept
returns-clause-kept g c =
    subst (λ (xs : List (ℕ × Bor g.row.S.Denot)). All (λ x. g.S.Statement.kept x.1.now) xs)
    (take_all c.loop-statement.statement-index c.args.ranked.now c.loop-statement-test.false)
    c.loop-statement.invariant.kept
