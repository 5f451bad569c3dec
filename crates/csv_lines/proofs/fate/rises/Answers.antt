-- One more range above the one before.
use Rattle.std.proofs.Common.{sym, ◌∙◌, ◌<◌, length, AllPairs, rules, arith, subst, List}
use Rattle.std.proofs.lemmas.List.{take_all}
use Rattle.csv_lines.specs.Doubled.{IsBelow}
use Rattle.csv_lines.proofs.FateLemmas.{rising_more, last_range}
use Rattle.csv_lines.proofs.fate.rises.Goals as goal

pub loop-row-preserved : goal.loop-row-preserved
loop-row-preserved g c =
    let within : c.loop-row.row-index < length c.args.rows.now = search rules in
    let is = c.range-range.ensures in
    let below = c.follows.ensures (search rules) in (
      rising_more g.T.Accepted.line g.T.Accepted.range g.T.Accepted.said c.args.rows.now
          c.loop-row.row-index c.row-item.result c.loop-row.before within c.row-item.is
          c.loop-row.invariant.0 c.loop-row.invariant.1 (rw is at below),
      (
        omega arith,
        λ d. last_range g.T.Accepted.line g.T.Accepted.range g.T.Accepted.said c.args.rows.now
            c.loop-row.row-index c.row-item.result within c.row-item.is d ∙ sym is,
      ),
    )

pub returns : goal.returns
returns g c true_now =
    let all = take_all c.loop-row.row-index c.args.rows.now (search rules) in
    subst (λ (t : List g.row.T.Denot). AllPairs
    (λ x y. IsBelow (g.T.Accepted.range x) (g.T.Accepted.range y)) t) all c.loop-row.invariant.0
