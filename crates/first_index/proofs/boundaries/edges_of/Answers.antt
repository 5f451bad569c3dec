use Rattle.std.proofs.Common.{◌<◌, List, length, arith, subst}
use Rattle.std.specs.List.{All}
use Rattle.std.proofs.lemmas.Grind.{common_steps}
use Rattle.std.proofs.lemmas.List.Elements.{All-more}
use Rattle.std.proofs.lemmas.List.{take_all}
use Rattle.geo_addr.specs.Ranges.{Ends, IsRange}
use Rattle.first_index.proofs.boundaries.edges_of.Goals as goal

pub loop-rank-preserved : goal.loop-rank-preserved
loop-rank-preserved c =
    let within : c.loop-rank.rank < length c.args.ranges.now = omega arith in
    record {
      found = grind (arith, common_steps);
      ranges =
          All-more IsRange c.args.ranges.now
          c.loop-rank.rank c.index-ranges-rank.result within c.loop-rank.invariant.ranges
          (subst IsRange c.index-ranges-rank.is c.in_ok-push_edges.ensures.range);
    }

pub returns-clause-ranges : goal.returns-clause-ranges
returns-clause-ranges c =
    subst (λ (xs : List Ends). All IsRange xs) (take_all c.loop-rank.rank c.args.ranges.now
    c.loop-rank-test.false) c.loop-rank.invariant.ranges
