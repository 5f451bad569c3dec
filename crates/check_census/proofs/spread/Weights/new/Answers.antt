-- At the beginning all is zero.
use Rattle.std.proofs.Common.{◌∙◌}
use Rattle.check_census.specs.declared.spread.Weights.{Weights}
use Rattle.check_census.proofs.PassLemmas.{sums_begin, weights_begin}
use Rattle.check_census.proofs.spread.Weights.new.Goals as goal

pub returns-clause-weights : goal.returns-clause-weights
returns-clause-weights c =
    let w : Weights = record { waiting = c.in_ok-waiting.waiting; ended = c.in_ok-ended.ended } in
    weights_begin c.args.store.now c.args.slots w
    (c.in_ok-waiting.ensures.long ∙ c.len.ensures.len) c.in_ok-ended.ensures.long c.requires
    c.in_ok-waiting.ensures.zero c.in_ok-ended.ensures.zero

pub returns-clause-none : goal.returns-clause-none
returns-clause-none c test =
    let w : Weights = record { waiting = c.in_ok-waiting.waiting; ended = c.in_ok-ended.ended } in
    sums_begin c.args.store.now w c.in_ok-waiting.ensures.zero c.in_ok-ended.ensures.zero test
