use Rattle.std.proofs.Common.{◌∙◌, sym}
use Rattle.source_changes.specs.Packing.{ends_of}
use Rattle.source_changes.proofs.PackingLemmas.{take_ground, take_other}
use Rattle.source_changes.proofs.PassingLemmas.{apart_lies_in, pair_lies_in}
use Rattle.source_changes.proofs.ground_list.GroundsLeft.pass_one.Goals as goal

pub returns-then-is_passed-clause-passed : goal.returns-then-is_passed-clause-passed
returns-then-is_passed-clause-passed c t =
    let one = c.in-Some.one.now in
    let passed = c.is_passed.ensures c.if-is_passed.true in
    let first =
    sym c.self.view_is
    ∙ take_ground c.self.inside.packed.now c.in-Some.packed.now c.self.inside.others.now one
    c.in-Some.ensures.cases.0 passed.ordered in
    let lies =
    pair_lies_in c.args.chunk c.args.around c.args.within one c.requires passed in
    (ends_of one, (first, lies))

pub returns-clause-passed : goal.returns-clause-passed
returns-clause-passed c t =
    let ground = c.in-Some-split_first.ground.now in
    let first =
    sym c.self.view_is
    ∙ take_other c.self.inside.packed.now c.in-Some.packed.now c.self.inside.others.now
    c.in-Some-split_first.others.now c.in-Some.one.now ground c.in-Some.ensures.cases.0
    c.in-Some-split_first.ensures.cases.0 c.if-one.false in
    let lies =
    apart_lies_in c.args.chunk c.args.within ground c.is_apart.ensures.address
    (c.is_apart.ensures.apart c.if-not-is_apart.false) in
    (ground, (first, lies))
