use Rattle.std.proofs.Common.{◌∙◌, ◌∷◌, sym}
use Rattle.source_changes.specs.Packing.{unpacked}
use Rattle.source_changes.proofs.PackingLemmas.{none_packed, take_ground, take_other}
use Rattle.source_changes.proofs.ground_list.GroundsLeft.take.Goals as goal

pub returns-in_default : goal.returns-in_default
returns-in_default c =
    sym c.self.view_is
    ∙ none_packed c.self.inside.packed.now c.self.inside.others.now c.in_default.ensures.cases

pub returns-then-one : goal.returns-then-one
returns-then-one c =
    sym c.self.view_is
    ∙ take_ground c.self.inside.packed.now c.in-Some.packed.now c.self.inside.others.now
    c.in-Some.one.now c.in-Some.ensures.cases.0 c.if-one.true
    ∙ (λ i. record {
      first = sym c.from-first.ensures i;
      last = sym c.from-last.ensures i;
    } ∷ unpacked c.in-Some.packed.now c.self.inside.others.now)

pub returns : goal.returns
returns c =
    sym c.self.view_is
    ∙ take_other c.self.inside.packed.now c.in-Some.packed.now c.self.inside.others.now
    c.in-Some-split_first.others.now c.in-Some.one.now c.in-Some-split_first.ground.now
    c.in-Some.ensures.cases.0 c.in-Some-split_first.ensures.cases.0 c.if-one.false
