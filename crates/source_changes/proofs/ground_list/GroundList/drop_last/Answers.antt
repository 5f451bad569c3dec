use Rattle.std.proofs.Common.{◌∙◌, ap, arith, length, sym}
use Rattle.source_changes.specs.Packing.{ends_of}
use Rattle.source_changes.proofs.PackingLemmas.{drop_ground, drop_other, length_unpacked}
use Rattle.source_changes.proofs.ground_list.GroundList.drop_last.Goals as goal

pub returns-in_default : goal.returns-in_default
returns-in_default c =
    absurd (omega (
      arith,
      c.requires,
      c.in_default.ensures.cases.0,
      ap length c.self.view_is,
      length_unpacked c.self.inside.packed.items c.self.inside.others.items c.self.invariant,
    ))

pub returns-then-last : goal.returns-then-last
returns-then-last c =
    let dropped = drop_other c.self.inside.packed.items c.pop.new.self.items
    c.self.inside.others.items c.pop-ground.new.self.items c.in-Some.last c.pop-ground.result
    c.self.invariant c.in-Some.ensures.items c.if-last.true c.pop-ground.ensures.items
    (λ lt. c.pop-ground.ensures.variant.1 (omega (arith, lt))) in
    (dropped.0, sym c.self.view_is ∙ dropped.1)

pub returns-else-last : goal.returns-else-last
returns-else-last c = (
  ends_of c.in-Some.last,
  sym c.self.view_is
      ∙ drop_ground c.self.inside.packed.items c.pop.new.self.items c.self.inside.others.items
      c.in-Some.last c.self.invariant c.in-Some.ensures.items c.if-last.false,
)
