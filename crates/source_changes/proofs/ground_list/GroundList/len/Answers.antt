use Rattle.std.proofs.Common.{ap, arith, length}
use Rattle.source_changes.proofs.PackingLemmas.{length_unpacked}
use Rattle.source_changes.proofs.ground_list.GroundList.len.Goals as goal

pub returns : goal.returns
returns c =
    omega (
      arith,
      c.len.ensures,
      ap length c.self.view_is,
      length_unpacked c.self.inside.packed.items c.self.inside.others.items c.self.invariant,
    )
