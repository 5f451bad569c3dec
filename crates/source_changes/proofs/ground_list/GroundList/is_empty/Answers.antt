use Rattle.std.proofs.Common.{ap, arith, length}
use Rattle.std.specs.Vec.{vec_len}
use Rattle.source_changes.proofs.PackingLemmas.{length_unpacked, tested_empty}
use Rattle.source_changes.proofs.ground_list.GroundList.is_empty.Goals as goal

pub returns : goal.returns
returns c =
    rw c.is_empty.ensures
    (tested_empty c.args.self.now (vec_len c.self.inside.packed) (omega (
      arith,
      ap length c.self.view_is,
      length_unpacked c.self.inside.packed.items c.self.inside.others.items c.self.invariant,
    )))
