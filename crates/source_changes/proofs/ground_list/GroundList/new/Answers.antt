use Rattle.std.proofs.Common.{refl}
use Rattle.source_changes.specs.Packing.{unpacked}
use Rattle.source_changes.proofs.ground_list.GroundList.new.Goals as goal

pub returns : goal.returns
unfolding unpacked
returns c = rw c.new.ensures.items refl
