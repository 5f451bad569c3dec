use Rattle.mmdb_data.proofs.Keeps.{new_offset, offsets_stay}
use Rattle.mmdb_data.proofs.PackedReads.{tells_apart}
use Rattle.mmdb_data.proofs.laws.packed_at_the_least_offset.Goals as goal

pub returns-clause-noted : goal.returns-clause-noted
returns-clause-noted c = new_offset

pub returns-clause-stay : goal.returns-clause-stay
returns-clause-stay c = offsets_stay

pub returns-clause-apart : goal.returns-clause-apart
returns-clause-apart c = tells_apart
