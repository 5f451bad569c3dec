use Rattle.std.proofs.Common.{rules}
use Rattle.geo_terms.specs.PlaceTable.{first_slot}
use Rattle.geo_terms.proofs.places.slot_of.Goals as goal

pub returns-clause-slot : goal.returns-clause-slot
unfolding first_slot
returns-clause-slot c = rw c.mark.ensures (search rules)
