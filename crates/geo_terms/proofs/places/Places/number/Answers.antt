-- A table that has a slot has two.
use Rattle.std.proofs.Common.{◌<◌, length, rules}
use Rattle.geo_terms.proofs.places.Places.number.Goals as goal

pub slot_of-slot-requires : goal.slot_of-slot-requires
slot_of-slot-requires c =
    let some : 0 < length c.self.inside.slots.items = search rules in
    let t = c.self.invariant.2 in
    let two : 1 < length c.self.inside.slots.items = t.some some in
    search rules

pub returns : goal.returns
returns c = search rules steps 1000000
