-- What the parser refuses for another cause than want of room is refused.
use Rattle.std.proofs.Common.{ap, sym, inl, inr}
use Rattle.std.proofs.lemmas.Bool.{iff_false}
use Rattle.feed_refs.specs.Urls.{parsed_read}
use Rattle.feed_refs.proofs.feed_url.parsed.Goals as goal

pub returns-else-is_out_of_room : goal.returns-else-is_out_of_room
returns-else-is_out_of_room c = elim c.in-Err.ensures [
  | inl h ↦ sym (ap parsed_read h)
  | inr room ↦ absurd (iff_false c.is_out_of_room.ensures c.if-is_out_of_room.false room)
]
