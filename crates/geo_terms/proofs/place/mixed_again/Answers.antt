use Rattle.std.proofs.Common.{refl}
use Rattle.geo_terms.specs.PlaceMarks.{mixed_again}
use Rattle.geo_terms.proofs.place.mixed_again.Goals as goal

pub returns : goal.returns
unfolding mixed_again
returns c =
    rw (
      c.finish.ensures,
      c.write-5.ensures,
      c.write-4.ensures,
      c.write-3.ensures,
      c.write-2.ensures,
      c.write.ensures,
      c.to_le_bytes.ensures,
      c.requires,
      c.default-hasher.ensures,
    ) refl
