use Rattle.std.proofs.Common.{refl}
use Rattle.geo_terms.specs.PlaceMarks.{mixed_texts}
use Rattle.geo_terms.proofs.place.mixed_texts.Goals as goal

pub returns : goal.returns
unfolding mixed_texts
returns c =
    rw (
      c.finish.ensures,
      c.write-4.ensures,
      c.write-3.ensures,
      c.write-2.ensures,
      c.write.ensures,
      c.default-hasher.ensures,
    ) refl
