use Rattle.std.proofs.Common.{refl}
use Rattle.mmdb_data.specs.FullValues.{mixed_again}
use Rattle.mmdb_data.proofs.full_values.mixed_again.Goals as goal

pub returns : goal.returns
unfolding mixed_again
returns c =
    rw (
      c.from-2.ensures,
      c.from.ensures,
      c.finish.ensures,
      c.finish-second.ensures,
      c.write-3.ensures,
      c.write-2.ensures,
      c.write.ensures,
      c.to_le_bytes.ensures,
      c.requires,
      c.default-hasher.ensures,
    ) refl
