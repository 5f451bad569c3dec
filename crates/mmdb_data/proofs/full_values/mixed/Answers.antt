use Rattle.std.proofs.Common.{refl}
use Rattle.mmdb_data.specs.FullValues.{mixed}
use Rattle.mmdb_data.proofs.full_values.mixed.Goals as goal

pub returns : goal.returns
unfolding mixed
returns c = rw (c.finish.ensures, c.write.ensures, c.default-hasher.ensures) refl
