use Rattle.std.proofs.Common.{arith, refl}
use Rattle.geofeed.proofs.folder.DirFolderFolder.TheImpl.Goals as goal

pub put-tells : goal.put-tells
put-tells g c = record {
  ok = λ w is. absurd cc;
  failed = c.ensures.failed;
  spoilt = λ w is _. absurd cc;
  memory = λ _. refl;
  memory_counts = λ is. absurd (c.ensures.never_memory is);
  read_faults = c.ensures.read_faults;
  put_faults = c.ensures.put_faults;
  misses = c.ensures.misses;
  given = omega arith;
}
