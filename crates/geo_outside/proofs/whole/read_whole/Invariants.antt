use Rattle.std.proofs.Common.{◌≡◌, ◌+◌, ◌-◌, ◌≤◌, vec_len, length}
use Rattle.std.specs.Prelude.{Some}
use Rattle.std.specs.FinMap as map
use Rattle.geo_outside.specs.Files.{Told}
use Rattle.geo_outside.proofs.Reading.{AreFirst}
use Rattle.geo_outside.proofs.whole.read_whole.Given as goal

abbrev pub invariant-loop-piece : goal.invariant-loop-piece
invariant-loop-piece g l =
    let F = g.F.Folder in
    record {
      room : length l.piece ≡ 65536;
      same : F.told l.folder ≡ F.told l.fn.folder;
      read_faults : F.read_faults l.fn.folder ≤ F.read_faults l.folder;
      put_faults : F.put_faults l.fn.folder ≤ F.put_faults l.folder;
      misses : F.misses l.fn.folder ≤ F.misses l.folder;
      given : F.given l.folder ≤ F.given l.fn.folder + vec_len l.bytes;
      few : vec_len l.bytes ≤ l.limit + 65536;
      first : (w : Told) → F.told l.fn.folder ≡ Some w
          → AreFirst (map.get w.held l.name) l.bytes.items;
    }

abbrev pub decreases-loop-piece : goal.decreases-loop-piece
decreases-loop-piece g l = l.limit + 1 - vec_len l.bytes
