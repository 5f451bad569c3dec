use Rattle.std.proofs.Common.{◌≡◌, ◌+◌, ◌≤◌, Some, drop, length, take}
use Rattle.std.specs.List.{AllZip}
use Rattle.geo_outside.specs.Files.{Told}
use Rattle.job_run.specs.Feeds.{IsRead}
use Rattle.job_run.specs.Moves.{read_rooms}
use Rattle.job_run.proofs.feeds.read_all.Given as goal

-- the files of the lines before this index were read
abbrev pub invariant-loop-at : goal.invariant-loop-at
invariant-loop-at g l =
    let F = g.F.Folder in
    record {
      read : (w : Told) → F.told l.fn.folder ≡ Some w
          → AllZip (IsRead w) (take l.at l.group) l.all.items;
      long : length l.all.items ≡ l.at;
      same : F.told l.folder ≡ F.told l.fn.folder;
      read_faults : F.read_faults l.fn.folder ≤ F.read_faults l.folder;
      put_faults : F.put_faults l.fn.folder ≤ F.put_faults l.folder;
      misses : F.misses l.fn.folder ≤ F.misses l.folder;
      given : F.given l.folder + read_rooms
          (drop l.at l.group) ≤ F.given l.fn.folder + read_rooms l.group;
    }
