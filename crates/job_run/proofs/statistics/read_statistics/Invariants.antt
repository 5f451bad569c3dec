-- The reader was fed the first bytes of the file.
use Rattle.std.proofs.Common.{◌≡◌, ◌+◌, ◌-◌, ◌≤◌, length}
use Rattle.geo_outside.specs.declared.whole.TheConstants.{PIECE}
use Rattle.nro_stats.specs.declared.read.TheConstants.{LONGEST_STATS}
use Rattle.job_run.proofs.StatsLemmas.{HasFed}
use Rattle.job_run.proofs.statistics.read_statistics.Given as goal

abbrev pub invariant-loop-fed : goal.invariant-loop-fed
invariant-loop-fed g l =
    let F = g.F.Folder in
    record {
      room : length l.piece ≡ PIECE;
      same : F.told l.folder ≡ F.told l.fn.folder;
      read_faults : F.read_faults l.fn.folder ≤ F.read_faults l.folder;
      put_faults : F.put_faults l.fn.folder ≤ F.put_faults l.folder;
      misses : F.misses l.fn.folder ≤ F.misses l.folder;
      given : F.given l.folder ≤ F.given l.fn.folder + l.fed;
      few : l.fed ≤ LONGEST_STATS;
      read : HasFed l.slot (F.told l.fn.folder) l.name l.reader l.fed;
    }

abbrev pub decreases-loop-fed : goal.decreases-loop-fed
decreases-loop-fed g l = LONGEST_STATS + 1 - l.fed
