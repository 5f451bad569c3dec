-- The reader was fed the first bytes of the file.
use Rattle.std.proofs.Common.{◌≡◌, ◌+◌, ◌-◌, ◌≤◌, length}
use Rattle.geo_outside.specs.declared.whole.TheConstants.{PIECE}
use Rattle.feed_refs.specs.declared.limits.TheConstants.{LONGEST_DUMP}
use Rattle.job_run.proofs.DumpLemmas.{HasRead}
use Rattle.job_run.proofs.dumps.read_dump.Given as goal

abbrev pub invariant-loop-fed : goal.invariant-loop-fed
invariant-loop-fed g l =
    let F = g.F.Folder in
    record {
      room : length l.piece ≡ PIECE;
      same : F.told l.folder ≡ F.told l.fn.folder;
      read_faults : F.read_faults l.fn.folder ≤ F.read_faults l.folder;
      put_faults : F.put_faults l.fn.folder ≤ F.put_faults l.folder;
      misses : F.misses l.fn.folder ≤ F.misses l.folder;
      given : F.given l.folder ≤ F.given l.fn.folder + l.fed;
      few : l.fed ≤ LONGEST_DUMP + PIECE;
      read : HasRead l.slot (F.told l.fn.folder) l.name l.reader l.fed;
    }

abbrev pub decreases-loop-fed : goal.decreases-loop-fed
decreases-loop-fed g l = 1099511627776 + 1 - l.fed
