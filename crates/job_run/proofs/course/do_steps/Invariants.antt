use Rattle.std.proofs.Common.{◌≡◌, ◌+◌, ◌-◌, ◌≤◌, drop, length}
use Rattle.job_run.specs.Moves.{read_rooms}
use Rattle.job_run.specs.Parts.{DoesFirst}
use Rattle.job_run.specs.Seen.{seen}
use Rattle.job_run.specs.Stops.{IsIn}
use Rattle.job_run.specs.World.{World}
use Rattle.job_run.specs.declared.scope.Scope.TheVariants.{Sources}
use Rattle.job_run.proofs.course.do_steps.Given as goal

-- the lines before this index were done
abbrev pub invariant-loop-at : goal.invariant-loop-at
invariant-loop-at g l =
    let F = g.F.Folder in
    let O = g.O.Sink in
    record {
      within : l.at ≤ length l.job;
      does : (start : World) → IsIn (F.told l.fn.folder) l.fn.session start
          → DoesFirst l.scope l.job l.at start l.session
          (seen (F.told l.fn.folder) (O.written l.fn.out) (O.faults l.fn.out) l.fn.steps)
          (seen (F.told l.folder) (O.written l.out) (O.faults l.out) l.steps);
      read_faults : F.read_faults l.fn.folder ≤ F.read_faults l.folder;
      put_faults : F.put_faults l.fn.folder ≤ F.put_faults l.folder;
      misses : F.misses l.fn.folder ≤ F.misses l.folder;
      faults : O.faults l.fn.out ≤ O.faults l.out;
      given : F.given l.folder + read_rooms
          (drop l.at l.job) ≤ F.given l.fn.folder + read_rooms l.job;
      still : l.scope ≡ Sources → (l.steps ≡ l.fn.steps) × (l.out ≡ l.fn.out)
          × (F.told l.folder ≡ F.told l.fn.folder);
    }

abbrev pub decreases-loop-at : goal.decreases-loop-at
decreases-loop-at g l = length l.job - l.at
