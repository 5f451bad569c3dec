-- How a stop comes out where its line is printed, and where there is no memory for the line.
use Rattle.std.specs.Prelude.{◌≡◌, ℕ, ◌⊎◌, List, [], Option}
use Rattle.job_run.specs.declared.stop.Stop.{Stop}
use Rattle.job_run.specs.declared.stop.Stop.TheVariants.{Blocked, ReadFailed, PutFailed, SinkFailed}
use Rattle.job_run.specs.declared.stop.Stop.TheVariants.{Memory}
use Rattle.geofeed_cmd.specs.declared.status.Status.{Status}
use Rattle.geofeed_cmd.specs.declared.status.Status.TheVariants as statuses
use Rattle.geofeed_cmd.specs.Run.Closes.{Closes}
use Rattle.geofeed_cmd.specs.Run.Lines.{status_of, stop_line}

-- a stop comes out as itself, or as want of memory where nothing was put or printed
abbrev pub ComesAs : (why out : Stop) → Type 0
ComesAs (Blocked cause) out = (out ≡ Blocked cause) ⊎ (out ≡ Memory)
ComesAs ReadFailed out = (out ≡ ReadFailed) ⊎ (out ≡ Memory)
ComesAs PutFailed out = out ≡ PutFailed
ComesAs SinkFailed out = out ≡ SinkFailed
ComesAs Memory out = out ≡ Memory

-- what stands behind a stop: its line; behind a put that failed, its line or nothing
abbrev pub ClosesAt : Stop → (old new : Option (List ℕ))
    → (faults faults_now : ℕ) → (line : List ℕ) → Type 0
ClosesAt (Blocked cause) old new faults faults_now line = Closes old new faults faults_now [] line
ClosesAt ReadFailed old new faults faults_now line = Closes old new faults faults_now [] line
ClosesAt PutFailed old new faults faults_now line =
    Closes old new faults faults_now [] line ⊎ (new ≡ old)
ClosesAt SinkFailed old new faults faults_now line = Closes old new faults faults_now [] line
ClosesAt Memory old new faults faults_now line = Closes old new faults faults_now [] line

-- a stop was answered by the status of what it came out as, and the line of that was printed
pub record IsStopped (why : Stop) (status : Status) (old new : Option (List ℕ))
    (faults faults_now : ℕ) (line : ℕ) (name : List ℕ) : Type 0 where
  pub out : Stop
  pub comes : ComesAs why out
  pub same : status ≡ status_of out
  pub closes : ClosesAt out old new faults faults_now (stop_line out line name)

-- the status of a stop, or `Memory`
abbrev pub IsStatusOf : Stop → Status → Type 0
IsStatusOf why status = (status ≡ status_of why) ⊎ (status ≡ statuses.Memory)
