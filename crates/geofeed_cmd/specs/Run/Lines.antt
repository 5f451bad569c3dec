-- The status and the line of each stop.
use Rattle.std.specs.Prelude.{ℕ, List, [], ◌++◌, codes, decimal}
use Rattle.job_lines.specs.declared.fault.JobFault.{JobFault}
use Rattle.job_lines.specs.declared.fault.JobFault.TheVariants as job_faults
use Rattle.geofeed_cmd.specs.declared.status.Status.{Status}
use Rattle.geofeed_cmd.specs.declared.status.Status.TheVariants as statuses
use Rattle.job_run.specs.declared.stop.Cause.{Cause}
use Rattle.job_run.specs.declared.stop.Cause.TheVariants.{Words, Missing, Job, TooLong, TooMany}
use Rattle.job_run.specs.declared.stop.Cause.TheVariants.{NotThere, NoMark, NoFeed, TooLarge, File}
use Rattle.job_run.specs.declared.stop.Stop.{Stop}
use Rattle.job_run.specs.declared.stop.Stop.TheVariants.{Blocked, ReadFailed, PutFailed, SinkFailed}
use Rattle.job_run.specs.declared.stop.Stop.TheVariants.{Memory}
use Rattle.file_lookup.specs.Lookup.{file_line}

abbrev pub cause_status : Cause → Status
cause_status Words = statuses.Words
cause_status Missing = statuses.Missing
cause_status (Job fault) = statuses.Job
cause_status TooLong = statuses.Source
cause_status TooMany = statuses.Source
cause_status NotThere = statuses.Drop
cause_status NoMark = statuses.Mark
cause_status NoFeed = statuses.Absent
cause_status TooLarge = statuses.TooLarge
cause_status (File fault) = statuses.File

-- the status of a stop
abbrev pub status_of : Stop → Status
status_of (Blocked cause) = cause_status cause
status_of ReadFailed = statuses.ReadFault
status_of PutFailed = statuses.WriteFault
status_of SinkFailed = statuses.WriteFault
status_of Memory = statuses.Memory

abbrev pub job_line : JobFault → List ℕ
job_line job_faults.TooLong = codes "stop job long\n"
job_line job_faults.Utf8 = codes "stop job utf8\n"
job_line (job_faults.Line line) = codes "stop job " ++ (decimal line ++ codes "\n")
job_line job_faults.Epoch = codes "stop job empty\n"
job_line job_faults.Memory = []

-- the line of a stop, at a line of the job and a name
unfoldable pub stop_line : Stop → (line : ℕ) → (name : List ℕ) → List ℕ
stop_line (Blocked Words) line name = codes "stop words\n"
stop_line (Blocked Missing) line name = codes "stop missing " ++ (name ++ codes "\n")
stop_line (Blocked (Job fault)) line name = job_line fault
stop_line (Blocked TooLong) line name = codes "stop source " ++ (decimal line ++ codes " bytes\n")
stop_line (Blocked TooMany) line name =
    codes "stop source " ++ (decimal line ++ codes " statements\n")
stop_line (Blocked NotThere) line name = codes "stop drop " ++ (decimal line ++ codes "\n")
stop_line (Blocked NoMark) line name = codes "stop back " ++ (decimal line ++ codes "\n")
stop_line (Blocked NoFeed) line name = codes "stop absent " ++ (name ++ codes "\n")
stop_line (Blocked TooLarge) line name = codes "stop large " ++ (decimal line ++ codes "\n")
stop_line (Blocked (File fault)) line name = file_line fault
stop_line ReadFailed line name = codes "stop read " ++ (name ++ codes "\n")
stop_line PutFailed line name = codes "stop write " ++ (name ++ codes "\n")
stop_line SinkFailed line name = []
stop_line Memory line name = []
