-- How a command comes out where nothing outside of it fails.
use Rattle.std.specs.Prelude.{ℕ, List, [], Option}
use Rattle.geo_outside.specs.Files.{Told}
use Rattle.job_run.specs.declared.stop.Stop.TheVariants.{Blocked}
use Rattle.job_run.specs.Acts.{effect, line_of}
use Rattle.job_run.specs.Course.{Outcome, ended, stopped, course}
use Rattle.job_lines.specs.Commands.{Command}
use Rattle.geofeed_cmd.specs.declared.status.Status.{Status}
use Rattle.geofeed_cmd.specs.declared.status.Status.TheVariants as statuses
use Rattle.geofeed_cmd.specs.Run.Lines.{status_of, stop_line}
use Rattle.geofeed_cmd.specs.Run.Plans.{Plan, refused, planned, plan_of}

-- how a command comes out: its status, what the folder tells then, the text that is printed, the
-- stop line behind it, and how many steps may be taken
pub record Ending : Type 0 where
  pub status : Status
  pub told : Told
  pub text : List ℕ
  pub line : List ℕ
  pub spent : ℕ

abbrev pub ending_of : Outcome → Ending
ending_of (ended world) = record {
  status = statuses.Done;
  told = world.told;
  text = world.text;
  line = [];
  spent = world.session.spent;
}
ending_of (stopped move why world) = record {
  status = status_of (Blocked why);
  told = world.told;
  text = world.text;
  line = stop_line (Blocked why) (line_of move) (effect move world).name;
  spent = (effect move world).session.spent;
}

abbrev pub ending_by : Told → Plan → Ending
ending_by first (refused why name) = record {
  status = status_of (Blocked why);
  told = first;
  text = [];
  line = stop_line (Blocked why) 0 name;
  spent = 0;
}
ending_by first (planned moves start) = ending_of (course moves start)

-- how a command comes out where the folder first tells this
abbrev pub ending : Told → Option Command → Ending
ending first command = ending_by first (plan_of first command)
