-- Words that are no command.
use Rattle.std.proofs.Common.{ap}
use Rattle.std.specs.Prelude.{map, string_bytes}
use Rattle.job_lines.specs.Commands.{command_of}
use Rattle.geofeed_cmd.specs.Run.Plans.{is_command}
use Rattle.geofeed_cmd.proofs.NoCommand.{concludes_words}
use Rattle.geofeed_cmd.proofs.command.run_told.Goals as goal

pub returns-in-Err : goal.returns-in-Err
returns-in-Err g c = record {
  leaves = concludes_words g.F.Folder g.O.Sink (command_of (map string_bytes c.args.words.now))
      c.no_command.result c.args.folder.now c.args.out.now c.no_command.new.out c.args.steps.now
      (ap is_command c.in-Err.ensures) c.no_command.ensures.stopped;
}
