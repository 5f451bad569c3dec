-- A word that is no URL.
use Rattle.std.proofs.Common.{◌≡◌, ap}
use Rattle.std.specs.Prelude.{None}
use Rattle.job_lines.specs.Acts.{feed_key}
use Rattle.job_lines.specs.Commands.{check_key}
use Rattle.geofeed_cmd.specs.Run.Plans.{is_command}
use Rattle.geofeed_cmd.proofs.NoCommand.{concludes_words}
use Rattle.geofeed_cmd.proofs.commands.check.check.Goals as goal

pub returns-in-Ok-None : goal.returns-in-Ok-None
returns-in-Ok-None g c =
    let name = c.args.name.now in
    let word = c.args.word.now in
    let said = c.in-Ok-None.ensures in
    let is = c.in-Ok-None.field-0-is in
    let none : feed_key word ≡ None = cc in
    record {
      leaves = concludes_words g.F.Folder g.O.Sink (check_key name (feed_key word))
          c.no_command.result c.args.folder.now c.args.out.now c.no_command.new.out
          c.args.steps.now (ap (λ key. is_command (check_key name key)) none)
          c.no_command.ensures.stopped;
    }
