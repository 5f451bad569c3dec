-- A command that was spoken, and a block that has no feed.
use Rattle.std.proofs.Common.{◌≡◌, Bool, false, ap, sym, ◌∙◌}
use Rattle.std.specs.Prelude.{Some, None, if◌then◌else◌}
use Rattle.job_lines.specs.Commands.{is_plain, publish}
use Rattle.job_lines.specs.SpokenWords.{named}
use Rattle.geofeed_cmd.specs.Run.Plans.{is_command}
use Rattle.geofeed_cmd.proofs.NoCommand.{concludes_words}
use Rattle.geofeed_cmd.proofs.command.do_spoken.Goals as goal

pub returns-in-Lookup : goal.returns-in-Lookup
returns-in-Lookup g c =
    record { leaves = rw c.in-Lookup.is (c.lookup.ensures.leaves c.args.steps.now) }

pub returns-else-is_plain : goal.returns-else-is_plain
returns-else-is_plain g c =
    let known = publish c.in-Publish.name.now c.in-Publish.block c.in-Publish.file.now in
    let plain : is_plain c.in-Publish.block ≡ false =
    sym c.is_plain.ensures.same ∙ c.if-is_plain.false in
    let none : is_command (named c.args.spoken) ≡ false =
    ap (λ s. is_command (named s)) c.in-Publish.is
    ∙ ap (λ (b : Bool). is_command (if b then Some known else None)) plain in
    record {
      leaves = concludes_words g.F.Folder g.O.Sink (named c.args.spoken) c.no_command.result
          c.args.folder.now c.args.out.now c.no_command.new.out c.args.steps.now none
          c.no_command.ensures.stopped;
    }
