-- What follows from what there is at each answer.
use Rattle.std.specs.Prelude.{map, string_bytes}
use Rattle.geofeed_cmd.specs.declared.status.Status.TheVariants as statuses
use Rattle.job_lines.specs.Commands.{command_of}
use Rattle.geofeed_cmd.proofs.AnswerLemmas.{answered}
use Rattle.geofeed_cmd.proofs.CauseLemmas.{caused, certain}
use Rattle.geofeed_cmd.proofs.HeadlineLemmas.{done_of, least_by_value, no_fault, published_at}
use Rattle.geofeed_cmd.proofs.command.run.Goals as goal

pub returns-clause-done : goal.returns-clause-done
returns-clause-done g c =
    λ first told done. done_of c.run_told.result (command_of (map string_bytes c.args.words.now))
    first _ _ _ _ done (c.run_told.ensures.leaves.comes first told)

pub returns-clause-headline : goal.returns-clause-headline
returns-clause-headline g c =
    λ first told done step name world there emits.
    published_at (command_of (map string_bytes c.args.words.now)) first _ _
    (done_of c.run_told.result (command_of (map string_bytes c.args.words.now)) first _ _ _ _ done
    (c.run_told.ensures.leaves.comes first told)) step name world there emits

pub returns-clause-by_value : goal.returns-clause-by_value
returns-clause-by_value g c =
    λ first told done step name world there emits.
    least_by_value world.session.state
    (published_at (command_of (map string_bytes c.args.words.now)) first _ _
    (done_of c.run_told.result (command_of (map string_bytes c.args.words.now)) first _ _ _ _ done
    (c.run_told.ensures.leaves.comes first told)) step name world there emits)

pub returns-clause-exact : goal.returns-clause-exact
returns-clause-exact g c =
    λ first told. answered c.run_told.result (command_of (map string_bytes c.args.words.now)) first
    _ _ _ _ (c.run_told.ensures.leaves.comes first told)

pub returns-clause-caused : goal.returns-clause-caused
returns-clause-caused g c =
    λ first told.
    caused (command_of (map string_bytes c.args.words.now)) first c.run_told.result
    (answered c.run_told.result (command_of (map string_bytes c.args.words.now)) first _ _ _ _
    (c.run_told.ensures.leaves.comes first told))

pub returns-clause-certain : goal.returns-clause-certain
returns-clause-certain g c =
    λ first told status cause.
    certain (command_of (map string_bytes c.args.words.now)) first c.run_told.result
    (answered c.run_told.result (command_of (map string_bytes c.args.words.now)) first _ _ _ _
    (c.run_told.ensures.leaves.comes first told)) status cause

pub returns-clause-complete : goal.returns-clause-complete
returns-clause-complete g c =
    λ first told free cheap unread unwritten unprinted.
    no_fault (command_of (map string_bytes c.args.words.now)) first c.run_told.result cheap _ _ _
    c.run_told.ensures.leaves.ends.read c.run_told.ensures.leaves.ends.write
    unread unwritten unprinted
    (certain (command_of (map string_bytes c.args.words.now)) first c.run_told.result
    (answered c.run_told.result (command_of (map string_bytes c.args.words.now)) first _ _ _ _
    (c.run_told.ensures.leaves.comes first told)) statuses.Done free)
