-- The answer of a command by its sources from that of its last move.
use Rattle.std.proofs.Common.{inl, inr, refl, ◌∙◌, arith}
use Rattle.geo_outside.specs.Count.{Rose}
use Rattle.job_run.specs.Moves.{source_moves}
use Rattle.job_run.specs.Seen.{seen}
use Rattle.geofeed_cmd.specs.Commands.Last.{last_move}
use Rattle.geofeed_cmd.specs.Run.Plans.{start_of}
use Rattle.geofeed_cmd.proofs.FeedLemmas.{leaves_last}
use Rattle.geofeed_cmd.proofs.LastCommands.{last_named}
use Rattle.geofeed_cmd.proofs.LastLemmas.{comes_last, comes_unmade}
use Rattle.geofeed_cmd.proofs.StatusLemmas.{done_answer, missing_answer, read_answer, words_answer}
use Rattle.geofeed_cmd.proofs.StatusLemmas.{write_answer}
use Rattle.geofeed_cmd.proofs.last.by_job.Goals as goal

pub returns-in-Ok-made-clause-comes : goal.returns-in-Ok-made-clause-comes
returns-in-Ok-made-clause-comes g c =
    λ first told command plan.
    let F = g.F.Folder in
    let O = g.O.Sink in
    let after = c.make_last-made.new in
    let all = c.in-Ok.ensures.ok first told in
    comes_last command first (source_moves c.args.job.steps) (last_move c.args.last.now)
    (start_of first c.args.job) plan refl _ _ _ all
    after.session
    (seen (F.told after.folder) (O.written after.out) (O.faults after.out) after.steps)
    (c.make_last-made.ensures.paid all.world all.stands)
    (c.in-Ok-made.ensures.done all.world all.stands)

pub returns-in-Ok-made-clause-published : goal.returns-in-Ok-made-clause-published
returns-in-Ok-made-clause-published g c =
    λ first told name plan done.
    let all = c.in-Ok.ensures.ok first told in
    leaves_last name c.args.last.now first c.args.job.steps (start_of first c.args.job) plan
    _ _ _ all (g.F.Folder.told c.make_last-made.new.folder)
    (c.in-Ok-made.ensures.leaves all.world.told all.stands.tells)

pub returns-in-Err-made-clause-published : goal.returns-in-Err-made-clause-published
returns-in-Err-made-clause-published g c =
    λ first told name plan done.
    absurd (done_answer c.in-Err-made.why c.stop_at.result c.stop_at.ensures.status done)

pub returns-in-Err-made-clause-comes : goal.returns-in-Err-made-clause-comes
returns-in-Err-made-clause-comes g c =
    λ first told command plan.
    let F = g.F.Folder in
    let O = g.O.Sink in
    let after = c.make_last-made.new in
    let last = c.args.last.now in
    let all = c.in-Ok.ensures.ok first told in
    let why = c.in-Err-made.why in
    let puts = c.sources_of.ensures.put_faults in
    let before = c.sources_of.ensures.faults in
    let then = c.make_last-made.ensures.faults in
    let later = c.stop_at.ensures.faults in
    let named = c.name_of.ensures ∙ last_named last all.world in
    comes_unmade command first (source_moves c.args.job.steps) (last_move last)
    (start_of first c.args.job) plan refl _ _ _ all why c.stop_at.result
    (seen (F.told after.folder) (O.written after.out) (O.faults after.out) after.steps)
    (O.written c.stop_at.new.out) (O.faults c.stop_at.new.out)
    c.name_of.result.now refl named
    (c.make_last-made.ensures.paid all.world all.stands)
    (c.in-Err-made.ensures.failed all.world all.stands)
    c.stop_at.ensures.stopped (omega arith) _ _
    (λ put.
    let rose : Rose (F.put_faults c.sources_of.new.folder) (F.put_faults after.folder) =
    c.make_last-made.ensures.put_failed (cc) in omega arith)
    (λ sink. let rose : Rose (O.faults c.sources_of.new.out) (O.faults after.out) =
    c.make_last-made.ensures.sink_failed (cc) in omega arith)

pub returns-in-Err-made-clause-signs : goal.returns-in-Err-made-clause-signs
returns-in-Err-made-clause-signs g c =
    let F = g.F.Folder in
    let O = g.O.Sink in
    let after = c.make_last-made.new in
    let why = c.in-Err-made.why in
    let not = c.in-Err-made.ensures.reads_nothing in
    let is = c.stop_at.ensures.status in
    let status = c.stop_at.result in
    let puts = c.sources_of.ensures.put_faults in
    let before = c.sources_of.ensures.faults in
    let later = c.stop_at.ensures.faults in
    record {
      not_words = λ words. not.2 (words_answer why status is words);
      read = λ read. absurd (not.0 (read_answer why status is read));
      missing = λ missing. absurd (not.1 (missing_answer why status is missing));
      write = λ write. elim (write_answer why status is write) [
        | inl put ↦ inl
            (let rose : Rose (F.put_faults c.sources_of.new.folder) (F.put_faults after.folder) =
            c.make_last-made.ensures.put_failed (cc) in omega arith)
        | inr sink ↦ inr
            (let rose : Rose (O.faults c.sources_of.new.out) (O.faults after.out) =
            c.make_last-made.ensures.sink_failed (cc) in omega arith)
      ];
    }

pub returns-in-Err-made-clause-unput : goal.returns-in-Err-made-clause-unput
returns-in-Err-made-clause-unput g c =
    λ name none.
    let F = g.F.Folder in
    let O = g.O.Sink in
    let after = c.make_last-made.new in
    let why = c.in-Err-made.why in
    let before = c.sources_of.ensures.faults in
    let later = c.stop_at.ensures.faults in
    let quiet = c.make_last-made.ensures.unput name none in (
      quiet.0 ∙ c.sources_of.ensures.unput,
      λ write.
          elim (write_answer why c.stop_at.result c.stop_at.ensures.status write) [
            | inl put ↦ absurd (quiet.1 (cc))
            | inr sink ↦
                let rose : Rose (O.faults c.sources_of.new.out) (O.faults after.out) =
                c.make_last-made.ensures.sink_failed (cc) in omega arith
          ],
    )

pub returns-in-Err-made-clause-still : goal.returns-in-Err-made-clause-still
returns-in-Err-made-clause-still g c =
    λ name none. c.make_last-made.ensures.still name none ∙ c.sources_of.ensures.still

pub returns-in-Ok-made-clause-unput : goal.returns-in-Ok-made-clause-unput
returns-in-Ok-made-clause-unput g c =
    λ name none.
    ((c.make_last-made.ensures.unput name none).0 ∙ c.sources_of.ensures.unput, λ is. absurd (cc))

pub returns-in-Ok-made-clause-still : goal.returns-in-Ok-made-clause-still
returns-in-Ok-made-clause-still g c =
    λ name none. c.make_last-made.ensures.still name none ∙ c.sources_of.ensures.still
