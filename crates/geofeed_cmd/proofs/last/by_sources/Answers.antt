-- The answer of a command by its sources from that of its parts.
use Rattle.std.proofs.Common.{◌≡◌, ◌≤◌, ◌+◌, ◌∙◌, ap, arith, inl, inr, refl, rules}
use Rattle.std.specs.FinMap as map
use Rattle.std.specs.Prelude.{Some}
use Rattle.geo_outside.specs.Count.{Rose}
use Rattle.job_run.specs.Moves.{read_rooms}
use Rattle.geofeed_cmd.specs.Commands.Last.{ending_with}
use Rattle.geofeed_cmd.specs.Run.Plans.{held_job, job_room, room_of}
use Rattle.geofeed_cmd.proofs.AnswerLemmas.{comes_earlier, comes_hindered}
use Rattle.geofeed_cmd.proofs.GenEndLemmas.{none_generated}
use Rattle.geofeed_cmd.proofs.LastCommands.{last_hindered, last_planned, least_room, of_job}
use Rattle.geofeed_cmd.proofs.StatusLemmas.{done_answer, status_causes}
use Rattle.geofeed_cmd.proofs.last.by_sources.Goals as goal

pub returns-in-Ok : goal.returns-in-Ok
returns-in-Ok g c =
    let name = c.args.name.now in
    let last = c.args.last.now in
    let known = ending_with name last in
    let its = of_job name last in
    let F = g.F.Folder in
    let O = g.O.Sink in
    let old = c.args.folder.now in
    let new = c.by_job.new.folder in
    record {
      leaves = record {
        comes = λ first told.
            let plan =
            last_planned name last first c.in-Ok.job (c.in-Ok.ensures.job first told) in
            let comes =
            c.by_job.ensures.comes first (c.job_in.ensures.same ∙ told) (Some known) plan in
            comes_earlier c.by_job.result (Some known) first _ _ _ _ _
            c.job_in.ensures.put_faults (rw c.job_in.ensures.same at comes);
        published = λ first told done.
            c.by_job.ensures.published first (c.job_in.ensures.same ∙ told) name
            (last_planned name last first c.in-Ok.job (c.in-Ok.ensures.job first told)) done;
        generates = none_generated _ _ _ _ its.reads;
        ends = record {
          words = λ is. absurd (c.by_job.ensures.signs.not_words is);
          none = λ none. let is = its.is in absurd (cc);
          untouched = λ none. let is = its.is in absurd (cc);
          unput = λ none. (c.by_job.ensures.unput name none).0 ∙ c.job_in.ensures.same;
          still = λ none. c.by_job.ensures.still name none;
          given = λ first told.
              let room : room_of first (Some known) ≡ 1114112 + read_rooms c.in-Ok.job.steps =
              its.room first ∙ ap job_room (c.in-Ok.ensures.job first told) in
              omega arith;
          read = λ is.
              let rose : Rose (F.read_faults c.job_in.new.folder) (F.read_faults new) =
              c.by_job.ensures.signs.read is in omega arith;
          missing = λ is.
              let rose : Rose (F.misses c.job_in.new.folder) (F.misses new) =
              c.by_job.ensures.signs.missing is in omega arith;
          unread = λ none. let is = its.reads in absurd (cc);
          write = λ is. elim (c.by_job.ensures.signs.write is) [
            | inl put ↦ inl
                (let rose : Rose (F.put_faults c.job_in.new.folder) (F.put_faults new) = put in
                omega arith)
            | inr sink ↦ inr sink
          ];
          unprinted = λ none is. (c.by_job.ensures.unput name none).1 is;
        };
      };
    }

pub returns-in-Err : goal.returns-in-Err
returns-in-Err g c =
    let name = c.args.name.now in
    let last = c.args.last.now in
    let its = of_job name last in
    record {
      leaves = record {
        comes = λ first told.
            let steps : c.args.steps.now ≤ c.args.steps.now = omega arith in
            comes_hindered (ending_with name last) name first _ _ _ _ _ its.first c.in-Err.why
            (last_hindered name last first c.in-Err.why (c.in-Err.ensures.none first told))
            (c.job_in.ensures.same ∙ told) c.stop_at.ensures.stopped steps;
        published = λ first told done.
            absurd (done_answer c.in-Err.why c.stop_at.result c.stop_at.ensures.status done);
        generates = none_generated _ _ _ _ its.reads;
        ends = record {
          words = search (rules, status_causes);
          none = λ none. let is = its.is in absurd (cc);
          untouched = λ none. let is = its.is in absurd (cc);
          unput = λ none. c.job_in.ensures.same;
          still = λ none. refl;
          given = λ first told.
              let room = its.room first in
              let least = least_room (held_job (map.get first.held name)) in
              omega arith;
          read = search (rules, status_causes);
          missing = search (rules, status_causes);
          unread = λ none. let is = its.reads in absurd (cc);
          write = search (rules, status_causes);
          unprinted = search (rules, status_causes);
        };
      };
    }
