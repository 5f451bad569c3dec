-- The answer of `build` from that of its parts.
use Rattle.std.proofs.Common.{◌≤◌, ◌∙◌, ap, arith, refl, rules}
use Rattle.std.specs.FinMap as map
use Rattle.std.specs.Prelude.{Some}
use Rattle.job_lines.specs.Commands.{build}
use Rattle.geofeed_cmd.specs.Run.Plans.{job_plan}
use Rattle.geofeed_cmd.proofs.AnswerLemmas.{comes_earlier, comes_hindered, hindered_job}
use Rattle.geofeed_cmd.proofs.GenEndLemmas.{none_generated}
use Rattle.geofeed_cmd.proofs.StatusLemmas.{status_causes}
use Rattle.geofeed_cmd.proofs.commands.build.build.Goals as goal

pub returns-in-Ok : goal.returns-in-Ok
returns-in-Ok g c =
    let known = build c.args.name.now in
    record {
      leaves = record {
        comes = λ first told.
            let plan = ap (job_plan known first c.args.name.now) (c.in-Ok.ensures.job first told) in
            let comes =
            c.do_job.ensures.comes first (c.job_in.ensures.same ∙ told) (Some known) plan in
            comes_earlier c.do_job.result (Some known) first _ _ _ _ _
            c.job_in.ensures.put_faults (rw c.job_in.ensures.same at comes);
        published = λ first told done. tt;
        generates = none_generated _ _ _ _ refl;
        ends = search (rules, status_causes);
      };
    }

pub returns-in-Err : goal.returns-in-Err
returns-in-Err g c =
    let known = build c.args.name.now in
    record {
      leaves = record {
        comes = λ first told.
            let steps : c.args.steps.now ≤ c.args.steps.now = omega arith in
            comes_hindered known c.args.name.now first _ _ _ _ _ refl c.in-Err.why
            (hindered_job known first c.args.name.now c.in-Err.why
            (map.get first.held c.args.name.now) (c.in-Err.ensures.none first told))
            (c.job_in.ensures.same ∙ told) c.stop_at.ensures.stopped steps;
        published = λ first told done. tt;
        generates = none_generated _ _ _ _ refl;
        ends = search (rules, status_causes);
      };
    }
