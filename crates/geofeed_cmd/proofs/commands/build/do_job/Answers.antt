-- The answer of a job from that of its lines.
use Rattle.std.proofs.Common.{refl, sym, ◌∙◌, ap, List}
use Rattle.job_lines.specs.declared.job.Step.{Step}
use Rattle.job_run.specs.Moves.{moves_of}
use Rattle.geofeed_cmd.specs.Run.Plans.{start_of, planned}
use Rattle.geofeed_cmd.proofs.commands.build.do_job.Goals as goal

pub returns-clause-comes : goal.returns-clause-comes
returns-clause-comes g c =
    λ first told command plan.
    let start = start_of first c.args.job in
    let meta = c.args.job.meta in
    let begun =
    c.standing_stays.ensures.begins meta.epoch meta.name c.in-Ok.session c.in-Ok.ensures in
    let planned_here =
    plan ∙ ap (λ (list : List Step). planned (moves_of list) start) (sym c.as_slice-list.ensures) in
    c.do_whole-status.ensures.comes first command start planned_here
    (record { tells = told; stands = begun }) refl refl
