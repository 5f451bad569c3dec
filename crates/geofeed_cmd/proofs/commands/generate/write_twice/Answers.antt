-- What the moves of the generated job leave, from what each call does.
use Rattle.std.proofs.Common.{Err, ap, refl}
use Rattle.job_run.proofs.ActLemmas.{for_ok}
use Rattle.job_run.specs.Seen.{seen}
use Rattle.job_run.specs.Stops.{IsIn}
use Rattle.generated_job.proofs.FreeLemmas.{emits_freely}
use Rattle.generated_job.specs.Job.{first_set, second_set}
use Rattle.geofeed_cmd.specs.Commands.Generate.{emit_step}
use Rattle.geofeed_cmd.proofs.GenEndLemmas.{again, before, comes_generated, outside_alone}
use Rattle.geofeed_cmd.proofs.GenEndLemmas.{possible, set_again, spent_less, spent_twice}
use Rattle.geofeed_cmd.proofs.GenEndLemmas.{stops_again, stops_emit, stops_first, stops_second}
use Rattle.geofeed_cmd.proofs.GenEndLemmas.{with_outside}
use Rattle.geofeed_cmd.proofs.commands.generate.write_twice.Goals as goal

pub returns-in-Err-clause-stopped : goal.returns-in-Err-clause-stopped
returns-in-Err-clause-stopped g c first told =
    stops_first c.args.lines c.requires.few c.args.name.now first
    (seen (g.F.Folder.told c.args.folder.now) (g.O.Sink.written c.args.out.now)
    (g.O.Sink.faults c.args.out.now) c.args.steps.now) _ refl told

pub returns-in-Err-emit-clause-outside : goal.returns-in-Err-emit-clause-outside
returns-in-Err-emit-clause-outside g c =
    outside_alone c.in-Err-emit.why c.in-Err-emit.ensures.causes
    (λ large.
    possible c.standing_stays.ensures (first_set c.args.lines)
    (emits_freely c.args.lines c.requires.few).0 c.set_first.new.session c.in-Ok.ensures
    (c.in-Err-emit.ensures.too_large (ap Err large)))

pub returns-in-Err-emit-clause-stopped : goal.returns-in-Err-emit-clause-stopped
returns-in-Err-emit-clause-stopped g c first told =
    let F = g.F.Folder in
    let O = g.O.Sink in
    let world = before c.args.lines c.requires.few c.args.name.now first in
    let here : IsIn (F.told c.args.folder.now) c.set_first.new.session world =
    record { tells = told; stands = c.in-Ok.ensures } in
    stops_emit c.args.lines c.requires.few c.args.name.now first
    (seen (F.told c.args.folder.now) (O.written c.args.out.now) (O.faults c.args.out.now)
    c.args.steps.now)
    (seen (F.told c.emit.new.folder) (O.written c.emit.new.out) (O.faults c.emit.new.out)
    c.emit.new.steps) c.in-Err-emit.why
    (outside_alone c.in-Err-emit.why c.in-Err-emit.ensures.causes
    (λ large.
    possible c.standing_stays.ensures (first_set c.args.lines)
    (emits_freely c.args.lines c.requires.few).0 c.set_first.new.session c.in-Ok.ensures
    (c.in-Err-emit.ensures.too_large (ap Err large))))
    (c.emit.ensures.paid (emit_step 5 c.args.name.now) world refl here)
    (c.in-Err-emit.ensures.failed (emit_step 5 c.args.name.now) world refl here)

pub returns-in-Err-emit-clause-spent : goal.returns-in-Err-emit-clause-spent
returns-in-Err-emit-clause-spent g c =
    spent_less c.standing_stays.ensures c.args.lines c.set_first.new.session c.in-Ok.ensures
    c.args.steps.now c.emit.new.steps c.emit.ensures.spent

pub returns-in-Err-set_second-clause-spent : goal.returns-in-Err-set_second-clause-spent
returns-in-Err-set_second-clause-spent g c =
    spent_less c.standing_stays.ensures c.args.lines c.set_first.new.session c.in-Ok.ensures
    c.args.steps.now c.emit.new.steps c.emit.ensures.spent

pub returns-in-Err-set_second-clause-stopped : goal.returns-in-Err-set_second-clause-stopped
returns-in-Err-set_second-clause-stopped g c first told =
    let F = g.F.Folder in
    let O = g.O.Sink in
    let world = before c.args.lines c.requires.few c.args.name.now first in
    let here : IsIn (F.told c.args.folder.now) c.set_first.new.session world =
    record { tells = told; stands = c.in-Ok.ensures } in
    stops_second c.args.lines c.requires.few c.args.name.now first c.emit.new.session
    (seen (F.told c.args.folder.now) (O.written c.args.out.now) (O.faults c.args.out.now)
    c.args.steps.now)
    (seen (F.told c.emit.new.folder) (O.written c.emit.new.out) (O.faults c.emit.new.out)
    c.emit.new.steps)
    (c.emit.ensures.paid (emit_step 5 c.args.name.now) world refl here)
    (c.in-Ok-emit.ensures.done (emit_step 5 c.args.name.now) world refl here) _ refl

pub returns-clause-done : goal.returns-clause-done
returns-clause-done g c first told =
    let F = g.F.Folder in
    let O = g.O.Sink in
    let file = c.args.name.now in
    let stays = c.standing_stays.ensures in
    let world = before c.args.lines c.requires.few file first in
    let later = again c.args.lines c.requires.few file first in
    let here : IsIn (F.told c.args.folder.now) c.set_first.new.session world =
    record { tells = told; stands = c.in-Ok.ensures } in
    let old = seen (F.told c.args.folder.now) (O.written c.args.out.now) (O.faults c.args.out.now)
    c.args.steps.now in
    let mid = seen (F.told c.emit.new.folder) (O.written c.emit.new.out) (O.faults c.emit.new.out)
    c.emit.new.steps in
    let paid = c.emit.ensures.paid (emit_step 5 file) world refl here in
    let made = c.in-Ok-emit.ensures.done (emit_step 5 file) world refl here in
    let stands = set_again stays c.args.lines c.set_first.new.session c.in-Ok.ensures
    c.emit.new.session c.set_second.new.session c.in-Ok-emit.ensures.grown
    c.in-Ok-emit.ensures.emitted c.in-Ok-set_second.ensures in
    let there : IsIn (F.told c.emit.new.folder) c.set_second.new.session later =
    record { tells = made.now.tells; stands = stands } in
    for_ok c.emit-2.result _ _ (c.emit-2.ensures.done (emit_step 7 file) later refl there)
    (λ last.
    comes_generated c.args.lines c.requires.few file first c.emit.new.session old mid paid made
    c.emit-2.new.session
    (seen (F.told c.emit-2.new.folder) (O.written c.emit-2.new.out) (O.faults c.emit-2.new.out)
    c.emit-2.new.steps) (c.emit-2.ensures.paid (emit_step 7 file) later refl there) last)

pub returns-clause-stopped : goal.returns-clause-stopped
returns-clause-stopped g c first told =
    let F = g.F.Folder in
    let O = g.O.Sink in
    let file = c.args.name.now in
    let stays = c.standing_stays.ensures in
    let world = before c.args.lines c.requires.few file first in
    let later = again c.args.lines c.requires.few file first in
    let here : IsIn (F.told c.args.folder.now) c.set_first.new.session world =
    record { tells = told; stands = c.in-Ok.ensures } in
    let old = seen (F.told c.args.folder.now) (O.written c.args.out.now) (O.faults c.args.out.now)
    c.args.steps.now in
    let mid = seen (F.told c.emit.new.folder) (O.written c.emit.new.out) (O.faults c.emit.new.out)
    c.emit.new.steps in
    let paid = c.emit.ensures.paid (emit_step 5 file) world refl here in
    let made = c.in-Ok-emit.ensures.done (emit_step 5 file) world refl here in
    let stands = set_again stays c.args.lines c.set_first.new.session c.in-Ok.ensures
    c.emit.new.session c.set_second.new.session c.in-Ok-emit.ensures.grown
    c.in-Ok-emit.ensures.emitted c.in-Ok-set_second.ensures in
    let there : IsIn (F.told c.emit.new.folder) c.set_second.new.session later =
    record { tells = made.now.tells; stands = stands } in
    with_outside stays (second_set c.args.lines) (emits_freely c.args.lines c.requires.few).1
    c.set_second.new.session stands c.emit-2.result _ _ c.emit-2.ensures.causes
    c.emit-2.ensures.too_large (c.emit-2.ensures.failed (emit_step 7 file) later refl there)
    (λ why outside fails.
    stops_again c.args.lines c.requires.few file first c.emit.new.session old mid paid made
    (seen (F.told c.emit-2.new.folder) (O.written c.emit-2.new.out) (O.faults c.emit-2.new.out)
    c.emit-2.new.steps) why outside
    (c.emit-2.ensures.paid (emit_step 7 file) later refl there) fails)

pub returns-clause-outside : goal.returns-clause-outside
returns-clause-outside g c =
    let stays = c.standing_stays.ensures in
    let stands = set_again stays c.args.lines c.set_first.new.session c.in-Ok.ensures
    c.emit.new.session c.set_second.new.session c.in-Ok-emit.ensures.grown
    c.in-Ok-emit.ensures.emitted c.in-Ok-set_second.ensures in
    with_outside stays (second_set c.args.lines) (emits_freely c.args.lines c.requires.few).1
    c.set_second.new.session stands c.emit-2.result _ _ c.emit-2.ensures.causes
    c.emit-2.ensures.too_large c.emit-2.ensures.causes (λ why outside causes. outside)

pub returns-clause-spent : goal.returns-clause-spent
returns-clause-spent g c =
    let stays = c.standing_stays.ensures in
    let stands = set_again stays c.args.lines c.set_first.new.session c.in-Ok.ensures
    c.emit.new.session c.set_second.new.session c.in-Ok-emit.ensures.grown
    c.in-Ok-emit.ensures.emitted c.in-Ok-set_second.ensures in
    spent_twice stays c.args.lines c.set_first.new.session c.in-Ok.ensures c.set_second.new.session
    stands c.args.steps.now c.emit.new.steps c.emit-2.new.steps c.emit.ensures.spent
    c.emit-2.ensures.spent
