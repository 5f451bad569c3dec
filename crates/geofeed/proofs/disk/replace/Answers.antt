use Rattle.std.proofs.Common.{◌∷◌, [], ◌++◌, subst, ℕ, List, string_bytes}
use Rattle.geofeed.specs.DiskCalls.{looked, made, renamed, removed, first_mode, preparing}
use Rattle.geofeed.specs.DiskCalls.{none_done}
use Rattle.geofeed.specs.DiskCalls.{only_looked, given_up, Adds}
use Rattle.geofeed.proofs.Puts.{adds_none, adds_no_more, adds_then}
use Rattle.geofeed.proofs.Taken.{on_err}
use Rattle.geofeed.proofs.disk.replace.Goals as goal

pub returns-in_err-mode-clause-err : goal.returns-in_err-mode-clause-err
returns-in_err-mode-clause-err g c =
    on_err c.from_residual.result ([], none_done, adds_none c.in_err-mode.ensures.err)

pub returns-in_err-new_name-clause-err : goal.returns-in_err-new_name-clause-err
returns-in_err-new_name-clause-err g c =
    let mode = c.in_ok-mode.mode in
    let done = adds_no_more c.in_ok-mode.ensures.ok c.in_err-new_name.ensures.err in
    on_err c.from_residual-in_err-new_name.result
    (looked c.args.name.now mode ∷ [], only_looked mode, done)

pub returns-in-Ok-clause-ok : goal.returns-in-Ok-clause-ok
returns-in-Ok-clause-ok g c =
    let name = c.args.name.now in
    let mode = c.in_ok-mode.mode in
    let new = string_bytes c.in_ok-new_name.new_name in
    let ready = preparing mode c.args.bytes.now in
    let made_so =
    subst (λ (m : ℕ). Adds (g.D.Disk.calls c.look.new.self) (g.D.Disk.calls c.make_beside.new.disk)
    (made new m ∷ [])) c.mode_at_first.ensures c.in_ok-new_name.ensures.ok in
    let renamed_so = subst (λ (n : List ℕ). Adds (g.D.Disk.calls c.make_beside.new.disk)
    (g.D.Disk.calls c.complete.new.disk) (ready ++ renamed n name ∷ [])) c.as_str.ensures.value
    c.in-Ok.ensures.ok in
    (mode, new, adds_then _ _ c.in_ok-mode.ensures.ok (adds_then _ _ made_so renamed_so))

pub returns-clause-err : goal.returns-clause-err
returns-clause-err g c =
    let mode = c.in_ok-mode.mode in
    let new = string_bytes c.in_ok-new_name.new_name in
    let (part, front, done) = c.in-Err.ensures.err in
    let made_so =
    subst (λ (m : ℕ). Adds (g.D.Disk.calls c.look.new.self) (g.D.Disk.calls c.make_beside.new.disk)
    (made new m ∷ [])) c.mode_at_first.ensures c.in_ok-new_name.ensures.ok in
    let removed_so = subst (λ (n : List ℕ). Adds (g.D.Disk.calls c.complete.new.disk)
    (g.D.Disk.calls c.remove.new.self) (removed n ∷ [])) c.as_str-in-Err.ensures.value
    c.remove.ensures in
    let calls =
    looked c.args.name.now mode ∷ made new (first_mode mode) ∷ (part ++ removed new ∷ []) in (
      calls,
      given_up mode new part front,
      adds_then _ _ c.in_ok-mode.ensures.ok (adds_then _ _ made_so (adds_then _ _ done removed_so)),
    )
