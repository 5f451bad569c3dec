use Rattle.std.proofs.Common.{◌∷◌, [], ◌++◌, refl, append-nil}
use Rattle.geofeed.specs.DiskCalls.{filled, synced, last_mode, preparing}
use Rattle.geofeed.proofs.Puts.{adds_then, adds_no_more, map_ok, map_err}
use Rattle.geofeed.proofs.Taken.{on_err}
use Rattle.geofeed.proofs.disk.complete.Goals as goal

pub returns-in_err-set_last_mode-clause-err : goal.returns-in_err-set_last_mode-clause-err
returns-in_err-set_last_mode-clause-err g c =
    let rest = last_mode c.args.mode ++ synced ∷ [] in
    let done = adds_no_more c.in_ok-fill.ensures.ok c.in_err-set_last_mode.ensures.err in
    on_err c.from_residual-in_err-set_last_mode.result
    (filled c.args.bytes.now ∷ [], (rest, refl), done)

pub returns-in_err-sync-clause-err : goal.returns-in_err-sync-clause-err
returns-in_err-sync-clause-err g c =
    let part = filled c.args.bytes.now ∷ last_mode c.args.mode in
    let done = adds_no_more (adds_then _ _ c.in_ok-fill.ensures.ok c.in_ok-set_last_mode.ensures.ok)
    c.in_err-sync.ensures.err in
    on_err c.from_residual-in_err-sync.result (part, (synced ∷ [], refl), done)

pub returns-clause-ok : goal.returns-clause-ok
returns-clause-ok g c =
    let done = adds_then _ _ c.in_ok-fill.ensures.ok
    (adds_then _ _ c.in_ok-set_last_mode.ensures.ok c.in_ok-sync.ensures.ok) in
    map_ok c.rename.result (λ renames. adds_then _ _ done renames) c.rename.ensures.ok

pub returns-clause-err : goal.returns-clause-err
returns-clause-err g c =
    let all = preparing c.args.mode c.args.bytes.now in
    let done = adds_then _ _ c.in_ok-fill.ensures.ok
    (adds_then _ _ c.in_ok-set_last_mode.ensures.ok c.in_ok-sync.ensures.ok) in
    map_err c.rename.result
    (λ same. (all, ([], append-nil all), adds_no_more done same)) c.rename.ensures.err
