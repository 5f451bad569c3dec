use Rattle.std.proofs.Common.{◌++◌, take, drop, sym, ap, ◌∙◌}
use Rattle.std.proofs.lemmas.List.{take_rest}
use Rattle.std.proofs.KnownBytes.{Appends-trans, Appends-kept}
use Rattle.geofeed.proofs.Taken.{more_taken, taken_front, on_err}
use Rattle.geofeed.proofs.whole.write_whole.Goals as goal

pub returns-in_err-taken-clause-part : goal.returns-in_err-taken-clause-part
returns-in_err-taken-clause-part g c =
    let (taken, split, appended) = c.loop-rest.invariant in
    on_err c.from_residual.result (taken_front _ _ _ taken c.loop-rest.rest.now split
    (Appends-kept _ _ _ _ appended c.in_err-taken.ensures.bytes))

pub returns-then-taken-eq0-clause-part : goal.returns-then-taken-eq0-clause-part
returns-then-taken-eq0-clause-part g c =
    let (taken, split, appended) = c.loop-rest.invariant in
    let rest = c.loop-rest.rest.now in
    let n = c.in_ok-taken.taken in
    taken_front _ _ _ (taken ++ take n rest) (drop n rest) (more_taken _ taken rest n split)
    (Appends-trans _ _ _ _ _ appended c.in_ok-taken.ensures.bytes)

pub loop-rest-preserved : goal.loop-rest-preserved
loop-rest-preserved g c =
    let (taken, split, appended) = c.loop-rest.invariant in
    let rest = c.loop-rest.rest.now in
    let n = c.in_ok-taken.taken in
    let front = taken ++ take n rest in (
      front,
      more_taken _ taken rest n split ∙ ap (λ end. front ++ end) (sym (take_rest rest n)),
      Appends-trans _ _ _ _ _ appended c.in_ok-taken.ensures.bytes,
    )
