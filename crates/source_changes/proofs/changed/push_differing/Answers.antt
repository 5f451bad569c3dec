use Rattle.std.proofs.Common.{◌≤◌, ◌⊎◌, ◌∙◌, ◌++◌, length, map, ap, inl, inr, arith, Bor}
use Rattle.source_changes.specs.Sorting.{whole_cmp}
use Rattle.source_changes.specs.Touched.{ground_of}
use Rattle.source_changes.proofs.Found.{rest_all, rest_is}
use Rattle.source_changes.proofs.changed.push_differing.Goals as goal
use Rattle.source_changes.proofs.changed.push_differing.Goals.{then-loop-i-test+else-j-new}
use Rattle.source_changes.proofs.changed.push_differing.Goals.{else-loop-i-test}

pub returns : goal.returns
returns g c =
    let ended : (length c.args.old.now ≤ c.loop-i.i) ⊎ (length c.args.new.now ≤ c.loop-i.j) =
    elim c.loop-i-test.branch [
      | then-loop-i-test+else-j-new w ↦ inr (omega arith)
      | else-loop-i-test w ↦ inl (omega arith)
    ] in
    rest_is (whole_cmp g.S.Statement.range g.S.Compared.rest)
    (λ x. ground_of (g.S.Statement.range x)) c.args.old.now c.args.new.now c.loop-i.i c.loop-i.j
    c.loop-i.grounds c.push_rest.new.grounds c.push_rest-2.new.grounds _ ended
    (c.in_ok-push_rest.ensures ∙ ap (λ rs. c.loop-i.grounds ++ map (λ (r : Bor g.row.S.Denot).
    ground_of (g.S.Statement.range r.now)) rs) (rest_all c.loop-i.i c.args.old.now))
    (c.in_ok-push_rest-2.ensures ∙ ap (λ rs. c.push_rest.new.grounds
    ++ map (λ (r : Bor g.row.S.Denot). ground_of (g.S.Statement.range r.now)) rs)
    (rest_all c.loop-i.j c.args.new.now))
    c.loop-i.invariant.found
