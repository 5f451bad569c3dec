use Rattle.std.proofs.Common.{◌-◌, List, length, map, subst, sym, take}
use Rattle.std.specs.List.Sorted.{IsPermutation}
use Rattle.geo_addr.specs.Ranges.{Ends}
use Rattle.source_changes.specs.Changed.{changed}
use Rattle.source_changes.specs.Touched.{ground_of}
use Rattle.source_changes.proofs.Found.{both_passed}
use Rattle.source_changes.proofs.changed.trimmed.Goals as goal

pub returns : goal.returns
returns g c =
    let X = g.row.S.Denot in
    let grounds : List X → List X → List Ends = λ old new.
    map (λ (x : X). ground_of (g.S.Statement.range x)) (changed g.S.Compared.same old new) in
    subst (λ (zs : List X). IsPermutation (grounds c.args.old.now c.args.new.now)
    (grounds zs c.split_at-4.result.0.now)) (sym c.split_at-3.ensures.front)
    (subst (λ (zs : List X). IsPermutation (grounds c.args.old.now c.args.new.now) (grounds
    (take (length c.split_at.result.1.now - c.common_end-end.result) c.split_at.result.1.now) zs))
    (sym c.split_at-4.ensures.front)
    (both_passed g.S.Statement.range g.S.Compared.same g.S.Compared.rest g.met.S.Compared.rest_total
    g.met.S.Compared.decides
    c.args.old.now c.args.new.now c.split_at.result.1.now c.split_at-2.result.1.now
    c.common_start-start.result c.common_end-end.result
    c.split_at.ensures.back c.split_at-2.ensures.back c.common_start-start.ensures.same
    c.common_end-end.ensures.same))
