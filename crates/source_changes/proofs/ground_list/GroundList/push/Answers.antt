use Rattle.std.proofs.Common.{◌∙◌, ◌∷◌, ◌++◌, [], List, ap, arith}
use Rattle.geo_addr.specs.Ranges.{Ends}
use Rattle.source_changes.specs.Packing.{unpacked}
use Rattle.source_changes.specs.declared.ground_list.Packed.{Packed}
use Rattle.source_changes.proofs.PackingLemmas.{push_ground, push_other}
use Rattle.source_changes.proofs.ground_list.GroundList.push.Goals as goal

pub returns-then-is_v4-clause-ok : goal.returns-then-is_v4-clause-ok
returns-then-is_v4-clause-ok c =
    let p : Packed = record { first = c.range.inside.first; last = c.range.inside.last } in
    ap (λ (ps : List Packed). unpacked ps c.self.inside.others.items) c.in_ok-push.ensures.items
    ∙ push_ground c.self.inside.packed.items c.self.inside.others.items p c.self.invariant
    c.range.invariant.ordered
    ∙ (λ i. c.self.view_is i ++ c.range.view_is i ∷ [])

pub returns-clause-ok : goal.returns-clause-ok
returns-clause-ok c =
    let p : Packed = record { first = 1; last = 0 } in
    (λ i. unpacked (c.in_ok-push-2.ensures.items i) (c.push_reserved.ensures.items i))
    ∙ ap (λ (rs : List Ends). unpacked (c.self.inside.packed.items ++ p ∷ [])
    (rs ++ c.args.range ∷ [])) c.in_ok-reserve.ensures.items
    ∙ push_other c.self.inside.packed.items c.self.inside.others.items p c.args.range
    c.self.invariant (omega arith)
    ∙ ap (λ (rs : List Ends). rs ++ c.args.range ∷ []) c.self.view_is
