use Rattle.std.proofs.Common.{◌≡◌, ◌∙◌, ap, sym, arith}
use Rattle.geo_addr.specs.Ranges.{Ends}
use Rattle.source_changes.proofs.PassingLemmas.{v4_holds}
use Rattle.source_changes.proofs.ground_list.own_v4.Goals as goal

pub returns : goal.returns
returns c a inside =
    let low : c.range.inside.first ≡ c.args.range.first =
    ap (λ (r : Ends). r.first) c.range.view_is in
    let high : c.range.inside.last ≡ c.args.range.last =
    ap (λ (r : Ends). r.last) c.range.view_is in
    v4_holds c.args.range a (sym c.is_v4.ensures ∙ c.if-not-is_v4.false)
    (omega (arith, inside.0, low)) (omega (arith, inside.1, high))
