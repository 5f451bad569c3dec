-- The chunk ends before the limit.
use Rattle.std.proofs.Common.{◌≡◌, ◌+◌, ◌-◌, ℕ, List, arith, refl, sym, subst}
use Rattle.geo_addr.specs.Ranges.{Ends}
use Rattle.precedence.specs.Chunks.{Tiles}
use Rattle.precedence.proofs.ChunkLemmas.{Tiles-push}
use Rattle.precedence.proofs.chunks.cut_off.Goals as goal

pub returns-in_ok-push-in-Some-clause-tiles : goal.returns-in_ok-push-in-Some-clause-tiles
returns-in_ok-push-in-Some-clause-tiles c so_far =
    let limit : ℕ = c.in-Some.limit.now in
    let last : Ends = record { first = c.args.first; last = limit - 1 } in
    let end : limit - 1 + 1 ≡ limit = omega (arith, c.if-first-limit.true) in
    subst (λ (n : ℕ). Tiles 0 c.push.new.self.items n) end
    (subst (λ (rs : List Ends). Tiles 0 rs (limit - 1 + 1)) (sym c.in_ok-push-in-Some.ensures.items)
    (Tiles-push 0 c.args.first c.args.chunks.now.items last so_far refl
    (omega (arith, c.if-first-limit.true))))
