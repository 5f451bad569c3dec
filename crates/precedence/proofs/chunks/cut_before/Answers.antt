-- The piece ends before the point.
use Rattle.std.proofs.Common.{◌≡◌, ◌+◌, ◌-◌, ℕ, List, arith, refl, sym, subst}
use Rattle.geo_addr.specs.Ranges.{Ends}
use Rattle.precedence.specs.Chunks.{Tiles}
use Rattle.precedence.proofs.ChunkLemmas.{Tiles-push}
use Rattle.precedence.proofs.chunks.cut_before.Goals as goal

pub returns-in_ok-push-clause-tiles : goal.returns-in_ok-push-clause-tiles
returns-in_ok-push-clause-tiles c low so_far =
    let last : Ends = record { first = c.args.first; last = c.args.point - 1 } in
    let end : c.args.point - 1 + 1 ≡ c.args.point = omega (arith, c.if-first-point.true) in
    subst (λ (n : ℕ). Tiles low c.push.new.self.items n) end
    (subst (λ (rs : List Ends). Tiles low rs (c.args.point - 1 + 1))
    (sym c.in_ok-push.ensures.items)
    (Tiles-push low c.args.first c.args.pieces.now.items last so_far refl
    (omega (arith, c.if-first-point.true))))
