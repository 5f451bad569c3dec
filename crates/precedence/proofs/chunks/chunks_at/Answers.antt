-- One chunk more, and the last one.
use Rattle.std.proofs.Common.{◌^◌, ◌-◌, List, arith, refl, sym, subst}
use Rattle.std.proofs.lemmas.List.Elements.{All-push}
use Rattle.geo_addr.specs.Ranges.{Ends}
use Rattle.precedence.specs.Chunks.{BeginAt, IsLimit, Tiles}
use Rattle.precedence.proofs.ChunkLemmas.{Tiles-push}
use Rattle.precedence.proofs.chunks.chunks_at.Goals as goal

pub loop-piece-preserved : goal.loop-piece-preserved
loop-piece-preserved c =
    let so_far = c.loop-piece.invariant in
    let both = c.in_ok-first.ensures.begun so_far.limit so_far.begun in
    record {
      tiles = c.in_ok-first.ensures.tiles so_far.tiles;
      begun = both.1;
      limit = both.0;
      fits = c.in_ok-first.ensures.fits;
    }

pub returns-clause-tiles : goal.returns-clause-tiles
returns-clause-tiles c =
    let last : Ends = record { first = c.loop-piece.first; last = 2 ^ 128 - 1 } in
    subst (λ (rs : List Ends). Tiles 0 rs (2 ^ 128)) (sym c.in_ok-push.ensures.items)
    (Tiles-push 0 c.loop-piece.first c.loop-piece.chunks.items last c.loop-piece.invariant.tiles
    refl (omega (arith, c.loop-piece.invariant.fits)))

pub returns-clause-begun : goal.returns-clause-begun
returns-clause-begun c =
    let limits = c.args.limits.now in
    let last : Ends = record { first = c.loop-piece.first; last = 2 ^ 128 - 1 } in
    subst (BeginAt limits) (sym c.in_ok-push.ensures.items)
    (All-push (λ (r : Ends). IsLimit limits r.first) c.loop-piece.chunks.items last
    c.loop-piece.invariant.begun c.loop-piece.invariant.limit)
