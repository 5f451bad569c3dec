use Rattle.std.proofs.Common.{List, ℕ, subst}
use Rattle.precedence.proofs.ChunkLemmas.{chunks_of_begins, chunks_of_points}
use Rattle.precedence.specs.Chunks.{BeginAt}
use Rattle.precedence.proofs.sources.Sources.chunks.Goals as goal

pub returns-then-is_most : goal.returns-then-is_most
returns-then-is_most c =
    chunks_of_begins c.args.self.now c.args.touched.now c.in_ok-chunks.chunks.items
    c.in_ok-begins.begins.items c.in_ok-begins.ensures c.in_ok-chunks.ensures.tiles
    (subst (λ (ls : List ℕ). BeginAt ls c.in_ok-chunks.chunks.items) c.as_slice.ensures.value
    c.in_ok-chunks.ensures.begun)

pub returns : goal.returns
returns c =
    chunks_of_points c.args.self.now c.args.touched.now c.in_ok-chunks-2.chunks.items
    c.as_slice-2.result.now c.in_ok-points.points.items c.in_ok-points.ensures.exact
    c.in_ok-chunks-2.ensures.tiles
    (subst (λ (ls : List ℕ). BeginAt ls c.in_ok-chunks-2.chunks.items) c.as_slice-3.ensures.value
    c.in_ok-chunks-2.ensures.begun)
