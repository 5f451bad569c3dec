use Rattle.std.proofs.Common.{◌≡◌, ℕ, ◌<◌, ◌≤◌, ◌⊎◌, Contains, get_or, length}
use Rattle.std.specs.List.{All}
use Rattle.precedence.specs.Chunks.{Tiles}
use Rattle.precedence.proofs.chunks.pieces_at.Given as goal

-- the pieces so far reach up to where the next one begins; no point that is left lies before that
abbrev pub invariant-loop-point : goal.invariant-loop-point
invariant-loop-point l = record {
  tiles : Tiles l.fn.chunk.first l.pieces.items l.first;
  begun : All (λ r. (r.first ≡ l.fn.chunk.first) ⊎ Contains l.points r.first) l.pieces.items;
  uncut : (c : ℕ) → Contains l.points c → All (λ r. r.first < c → r.last < c) l.pieces.items;
  start : (l.first ≡ l.fn.chunk.first) ⊎ Contains l.points l.first;
  low : l.fn.chunk.first ≤ l.first;
  high : l.first ≤ l.fn.chunk.last;
  passed : (k d : ℕ) → k < l.point-index → k < length l.points → get_or l.points k d ≤ l.first;
  ahead : (k d : ℕ) → l.point-index ≤ k → k < length l.points → l.first ≤ get_or l.points k d;
}
