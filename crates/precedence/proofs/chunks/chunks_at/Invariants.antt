use Rattle.std.proofs.Common.{◌<◌, ◌^◌}
use Rattle.precedence.specs.Chunks.{BeginAt, IsLimit, Tiles}
use Rattle.precedence.proofs.chunks.chunks_at.Given as goal

-- the chunks so far reach up to where the next one begins
abbrev pub invariant-loop-piece : goal.invariant-loop-piece
invariant-loop-piece l = record {
  tiles : Tiles 0 l.chunks.items l.first;
  begun : BeginAt l.limits l.chunks.items;
  limit : IsLimit l.limits l.first;
  fits : l.first < 2 ^ 128;
}
