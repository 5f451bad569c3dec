-- The line feeds of the bytes that were passed.
use Rattle.std.proofs.Common.{◌≡◌, take}
use Rattle.line_parts.specs.Parts.{feeds}
use Rattle.line_parts.proofs.cut.count_few.Given as goal

abbrev pub invariant-loop-byte : goal.invariant-loop-byte
invariant-loop-byte l = l.count ≡ feeds (take l.byte-index l.text)
