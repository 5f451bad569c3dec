use Rattle.std.proofs.Common.{take}
use Rattle.geo_addr.proofs.GroupLemmas.{ReadDigits}
use Rattle.geo_addr.proofs.side.group.Given as goal

abbrev pub invariant-loop-byte : goal.invariant-loop-byte
invariant-loop-byte l = ReadDigits (take l.byte-index l.text) l.value
