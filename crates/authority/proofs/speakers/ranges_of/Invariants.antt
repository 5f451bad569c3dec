use Rattle.std.proofs.Common.{◌≡◌, map, take}
use Rattle.authority.proofs.speakers.ranges_of.Given as goal

abbrev pub invariant-loop-reference : goal.invariant-loop-reference
invariant-loop-reference l = l.ranges.items ≡ map (λ r. r.range) (take l.reference-index l.refs)
