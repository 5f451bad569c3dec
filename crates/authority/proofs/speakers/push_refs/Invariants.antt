use Rattle.std.proofs.Common.{◌≡◌, ◌++◌, take}
use Rattle.authority.proofs.speakers.push_refs.Given as goal

abbrev pub invariant-loop-reference : goal.invariant-loop-reference
invariant-loop-reference l = l.refs.items ≡ l.fn.refs.items ++ take l.reference-index l.more
