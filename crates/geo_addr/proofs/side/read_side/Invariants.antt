use Rattle.std.proofs.Common.{length}
use Rattle.geo_addr.proofs.SideLemmas.{ReadsOn}
use Rattle.geo_addr.proofs.side.read_side.Given as goal

abbrev pub invariant-members : goal.invariant-members
invariant-members l = ReadsOn l.dots l.text l.side l.rest

abbrev pub decreases-members : goal.decreases-members
decreases-members l = length l.rest
