-- Those found so far are what the passed indexes share with the others.
use Rattle.std.proofs.Common.{◌≡◌, take}
use Rattle.publish_least.specs.Price.{shared}
use Rattle.publish_least.proofs.set.common.Given as goal

abbrev pub invariant-loop-at : goal.invariant-loop-at
invariant-loop-at l = l.both.items ≡ shared (take l.at-index l.few) l.many
