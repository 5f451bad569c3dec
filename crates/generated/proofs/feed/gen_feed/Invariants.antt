use Rattle.std.proofs.Common.{◌≡◌}
use Rattle.generated.specs.Feeds.{feed}
use Rattle.generated.proofs.feed.gen_feed.Given as goal

abbrev pub invariant-loop-at : goal.invariant-loop-at
invariant-loop-at l = l.bytes.items ≡ feed l.second l.at
