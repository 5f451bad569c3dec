use Rattle.std.proofs.Common.{◌≡◌, ◌+◌, drop}
use Rattle.std.specs.Option.{option_map}
use Rattle.geo_addr.specs.Ipv6Texts.{double_at}
use Rattle.geo_addr.proofs.v6.double_at.Given as goal

abbrev pub invariant-loop-at : goal.invariant-loop-at
invariant-loop-at l = option_map (λ k. l.at + k) (double_at (drop l.at l.text)) ≡ double_at l.text
