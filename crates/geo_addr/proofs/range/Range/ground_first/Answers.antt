use Rattle.std.proofs.Common.{rules}
use Rattle.geo_addr.specs.Ranges.{ground_first}
use Rattle.geo_addr.proofs.range.Range.ground_first.Goals as goal

pub returns-else-is_v4 : goal.returns-else-is_v4
unfolding ground_first
returns-else-is_v4 c = search rules steps 1000000
