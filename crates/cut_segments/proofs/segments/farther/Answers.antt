use Rattle.std.proofs.Common.{rules}
use Rattle.cut_segments.proofs.segments.farther.Goals as goal

pub returns-in-Some-Some : goal.returns-in-Some-Some
returns-in-Some-Some c = search rules steps 1000000
