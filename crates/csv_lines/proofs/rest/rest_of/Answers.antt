use Rattle.std.proofs.Common.{rules}
use Rattle.csv_lines.proofs.rest.rest_of.Goals as goal

pub returns : goal.returns
returns c = search rules steps 1000000
