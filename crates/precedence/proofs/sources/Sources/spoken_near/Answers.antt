use Rattle.std.proofs.Common.{rules}
use Rattle.geo_terms.specs.Precedence.{spoken_at}
use Rattle.precedence.proofs.sources.Sources.spoken_near.Goals as goal

pub returns : goal.returns
unfolding spoken_at
returns c = search rules steps 1000000
