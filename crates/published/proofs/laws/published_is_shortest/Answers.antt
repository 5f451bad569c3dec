use Rattle.published.proofs.Shortest as shortest
use Rattle.published.proofs.laws.published_is_shortest.Goals as goal

pub returns : goal.returns
returns c = shortest.published_is_shortest
