use Rattle.publish_least.proofs.PriceLemmas.{priced}
use Rattle.publish_least.proofs.laws.best_leaves_cost_least.Goals as goal

pub returns : goal.returns
returns c t = let found = priced t in (found.0, found.1.price, found.1.some)
