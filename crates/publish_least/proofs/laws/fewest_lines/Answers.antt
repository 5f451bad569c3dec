use Rattle.publish_least.proofs.Whole.{least_inside, least_preorder, least_answers, least_fewest}
use Rattle.publish_least.proofs.Whole.{least_price}
use Rattle.publish_least.proofs.laws.fewest_lines.Goals as goal

pub returns : goal.returns
returns c t within block plain low = (
  least_inside t within block plain low,
  least_preorder t within block plain low,
  least_answers t within block plain low,
  least_fewest t within block plain low,
  least_price t within block plain low,
)
