use Rattle.mmdb_data.proofs.KnownKeys.{all_after}
use Rattle.mmdb_data.proofs.noted_values.NotedValues.push.Goals as goal

pub invariant_of-self : goal.invariant_of-self
invariant_of-self c =
    all_after c.push.result c.self.inside.keys.items c.self.inside.full c.push.new.self
    (c.args.spelled.now, c.args.at) c.push.ensures.pushed c.push.ensures.err c.self.invariant
