use Rattle.std.proofs.Common.{ℕ, List, ap}
use Rattle.geo_terms.specs.Sources.{InForce}
use Rattle.update_session.specs.State.{State}
use Rattle.update_session.proofs.KeptLemmas.{AnswersAll-none, IsSession-begun}
use Rattle.update_session.proofs.session.Session.new.Goals as goal

pub invariant_of-result : goal.invariant_of-result
invariant_of-result c = (
  (c.requires, tt),
  IsSession-begun _ _ _ _ _ _ c.new.ensures c.new-3.ensures c.new-4.ensures.items
      c.empty-root.ensures.of c.empty-root.ensures.tree,
)

-- what a session with these sources stands for
abbrev standing : (epoch : ℕ) (name : List ℕ) → InForce → State
standing epoch name s = record { sources = s; epoch = epoch; name = name }

pub returns : goal.returns
returns c = record {
  state = ap (standing c.args.meta.epoch c.args.meta.name) c.new.ensures;
  store = c.new-store.ensures;
  places = c.new-2.ensures;
  touched = c.new-3.ensures;
  marks = c.new-4.ensures.items;
  root = record {
    of = c.empty-root.ensures.of;
    answers = AnswersAll-none _ _ _ c.empty-root.ensures.tree;
  };
}
