use Rattle.std.proofs.lemmas.Bool.{eq-eqb, ne_eqb}
use Rattle.trie_core.specs.NearHash.{finish}
use Rattle.trie_core.proofs.near.NearHasherHasher.finish.Goals as goal

pub returns-then-self-eq0 : goal.returns-then-self-eq0
unfolding finish
returns-then-self-eq0 c = rw (
  eq-eqb c.args.self.now.earlier 0 c.if-self-eq0.true,
  c.beside.ensures,
  c.mixed-mixed.ensures,
)

pub returns-then-self-eq0-2 : goal.returns-then-self-eq0-2
unfolding finish
returns-then-self-eq0-2 c =
    rw (
      ne_eqb c.args.self.now.earlier 0 c.if-self-eq0.false,
      eq-eqb c.args.self.now.later 0 c.if-self-eq0-2.true,
      c.beside-then-self-eq0-2.ensures,
      c.mixed-mixed.ensures,
    )

pub returns : goal.returns
unfolding finish
returns c =
    rw (
      ne_eqb c.args.self.now.earlier 0 c.if-self-eq0.false,
      ne_eqb c.args.self.now.later 0 c.if-self-eq0-2.false,
      c.mixed-mixed.ensures,
    )
