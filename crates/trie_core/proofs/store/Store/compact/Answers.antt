use Rattle.trie_core.proofs.CompactLemmas.{HoldsExactly-from_taken, length-le_from_taken}
use Rattle.trie_core.proofs.store.Store.compact.Goals as goal

pub into_store-requires : goal.into_store-requires
into_store-requires c = c.in-Ok.ensures.taken.sound

pub returns-clause-of : goal.returns-clause-of
returns-clause-of c = rw (c.into_store.ensures) c.in-Ok.ensures.of

pub returns-clause-meaning : goal.returns-clause-meaning
returns-clause-meaning c = rw (c.into_store.ensures) c.in-Ok.ensures.meaning_is

pub returns-clause-exact : goal.returns-clause-exact
returns-clause-exact c =
    rw (c.into_store.ensures) (HoldsExactly-from_taken c.args.self.now
    c.take_roots.new.taken.nodes.keys c.take_roots.new.taken.pairs
    c.args.roots.now c.in-Ok.made.items c.in-Ok.ensures)

pub returns-clause-few : goal.returns-clause-few
returns-clause-few c =
    rw (c.into_store.ensures) (length-le_from_taken c.args.self.now
    c.take_roots.new.taken.nodes.keys c.take_roots.new.taken.pairs c.in-Ok.ensures.taken)

pub returns-clause-sound : goal.returns-clause-sound
returns-clause-sound c = rw (c.into_store.ensures) c.in-Ok.ensures.taken.sound
