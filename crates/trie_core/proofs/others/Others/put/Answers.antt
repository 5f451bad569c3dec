use Rattle.std.proofs.Common.{◌+◌, ◌<◌, ◌^◌, ℕ, length, subst, arith}
use Rattle.trie_core.specs.Pairs.{IsPut}
use Rattle.trie_core.proofs.FoundLemmas.{push_other}
use Rattle.trie_core.proofs.others.Others.put.Goals as goal

pub returns-clause-put : goal.returns-clause-put
returns-clause-put c =
    let pairs = c.args.pairs.now in
    let wide = c.make_room.new.self in
    let few : length pairs + 1 < 2 ^ 32 = omega (arith, c.requires.few, c.requires.number) in
    push_other pairs c.args.firsts.now wide.slots.items wide.crowded
    c.in_ok-make_room.ensures.found c.args.pair c.requires.new few c.requires.taken
    c.note.new.slots.items c.note.new.crowded
    (subst (λ (k : ℕ). IsPut wide.slots.items c.note.new.slots.items wide.crowded
    c.note.new.crowded c.args.pair k) c.requires.number c.in_ok-note.ensures.put)
