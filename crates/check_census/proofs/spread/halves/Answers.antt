-- A leaf is its own halves.
use Rattle.std.proofs.Common.{true, false, ap, sym, ◌∙◌}
use Rattle.trie_core.specs.Graft.{half}
use Rattle.trie_core.specs.Store.{meaning}
use Rattle.trie_core.proofs.StoreLemmas.{meaning-leaf}
use Rattle.check_census.proofs.spread.halves.Goals as goal

pub returns-in-Leaf-clause-low : goal.returns-in-Leaf-clause-low
returns-in-Leaf-clause-low c =
    let is = ap (meaning c.args.store.now) c.in-Leaf.is
    ∙ meaning-leaf c.args.store.now c.in-Leaf.field-0 in
    is ∙ sym (ap (half false) is)

pub returns-in-Leaf-clause-high : goal.returns-in-Leaf-clause-high
returns-in-Leaf-clause-high c =
    let is = ap (meaning c.args.store.now) c.in-Leaf.is
    ∙ meaning-leaf c.args.store.now c.in-Leaf.field-0 in
    is ∙ sym (ap (half true) is)
