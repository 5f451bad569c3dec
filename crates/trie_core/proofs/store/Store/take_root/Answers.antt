use Rattle.std.proofs.Common.{◌∙◌, ◌++◌, [], ◌∷◌, List, sym, ap, subst}
use Rattle.trie_core.specs.declared.node.Root.{Root}
use Rattle.trie_core.specs.Store.{meaning}
use Rattle.trie_core.specs.Compact.{AreRootsTaken}
use Rattle.trie_core.proofs.CompactLemmas.{AreRootsTaken-push}
use Rattle.trie_core.proofs.store.Store.take_root.Goals as goal

pub returns-clause-roots : goal.returns-clause-roots
returns-clause-roots c = λ roots done.
    subst (λ (ms : List Root). AreRootsTaken c.args.self.now c.take.new.taken.nodes.keys
    c.take.new.taken.pairs (roots ++ c.args.root ∷ []) ms) (sym c.in_ok-push.ensures.items)
    (AreRootsTaken-push c.args.self.now c.args.taken.now.nodes.keys c.take.new.taken.nodes.keys
    c.args.taken.now.pairs c.take.new.taken.pairs roots c.args.made.now.items c.args.root
    c.in_ok-rec.rec
    done c.in_ok-rec.ensures.taken
    c.in_ok-rec.ensures.kept c.in_ok-rec.ensures.under c.in_ok-rec.ensures.of
    (c.in_ok-rec.ensures.meaning ∙ ap (meaning c.args.self.now) c.rec_of-rec.ensures.same))
