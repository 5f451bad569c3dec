use Rattle.std.proofs.Common.{◌≡◌, ◌∙◌, sym, ap, slice_get, Some}
use Rattle.trie_core.proofs.CompactLemmas.{same_id, IsNumbered-new, IsNumbered-old}
use Rattle.trie_core.proofs.compact.Taken.add.Goals as goal
use Rattle.trie_core.proofs.compact.Taken.add.Goals.{then-is_new+in-Ok, else-is_new}

pub returns : goal.returns
returns c =
    let at : slice_get c.insert_full.new.self.keys c.in_ok-index.index ≡ Some c.args.id =
    c.in_ok-index.ensures.stored.1 ∙ ap Some
    (sym (same_id c.args.id c.in_ok-index.ensures.stored.0 c.in_ok-index.ensures.stored.2)) in
    elim c.if-is_new.branch [
      | then-is_new+in-Ok w ↦
          rw w.self-is (IsNumbered-new c.args.self.now.nodes.keys c.insert_full.new.self.keys
          c.args.self.now.pairs w.add.new.self c.args.id c.args.pair
          c.in_ok-index.is_new c.in_ok-index.index
          w.if-is_new.true c.in_ok-index.ensures.added c.in_ok-index.ensures.keys at
          w.in-Ok.ensures.ok)
      | else-is_new w ↦
          rw w.self-is (IsNumbered-old c.args.self.now.nodes.keys c.insert_full.new.self.keys
          c.args.self.now.pairs c.args.id c.args.pair c.in_ok-index.is_new c.in_ok-index.index
          w.if-is_new.false c.in_ok-index.ensures.added c.in_ok-index.ensures.keys at)
    ]
