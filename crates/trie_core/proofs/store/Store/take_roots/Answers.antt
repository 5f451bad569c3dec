use Rattle.std.proofs.Common.{◌≡◌, ◌<◌, List, length, take}
use Rattle.std.proofs.Common.{sym, subst}
use Rattle.std.proofs.lemmas.Grind.{take_at_read}
use Rattle.std.proofs.lemmas.List.{take_all}
use Rattle.trie_core.specs.declared.node.Rec.TheVariants.{Leaf}
use Rattle.trie_core.specs.declared.node.Root.{Root}
use Rattle.trie_core.specs.Compact.{AreRootsTaken}
use Rattle.trie_core.proofs.CompactLemmas.{AreRootsTaken-nil}
use Rattle.trie_core.proofs.store.Store.take_roots.Goals as goal

pub loop-root-init : goal.loop-root-init
loop-root-init c = rw (
  c.requires.nodes,
  c.requires.pairs,
  c.in_ok-made.ensures.items,
) (AreRootsTaken-nil c.args.self.now)

pub loop-root-preserved : goal.loop-root-preserved
loop-root-preserved c =
    let within : c.loop-root.root-index < length c.args.roots.now = c.loop-root-test.true in
    let more =
    take_at_read c.args.roots.now c.loop-root.root-index (record { 0 = Leaf 0 }) within in
    subst (λ (rs : List Root). AreRootsTaken c.args.self.now c.take_root.new.taken.nodes.keys
    c.take_root.new.taken.pairs rs c.take_root.new.made.items) (sym more.1)
    (c.in_ok-take_root.ensures.roots (take c.loop-root.root-index c.args.roots.now)
    c.loop-root.invariant)

pub returns : goal.returns
returns c =
    let all : take c.loop-root.root-index c.args.roots.now ≡ c.args.roots.now =
    take_all c.loop-root.root-index c.args.roots.now c.loop-root-test.false in
    subst (λ (rs : List Root). AreRootsTaken c.args.self.now c.loop-root.taken.nodes.keys
    c.loop-root.taken.pairs rs c.loop-root.made.items) all c.loop-root.invariant
