use Rattle.std.proofs.Common.{◌≡◌, ◌∙◌, ◌≤◌, sym, ap, arith}
use Rattle.geo_addr.specs.Bits.{bits_of}
use Rattle.trie_core.specs.Tree.{node, height, look}
use Rattle.trie_core.specs.Store.{meaning}
use Rattle.trie_core.proofs.StoreLemmas.{look_left, look_right, meaning-leaf}
use Rattle.trie_core.proofs.store.Store.find.Goals as goal

pub loop-rec-init : goal.loop-rec-init
loop-rec-init c = record {
  of = c.rec_of-rec.ensures.of;
  low = c.rec_of-rec.ensures.sound.low c.rec_of-rec.result c.rec_of-rec.ensures.of;
  bits = omega arith;
  same =
      ap (λ r. look (meaning c.args.self.now r) (bits_of 128 c.args.at.0))
      c.rec_of-rec.ensures.same;
}

-- the record of this turn means the node of its children
here : (c : goal.After-children-left) → meaning c.args.self.now c.loop-rec.rec ≡ node (meaning
    c.args.self.now c.children-left.result.0) (meaning c.args.self.now c.children-left.result.1)
here c = ap (meaning c.args.self.now) c.in-Node.is ∙ c.children-left.ensures.meaning

pub overflow_sub-bits : goal.overflow_sub-bits
overflow_sub-bits c = omega (arith, ap height (here c), c.loop-rec.invariant.low)

pub loop-rec-preserved-then-at-bits-eq0 : goal.loop-rec-preserved-then-at-bits-eq0
loop-rec-preserved-then-at-bits-eq0 c =
    let is : meaning c.args.self.now c.loop-rec.rec ≡ node (meaning c.args.self.now
    c.children-left.result.0) (meaning c.args.self.now c.children-left.result.1) =
    ap (meaning c.args.self.now) c.in-Node.is ∙ c.children-left.ensures.meaning in
    let some : 1 ≤ c.loop-rec.bits = omega (arith, ap height is, c.loop-rec.invariant.low) in
    record {
      of = c.children-left.ensures.of.0;
      low = omega (arith, ap height is, c.loop-rec.invariant.low);
      bits = omega (arith, c.loop-rec.invariant.bits);
      same =
          look_left _ _ _ c.loop-rec.bits c.args.at.0 is some c.if-at-bits-eq0.true
          ∙ c.loop-rec.invariant.same;
    }

pub loop-rec-preserved : goal.loop-rec-preserved
loop-rec-preserved c =
    let is : meaning c.args.self.now c.loop-rec.rec ≡ node (meaning c.args.self.now
    c.children-left.result.0) (meaning c.args.self.now c.children-left.result.1) =
    ap (meaning c.args.self.now) c.in-Node.is ∙ c.children-left.ensures.meaning in
    let some : 1 ≤ c.loop-rec.bits = omega (arith, ap height is, c.loop-rec.invariant.low) in
    record {
      of = c.children-left.ensures.of.1;
      low = omega (arith, ap height is, c.loop-rec.invariant.low);
      bits = omega (arith, c.loop-rec.invariant.bits);
      same =
          look_right _ _ _ c.loop-rec.bits c.args.at.0 is some c.if-at-bits-eq0.false
          ∙ c.loop-rec.invariant.same;
    }

pub returns-in-Leaf : goal.returns-in-Leaf
returns-in-Leaf c =
    let is =
    ap (meaning c.args.self.now) c.in-Leaf.is ∙ meaning-leaf c.args.self.now c.in-Leaf.leaf in
    sym c.loop-rec.invariant.same ∙ ap (λ t. look t (bits_of c.loop-rec.bits c.args.at.0)) is
