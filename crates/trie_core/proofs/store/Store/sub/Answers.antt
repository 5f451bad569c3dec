use Rattle.std.proofs.Common.{◌≡◌, ℕ, ◌-◌, ◌∙◌, sym, ap, subst, arith, take}
use Rattle.geo_addr.specs.Bits.{bits_of}
use Rattle.geo_addr.specs.Ranges.{IsBlock}
use Rattle.trie_core.specs.Tree.{Tree, look}
use Rattle.trie_core.specs.Store.{meaning, tree_of}
use Rattle.trie_core.specs.Graft.{way_of, sub}
use Rattle.trie_core.proofs.GraftLemmas.{sub-zero, sub-one, look-sub, bits_of-inside}
use Rattle.trie_core.proofs.store.Store.sub.Goals as goal

pub loop-bits-preserved-then-block-bits-eq0 : goal.loop-bits-preserved-then-block-bits-eq0
loop-bits-preserved-then-block-bits-eq0 c = record {
  of = c.halves-left.ensures.left_of;
  low = omega (arith, c.halves-left.ensures.left_low, c.loop-bits.invariant.low);
  bits = omega (arith, c.loop-bits.invariant.bits);
  below = omega arith;
  same =
      sub-zero _ _ _ _ _ c.loop-bits-test.true c.if-block-bits-eq0.true
      c.halves-left.ensures.left_is ∙ c.loop-bits.invariant.same;
}

pub loop-bits-preserved : goal.loop-bits-preserved
loop-bits-preserved c = record {
  of = c.halves-left.ensures.right_of;
  low = omega (arith, c.halves-left.ensures.right_low, c.loop-bits.invariant.low);
  bits = omega (arith, c.loop-bits.invariant.bits);
  below = omega arith;
  same =
      sub-one _ _ _ _ _ c.loop-bits-test.true c.if-block-bits-eq0.false
      c.halves-left.ensures.right_is ∙ c.loop-bits.invariant.same;
}

pub returns-clause-lookups : goal.returns-clause-lookups
returns-clause-lookups c = λ a within.
    let none : c.loop-bits.bits - (128 - c.from-below.result) ≡ 0 = omega arith in
    let tree : Tree ℕ = meaning c.args.self.now c.loop-bits.rec in
    let is : tree ≡ sub (tree_of c.args.self.now c.args.root) (way_of c.args.block) =
    ap (λ k. sub tree (take k (bits_of c.loop-bits.bits c.block.inside.first))) (sym none)
    ∙ c.loop-bits.invariant.same in
    ap (λ t. look t (bits_of (128 - c.args.block.len) a)) is
    ∙ look-sub (tree_of c.args.self.now c.args.root) (way_of c.args.block)
    (bits_of (128 - c.args.block.len) a)
    ∙ ap (look (tree_of c.args.self.now c.args.root))
    (sym (bits_of-inside c.args.block (subst IsBlock c.block.view_is c.block.invariant) a within))
