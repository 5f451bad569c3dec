use Rattle.std.proofs.Common.{◌≡◌, ◌-◌, ◌≤◌, ◌∙◌, ap, ap₂, subst, arith, nat_eq, take}
use Rattle.geo_addr.specs.Bits.{bits_of}
use Rattle.geo_addr.specs.Ranges.{IsBlock}
use Rattle.trie_core.specs.Tree.{look}
use Rattle.trie_core.specs.Store.{meaning, tree_of}
use Rattle.trie_core.specs.Graft.{way_of, graft}
use Rattle.trie_core.proofs.TreeLemmas.{nat_equality}
use Rattle.trie_core.proofs.GraftLemmas.{look-graft_inside, look-graft_elsewhere, bits_of-inside}
use Rattle.trie_core.proofs.GraftLemmas.{bits_of-outside}
use Rattle.trie_core.proofs.store.Store.graft.Goals as goal

-- the new root means the graft
grafted : (g : Rattle.trie_core.proofs.store.Store.graft.Given.Over) (c : goal.In_ok-grafted g)
    → meaning c.graft_at.new.self c.in_ok-grafted.grafted
    ≡ graft nat_eq (tree_of c.args.self.now c.args.root) (way_of c.args.block)
    (meaning c.args.self.now c.args.rec)
grafted g c =
    let fits : c.block.inside.len ≤ 128 = c.block.invariant.length_fits in
    let first : c.block.inside.first ≡ c.args.block.first = ap (λ b. b.first) c.block.view_is in
    let len : 128 - (128 - c.from-below.result) ≡ c.args.block.len =
    omega (arith, c.from-below.ensures, fits, ap (λ b. b.len) c.block.view_is) in
    let way : take (128 - (128 - c.from-below.result)) (bits_of 128 c.block.inside.first)
    ≡ way_of c.args.block = ap₂ (λ k a. take k (bits_of 128 a)) len first in
    c.in_ok-grafted.ensures.meaning ∙ ap₂ (λ r w. graft nat_eq (meaning c.args.self.now r) w
    (meaning c.args.self.now c.args.rec)) c.rec_of-whole.ensures.same way

pub returns-clause-inside : goal.returns-clause-inside
returns-clause-inside g c = λ a within.
    let bits =
    bits_of-inside c.args.block (subst IsBlock c.block.view_is c.block.invariant) a within in
    ap (λ t. look t (bits_of 128 a)) (grafted g c)
    ∙ ap (look (graft nat_eq (tree_of c.args.self.now c.args.root) (way_of c.args.block)
    (meaning c.args.self.now c.args.rec))) bits
    ∙ look-graft_inside nat_eq nat_equality (tree_of c.args.self.now c.args.root)
    (meaning c.args.self.now c.args.rec) (way_of c.args.block) (bits_of (128 - c.args.block.len) a)

pub returns-clause-elsewhere : goal.returns-clause-elsewhere
returns-clause-elsewhere g c = λ a below outside.
    ap (λ t. look t (bits_of 128 a)) (grafted g c)
    ∙ look-graft_elsewhere nat_eq nat_equality (tree_of c.args.self.now c.args.root)
    (meaning c.args.self.now c.args.rec) (way_of c.args.block) (bits_of 128 a)
    (bits_of-outside c.args.block (subst IsBlock c.block.view_is c.block.invariant) a below outside)

pub returns-clause-full : goal.returns-clause-full
returns-clause-full g c = (
  λ e. absurd (cc),
  λ h. absurd (h.1 (record { 0 = c.in_ok-grafted.grafted }) c.in_ok-grafted.ensures.of
      (grafted g c)),
)
