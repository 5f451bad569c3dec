-- One bit more leads one step on.
use Rattle.std.proofs.Common.{◌≡◌, ◌/◌, ◌^◌, ◌-◌, ◌<◌, ap, sym, ◌∙◌, arith}
use Rattle.geo_addr.specs.Ranges.{Prefix}
use Rattle.trie_core.specs.Store.{meaning, tree_of, record_of}
use Rattle.publish_least.proofs.PartLemmas.{below-start, below-child, low-after}
use Rattle.publish_least.proofs.part.part.Goals as goal

pub loop-depth-init : goal.loop-depth-init
loop-depth-init c = record {
  of = c.rec_of-rec.ensures.of;
  same =
      ap (meaning c.args.store.now) c.rec_of-rec.ensures.same
      ∙ sym (below-start (tree_of c.args.store.now c.args.root) _);
}

pub loop-depth-preserved : goal.loop-depth-preserved
loop-depth-preserved c =
    let fits = c.within.invariant.length_fits in
    let more = c.loop-depth-test.true in
    let within : c.loop-depth.depth < 128 = omega arith in
    record {
      of = c.child-rec.ensures.of;
      same =
          below-child (tree_of c.args.store.now c.args.root)
          (meaning c.args.store.now c.loop-depth.rec) (meaning c.args.store.now c.child-rec.result)
          c.within.inside.first c.loop-depth.depth within c.loop-depth.invariant.same
          c.child-rec.ensures.meaning;
    }

pub returns-clause-low : goal.returns-clause-low
returns-clause-low c =
    let len : c.within.inside.len ≡ c.args.within.len =
    ap (λ (b : Prefix). b.len) c.within.view_is in
    let done = c.loop-depth-test.false in
    let up = c.loop-depth.auto.depth-end in
    low-after (tree_of c.args.store.now c.args.root) (meaning c.args.store.now c.loop-depth.rec)
    (c.within.inside.first / 2 ^ (128 - c.loop-depth.depth)) c.loop-depth.depth c.args.within.len
    (c.rec_of-rec.ensures.sound.low (record_of c.args.root) c.requires) c.loop-depth.invariant.same
    (omega arith)
