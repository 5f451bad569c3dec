use Rattle.std.proofs.Common.{List, subst, arith}
use Rattle.std.proofs.lemmas.List.{take_all}
use Rattle.trie_core.specs.declared.node.Pair.{Pair}
use Rattle.trie_core.specs.Pairs.{AreFound}
use Rattle.trie_core.proofs.FoundLemmas.{AreFound-none, read_first, read_other}
use Rattle.trie_core.proofs.others.spread.Goals.{then-firsts-later+in_ok-note, else-firsts-later}
use Rattle.trie_core.proofs.others.spread.Goals as goal

pub loop-number-preserved : goal.loop-number-preserved
loop-number-preserved c = elim c.if-firsts-later.branch [
  | then-firsts-later+in_ok-note w ↦
      let found = read_other c.args.pairs.now c.requires.few c.requires.once c.args.firsts.now
      c.requires.noted c.loop-number.number c.later.result _ c.loop-number-test.true
      c.later.ensures.slot c.loop-number.slots.items c.loop-number.crowded
      c.loop-number.invariant.found w.note.new.slots.items w.note.new.crowded
      w.in_ok-note.ensures.put in
      rw (w.slots-is, w.crowded-is) (record {
        found = found;
        wide = omega (arith, w.in_ok-note.ensures.put.len, c.loop-number.invariant.wide);
      })
  | else-firsts-later w ↦
      let found = read_first c.args.pairs.now c.requires.few c.requires.once c.args.firsts.now
      c.requires.noted c.loop-number.number c.later.result _ c.loop-number-test.true
      c.later.ensures.slot c.loop-number.slots.items c.loop-number.crowded
      c.loop-number.invariant.found w.if-firsts-later.false in
      rw (w.slots-is, w.crowded-is) (record {
        found = found;
        wide = c.loop-number.invariant.wide;
      })
]

pub loop-number-init : goal.loop-number-init
loop-number-init c = record {
  found = AreFound-none c.args.firsts.now c.args.slots.now.items c.args.crowded.now c.requires.wide
      c.requires.none;
  wide = c.requires.wide;
}

pub returns : goal.returns
returns c = (
  subst (λ (ps : List Pair). AreFound ps c.args.firsts.now c.loop-number.slots.items
      c.loop-number.crowded)
      (take_all c.loop-number.number c.args.pairs.now c.loop-number-test.false)
      c.loop-number.invariant.found,
  c.loop-number.invariant.wide,
)
