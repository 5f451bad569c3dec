use Rattle.std.proofs.Common.{◌≤◌, take, length}
use Rattle.trie_core.specs.Pairs.{AreFound}
use Rattle.trie_core.proofs.others.spread.Given as goal

abbrev pub invariant-loop-number : goal.invariant-loop-number
invariant-loop-number l = record {
  found : AreFound (take l.number l.pairs) l.firsts l.slots.items l.crowded;
  wide : 8 ≤ length l.slots.items;
}
