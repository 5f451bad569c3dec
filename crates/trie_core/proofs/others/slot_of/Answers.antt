use Rattle.std.proofs.Common.{refl}
use Rattle.trie_core.specs.Pairs.{first_slot}
use Rattle.trie_core.proofs.others.slot_of.Goals as goal

pub returns-clause-slot : goal.returns-clause-slot
unfolding first_slot
returns-clause-slot c =
    rw (
      c.mixed-mixed.ensures,
      c.number_of_record.ensures.number,
      c.number_of_record-2.ensures.number,
    ) refl
