use Rattle.std.proofs.Common.{◌≡◌, ◌≤◌, ◌-◌, ◌+◌, ◌*◌, length}
use Rattle.mmdb_data.specs.Reading.{members_from, items_from, value_from}
use Rattle.mmdb_data.specs.View.{budget, items_view, members_view}
use Rattle.mmdb_data.proofs.Loops.{after_members, after_items}
use Rattle.mmdb_data.proofs.reader.Reader.+decoding.Given as goal

abbrev pub decreases-value : goal.decreases-value
decreases-value l = 5 * l.levels

abbrev pub decreases-target : goal.decreases-target
decreases-target l = 5 * l.levels + 4

abbrev pub decreases-plain : goal.decreases-plain
decreases-plain l = 5 * l.levels + 3

abbrev pub decreases-content : goal.decreases-content
decreases-content l = 5 * l.levels + 2

abbrev pub decreases-members : goal.decreases-members
decreases-members l = 5 * l.levels + 1

abbrev pub decreases-items : goal.decreases-items
decreases-items l = 5 * l.levels + 1

abbrev pub invariant-items-loop : goal.invariant-items-loop
invariant-items-loop l =
    let section = l.fn.self.section.now in
    let read = value_from section l.levels in
    record {
      same : l.self.section.now ≡ section;
      so_far : after_items (items_view l.values.items)
          (items_from read (l.count - l.counter) l.self.at (budget l.self.left))
          ≡ items_from read l.count l.fn.self.at (budget l.fn.self.left);
      room : l.self.at ≤ length section;
    }

abbrev pub invariant-members-loop : goal.invariant-members-loop
invariant-members-loop l =
    let section = l.fn.self.section.now in
    let read = value_from section l.levels in
    record {
      same : l.self.section.now ≡ section;
      so_far : after_members (members_view l.pairs.items)
          (members_from read (l.count - l.counter) l.self.at (budget l.self.left))
          ≡ members_from read l.count l.fn.self.at (budget l.fn.self.left);
      room : l.self.at ≤ length section;
    }
