-- A sort by line puts notes on distinct lines in line order.
use Rattle.std.proofs.Common.{rules}
use Rattle.std.specs.List.Sorted.{IsNonDecreasingBy}
use Rattle.std.proofs.lemmas.List.Sorted.{IsNonDecreasingBy-from_sort_by_key}
use Rattle.geo_terms.specs.declared.note.LineNote.{LineNote}
use Rattle.feed_refs.proofs.NoteOrder.{sorted_is}
use Rattle.feed_refs.proofs.found.in_line_order.Goals as goal

pub returns : goal.returns
returns c = λ apart.
    let up : IsNonDecreasingBy (λ (n : LineNote). n.line) c.sort_by_key.new.self.items =
    IsNonDecreasingBy-from_sort_by_key (λ (n : LineNote). n.line) _
    c.in_ok-sort_by_key.ensures.sorted (λ a r q k. search rules) in
    sorted_is c.args.notes.items c.sort_by_key.new.self.items
    c.in_ok-sort_by_key.ensures.permutation up apart
