use Rattle.std.proofs.Common.{◌≡◌, ◌/◌, ◌∙◌, get_or}
use Rattle.std.proofs.lemmas.List.{get_or_read}
use Rattle.least_nodes.proofs.MarksLemmas.{marked_longer, marked_here, marked_elsewhere}
use Rattle.least_nodes.proofs.marks.Marks.put.Goals as goal

pub returns-clause-put : goal.returns-clause-put
returns-clause-put c =
    marked_here c.make_room.new.words.items c.args.number c.index_mut.result.now
    c.in_ok-make_room.ensures.within

pub returns-clause-others : goal.returns-clause-others
returns-clause-others c = λ n other.
    let words = c.make_room.new.words.items in
    let within = c.in_ok-make_room.ensures.within in
    let read : c.index_mut.result.now ≡ get_or words (c.args.number / 64) 0 =
    get_or_read words (c.args.number / 64) _ within c.index_mut.ensures.value 0 in
    marked_elsewhere words c.args.number c.index_mut.result.now within read n other
    ∙ marked_longer c.args.self.now.words.items words _ n c.make_room.ensures.zeros
