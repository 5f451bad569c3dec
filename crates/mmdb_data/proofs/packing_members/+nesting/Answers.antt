use Rattle.std.proofs.Common.{sym, ◌∙◌}
use Rattle.mmdb_data.specs.Member.{nested}
use Rattle.mmdb_data.specs.Section.{packed_of}
use Rattle.mmdb_data.proofs.Appending.{known_full, still_unknown, new_full, kept_either}
use Rattle.mmdb_data.proofs.packing_members.+nesting.Goals as goal

pub append_nested_full-returns-then-is_some-clause-appended
    : goal.append_nested_full-returns-then-is_some-clause-appended
append_nested_full-returns-then-is_some-clause-appended t c =
    known_full (nested c.args.around.now c.args.text.now) (packed_of c.args.section.now)
    (packed_of c.append_nested_content.new.section) c.args.spelled.now c.args.found.at
    c.requires.1.1.1.0 c.requires.1.1.1.1.0 c.in_ok-append_nested_content.ensures.appended
    (sym c.is_some.ensures ∙ c.if-is_some.true)

pub append_nested_full-note-requires-clause-new : goal.append_nested_full-note-requires-clause-new
append_nested_full-note-requires-clause-new t c =
    still_unknown (nested c.args.around.now c.args.text.now) (packed_of c.args.section.now)
    (packed_of c.append_nested_content.new.section) c.args.spelled.now c.args.found.at
    c.requires.1.1.1.0 c.requires.1.1.1.1.0 c.in_ok-append_nested_content.ensures.appended
    (sym c.is_some.ensures ∙ c.if-is_some.false)

pub append_nested_full-returns-clause-appended : goal.append_nested_full-returns-clause-appended
append_nested_full-returns-clause-appended t c =
    new_full c.note.result (nested c.args.around.now c.args.text.now) (packed_of c.note.new.self)
    (packed_of c.append_nested_content.new.section) (packed_of c.args.section.now)
    c.args.spelled.now c.len-at.result c.requires.1.1.1.0
    (c.len-at.ensures ∙ c.args.section.now.bytes.ok.0)
    c.in_ok-append_nested_content.ensures.appended
    c.note.ensures.noted

pub append_nested_full-returns-clause-kept : goal.append_nested_full-returns-clause-kept
append_nested_full-returns-clause-kept t c =
    kept_either c.note.result (packed_of c.args.section.now)
    (packed_of c.append_nested_content.new.section) (packed_of c.note.new.self)
    c.args.spelled.now c.len-at.result c.in_ok-append_nested_content.ensures.kept
    c.note.ensures.noted c.note.ensures.refused
