use Rattle.std.proofs.Common.{sym, ◌∙◌}
use Rattle.mmdb_data.specs.ValueTree.{map}
use Rattle.mmdb_data.specs.Member.{member_list}
use Rattle.mmdb_data.specs.Section.{packed_of}
use Rattle.mmdb_data.proofs.Appending.{known_full, still_unknown, new_full, kept_either}
use Rattle.mmdb_data.proofs.packing_members.append_map.Goals as goal

pub returns-then-is_some-clause-appended : goal.returns-then-is_some-clause-appended
returns-then-is_some-clause-appended c =
    known_full (map (member_list c.args.members.now)) (packed_of c.args.section.now)
    (packed_of c.append_map_content.new.section) c.args.spelled.now c.found-found.result.at
    c.requires.spelled c.found-found.ensures.at c.in_ok-append_map_content.ensures.appended
    (sym c.is_some.ensures ∙ c.if-is_some.true)

pub note-requires-clause-new : goal.note-requires-clause-new
note-requires-clause-new c =
    still_unknown (map (member_list c.args.members.now)) (packed_of c.args.section.now)
    (packed_of c.append_map_content.new.section) c.args.spelled.now c.found-found.result.at
    c.requires.spelled c.found-found.ensures.at c.in_ok-append_map_content.ensures.appended
    (sym c.is_some.ensures ∙ c.if-is_some.false)

pub returns-clause-appended : goal.returns-clause-appended
returns-clause-appended c =
    new_full c.note.result (map (member_list c.args.members.now)) (packed_of c.note.new.self)
    (packed_of c.append_map_content.new.section) (packed_of c.args.section.now)
    c.args.spelled.now c.len-at.result c.requires.spelled
    (c.len-at.ensures ∙ c.args.section.now.bytes.ok.0) c.in_ok-append_map_content.ensures.appended
    c.note.ensures.noted

pub returns-clause-kept : goal.returns-clause-kept
returns-clause-kept c =
    kept_either c.note.result (packed_of c.args.section.now)
    (packed_of c.append_map_content.new.section) (packed_of c.note.new.self)
    c.args.spelled.now c.len-at.result c.in_ok-append_map_content.ensures.kept
    c.note.ensures.noted c.note.ensures.refused
