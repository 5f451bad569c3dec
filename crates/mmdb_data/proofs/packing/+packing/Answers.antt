use Rattle.std.proofs.Common.{sym, ap, ◌∙◌, subst, arith}
use Rattle.mmdb_data.specs.ValueTree.{IsNarrow}
use Rattle.mmdb_data.specs.View.{value_tree, items_view, members_view}
use Rattle.mmdb_data.specs.Section.{packed_of}
use Rattle.mmdb_data.proofs.Views.{tree-Map, tree-List, leaf_tree, len-members_view}
use Rattle.mmdb_data.proofs.Views.{len-items_view}
use Rattle.mmdb_data.proofs.Appending.{map_packed, list_packed, known_full, still_unknown, new_full}
use Rattle.mmdb_data.proofs.Appending.{kept_either, leaf_packed, appended_kept}
use Rattle.mmdb_data.proofs.packing.+packing.Goals as goal

pub append_content-append_head-requires
    : goal.append_content-append_head-requires
append_content-append_head-requires t c =
    let pairs = c.in-Map.pairs in
    let narrow = subst IsNarrow (ap value_tree c.in-Map.is ∙ tree-Map pairs) c.requires.narrow in
    omega (arith, narrow.0, len-members_view pairs.items, pairs.ok.0)

pub append_content-append_head-requires-in-List
    : goal.append_content-append_head-requires-in-List
append_content-append_head-requires-in-List t c =
    let values = c.in-List.values in
    let narrow = subst IsNarrow (ap value_tree c.in-List.is ∙ tree-List values) c.requires.narrow in
    omega (arith, narrow.0, len-items_view values.items, values.ok.0)

pub append_content-returns-in_ok-append_head-in-Map-clause-appended
    : goal.append_content-returns-in_ok-append_head-in-Map-clause-appended
append_content-returns-in_ok-append_head-in-Map-clause-appended t c =
    let pairs = c.in-Map.pairs in
    rw (c.in-Map.is, tree-Map pairs)
    (map_packed c.append_members.result _ (packed_of c.append_head.new.self) _ c.len.result
    (members_view pairs.items) (c.len.ensures ∙ pairs.ok.0 ∙ sym (len-members_view pairs.items))
    c.in_ok-append_head-in-Map.ensures.appended
    (rw c.deref.ensures.value at c.append_members.ensures.appended))

pub append_content-returns-in_ok-append_head-in-List-clause-appended
    : goal.append_content-returns-in_ok-append_head-in-List-clause-appended
append_content-returns-in_ok-append_head-in-List-clause-appended t c =
    let values = c.in-List.values in
    rw (c.in-List.is, tree-List values)
    (list_packed c.append_items.result _
    (packed_of c.append_head-in-List.new.self) _ c.len-in-List.result (items_view values.items)
    (c.len-in-List.ensures ∙ values.ok.0 ∙ sym (len-items_view values.items))
    c.in_ok-append_head-in-List.ensures.appended
    (rw c.deref-in-List.ensures.value at c.append_items.ensures.appended))

pub append_full-returns-then-is_some-clause-appended
    : goal.append_full-returns-then-is_some-clause-appended
append_full-returns-then-is_some-clause-appended t c =
    known_full (value_tree c.args.value.now) (packed_of c.args.section.now)
    (packed_of c.append_content.new.section) c.args.spelled.now c.args.found.at
    c.requires.spelled c.requires.known c.in_ok-append_content.ensures.appended
    (sym c.is_some.ensures ∙ c.if-is_some.true)

pub append_full-note-requires-clause-new : goal.append_full-note-requires-clause-new
append_full-note-requires-clause-new t c =
    still_unknown (value_tree c.args.value.now) (packed_of c.args.section.now)
    (packed_of c.append_content.new.section) c.args.spelled.now c.args.found.at
    c.requires.spelled c.requires.known c.in_ok-append_content.ensures.appended
    (sym c.is_some.ensures ∙ c.if-is_some.false)

pub append_full-returns-clause-appended : goal.append_full-returns-clause-appended
append_full-returns-clause-appended t c =
    new_full c.note.result (value_tree c.args.value.now) (packed_of c.note.new.self)
    (packed_of c.append_content.new.section) (packed_of c.args.section.now)
    c.args.spelled.now c.len-at.result c.requires.spelled
    (c.len-at.ensures ∙ c.args.section.now.bytes.ok.0) c.in_ok-append_content.ensures.appended
    c.note.ensures.noted

pub append_full-returns-clause-kept : goal.append_full-returns-clause-kept
append_full-returns-clause-kept t c =
    kept_either c.note.result (packed_of c.args.section.now)
    (packed_of c.append_content.new.section) (packed_of c.note.new.self)
    c.args.spelled.now c.len-at.result c.in_ok-append_content.ensures.kept
    c.note.ensures.noted c.note.ensures.refused

pub append_content-returns-in_default-clause-appended
    : goal.append_content-returns-in_default-clause-appended
append_content-returns-in_default-clause-appended t c =
    leaf_packed c.append.result (value_tree c.args.value.now) (packed_of c.append.new.self)
    (packed_of c.args.section.now) c.args.spelled.now
    (leaf_tree c.args.value.now c.in_default.not-Map c.in_default.not-List) c.requires.spelled
    c.append.ensures.appended

pub append_content-returns-in_default-clause-kept
    : goal.append_content-returns-in_default-clause-kept
append_content-returns-in_default-clause-kept t c =
    appended_kept c.append.result (packed_of c.args.section.now) (packed_of c.append.new.self)
    c.args.spelled.now c.append.ensures.appended c.append.ensures.refused
