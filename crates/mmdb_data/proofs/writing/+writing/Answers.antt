use Rattle.std.proofs.Common.{sym, ap, ◌∙◌, subst, arith}
use Rattle.mmdb_data.specs.ValueTree.{IsNarrow}
use Rattle.mmdb_data.specs.View.{value_tree, items_view, members_view}
use Rattle.mmdb_data.proofs.Views.{tree-Map, tree-List, len-members_view, len-items_view}
use Rattle.mmdb_data.proofs.Written.{map_written, list_written}
use Rattle.mmdb_data.proofs.writing.+writing.Goals as goal

pub put_value-put_head-requires : goal.put_value-put_head-requires
put_value-put_head-requires t c =
    let pairs = c.in-Map.pairs in
    let narrow = subst IsNarrow (ap value_tree c.in-Map.is ∙ tree-Map pairs) c.requires in
    omega (arith, narrow.0, len-members_view pairs.items, pairs.ok.0)

pub put_value-put_head-requires-in-List
    : goal.put_value-put_head-requires-in-List
put_value-put_head-requires-in-List t c =
    let values = c.in-List.values in
    let narrow = subst IsNarrow (ap value_tree c.in-List.is ∙ tree-List values) c.requires in
    omega (arith, narrow.0, len-items_view values.items, values.ok.0)

pub put_value-returns-in_ok-put_head-in-Map-clause-spelled
    : goal.put_value-returns-in_ok-put_head-in-Map-clause-spelled
put_value-returns-in_ok-put_head-in-Map-clause-spelled t c =
    let pairs = c.in-Map.pairs in
    rw (c.in-Map.is, tree-Map pairs)
    (map_written c.put_members.result _ c.put_head.new.out.items _ c.len.result
    (members_view pairs.items) (c.len.ensures ∙ pairs.ok.0 ∙ sym (len-members_view pairs.items))
    c.in_ok-put_head-in-Map.ensures.put
    (rw c.deref.ensures.value at c.put_members.ensures.spelled))

pub put_value-returns-in_ok-put_head-in-List-clause-spelled
    : goal.put_value-returns-in_ok-put_head-in-List-clause-spelled
put_value-returns-in_ok-put_head-in-List-clause-spelled t c =
    let values = c.in-List.values in
    rw (c.in-List.is, tree-List values)
    (list_written c.put_items.result _ c.put_head-in-List.new.out.items _ c.len-in-List.result
    (items_view values.items) (c.len-in-List.ensures ∙ values.ok.0
    ∙ sym (len-items_view values.items)) c.in_ok-put_head-in-List.ensures.put
    (rw c.deref-in-List.ensures.value at c.put_items.ensures.spelled))
