use Rattle.std.proofs.Common.{sym, ap, ◌∙◌, map}
use Rattle.std.proofs.lemmas.List.{take_all}
use Rattle.serde_json.specs.Data.{no_members}
use Rattle.serde_json.specs.View.{items_of as data_items_of}
use Rattle.mmdb_data.specs.View.{value_tree, items_view, members_view}
use Rattle.json_values.specs.JsonData.{data_of, members_put, items_data}
use Rattle.json_values.proofs.JsonViews.{items_made, object_made, array_made}
use Rattle.json_values.proofs.text.+making.Goals as goal
use Rattle.std.proofs.Common.{arith}
use Rattle.std.proofs.lemmas.Grind.{common_steps}

pub json_of-returns-in_ok-object_of-in-Map : goal.json_of-returns-in_ok-object_of-in-Map
json_of-returns-in_ok-object_of-in-Map t c =
    object_made c.in_ok-object_of-in-Map.field-0 c.in-Map.pairs (c.in_ok-object_of-in-Map.ensures
    ∙ ap (λ pairs. members_put (members_view pairs) no_members) c.deref.ensures.value)
    ∙ sym (ap (λ v. data_of (value_tree v)) c.in-Map.is)

pub json_of-returns-in_ok-array_of-in-List : goal.json_of-returns-in_ok-array_of-in-List
json_of-returns-in_ok-array_of-in-List t c =
    array_made c.in_ok-array_of-in-List.field-0 c.in-List.values (c.in_ok-array_of-in-List.ensures
    ∙ ap (λ values. items_data (items_view values)) c.deref-in-List.ensures.value)
    ∙ sym (ap (λ v. data_of (value_tree v)) c.in-List.is)

pub array_of-returns : goal.array_of-returns
array_of-returns t c =
    let values = c.args.values.now in
    ap data_items_of (c.loop-value.invariant ∙ ap (map (λ v. data_of (value_tree v)))
    (take_all c.loop-value.value-index values c.loop-value-test.false)) ∙ items_made values

pub array_of-loop-value-preserved : goal.array_of-loop-value-preserved
array_of-loop-value-preserved t c = grind (arith, common_steps) steps 3500000

pub object_of-loop-key-preserved : goal.object_of-loop-key-preserved
object_of-loop-key-preserved t c = grind (arith, common_steps) steps 1000000
