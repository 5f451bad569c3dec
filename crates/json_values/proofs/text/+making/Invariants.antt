use Rattle.std.proofs.Common.{◌≡◌, map, take, drop}
use Rattle.serde_json.specs.Data.{no_members}
use Rattle.serde_json.specs.View.{view as data_view, members_view as data_members_view}
use Rattle.mmdb_data.specs.View.{value_tree, members_view}
use Rattle.json_values.specs.JsonData.{data_of, members_put}
use Rattle.json_values.proofs.text.+making.Given as goal

abbrev pub invariant-array_of-loop-value : goal.invariant-array_of-loop-value
invariant-array_of-loop-value l =
    map data_view l.array.items ≡ map (λ v. data_of (value_tree v)) (take l.value-index l.values)

abbrev pub invariant-object_of-loop-key : goal.invariant-object_of-loop-key
invariant-object_of-loop-key l =
    members_put (members_view (drop l.key-index l.pairs)) (data_members_view l.object.entries)
    ≡ members_put (members_view l.pairs) no_members
