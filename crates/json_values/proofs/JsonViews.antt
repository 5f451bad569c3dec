-- What was made of the parts is what is made of the whole.
use Rattle.std.proofs.Common.{◌≡◌, List, [], ◌∷◌, map, Vec, BTreeMap, String, Global, refl, sym, ap}
use Rattle.std.proofs.Common.{◌∙◌}
use Rattle.serde_json.specs.Data.{object, array, item, no_members as no_data_members}
use Rattle.serde_json.specs.View.{view as data_view, items_of as data_items_of}
use Rattle.serde_json.specs.View.{items_view as data_items_view, members_view as data_members_view}
use Rattle.serde_json.proofs.Views.{view-Array, view-Object}
use Rattle.serde_json.specs.declared.value.Value.{Value as Json, Array, Object}
use Rattle.mmdb_data.specs.View.{value_tree, items_view, members_view}
use Rattle.mmdb_data.specs.declared.value.Value.{Value}
use Rattle.mmdb_data.specs.declared.value.Value.TheVariants.{Map, List as Values}
use Rattle.mmdb_data.proofs.Views.{tree-Map, tree-List}
use Rattle.json_values.specs.JsonData.{data_of, members_put, items_data}

pub items_made : (values : List Value)
    → data_items_of (map (λ v. data_of (value_tree v)) values) ≡ items_data (items_view values)
items_made [] = refl
items_made (v ∷ values) = ap (item (data_of (value_tree v))) (items_made values)

pub object_made : (made : BTreeMap (String Global) Json) (pairs : Vec _ Global)
    → data_members_view made.entries ≡ members_put (members_view pairs.items) no_data_members
    → data_view (Object made) ≡ data_of (value_tree (Map pairs))
object_made made pairs is = view-Object made ∙ ap object is ∙ sym (ap data_of (tree-Map pairs))

pub array_made : (made : Vec Json Global) (values : Vec Value Global)
    → data_items_view made.items ≡ items_data (items_view values.items)
    → data_view (Array made) ≡ data_of (value_tree (Values values))
array_made made values is = view-Array made ∙ ap array is ∙ sym (ap data_of (tree-List values))
