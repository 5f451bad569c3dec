use Rattle.std.proofs.Common.{◌≡◌, drop, None}
use Rattle.std.specs.Option.{option_map}
use Rattle.mmdb_data.specs.View.{value_tree}
use Rattle.mmdb_data.specs.View.{members_view}
use Rattle.mmdb_file.specs.Walk.{field as field_of}
use Rattle.mmdb_file.proofs.adopted.field.Given as goal

abbrev pub invariant-loop-name : goal.invariant-loop-name
invariant-loop-name l =
    field_of l.key (members_view (drop l.name-index l.members))
    (option_map (λ v. value_tree v.now) l.found)
    ≡ field_of l.key (members_view l.members) None
