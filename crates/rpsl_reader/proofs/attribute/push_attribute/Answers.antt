use Rattle.rpsl_reader.proofs.Sides.{sides_named}
use Rattle.rpsl_reader.proofs.attribute.push_attribute.Goals as goal

pub attribute_name-requires : goal.attribute_name-requires
attribute_name-requires c =
    sides_named c.args.line.now.1 c.args.sides.name.now c.args.sides.value.now c.requires
