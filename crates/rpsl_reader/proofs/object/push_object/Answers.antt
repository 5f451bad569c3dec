use Rattle.std.proofs.Common.{◌++◌, ◌∷◌, [], sym, ◌∙◌}
use Rattle.rpsl_reader.specs.declared.item.Item.TheVariants.{Whole}
use Rattle.rpsl_reader.proofs.Sides.{sides_named}
use Rattle.rpsl_reader.proofs.Wanted.{none_stray, sides_in, sides_out}
use Rattle.rpsl_reader.proofs.object.push_object.Goals as goal

pub returns-in_default-clause-found : goal.returns-in_default-clause-found
returns-in_default-clause-found c =
    sides_out c.args.selection.now c.args.line.now c.args.lines.now c.args.sides.name.now
    c.args.sides.value.now c.args.found.now.items _ c.requires c.in_ok-name.ensures c.in_default.is

pub class_name-requires : goal.class_name-requires
class_name-requires c =
    sides_named c.args.line.now.1 c.args.sides.name.now c.args.sides.value.now c.requires

pub returns-clause-found : goal.returns-clause-found
returns-clause-found c =
    c.in_ok-close.ensures
    ∙ (λ i. (c.found.view_is i).items ++ (Whole (record {
      line = (c.line.view_is i).0;
      parts = c.in_ok-strays.ensures.parts i;
    }) ∷ []))
    ∙ sides_in c.args.selection.now c.args.line.now c.args.lines.now c.args.sides.name.now
    c.args.sides.value.now c.args.found.now.items _ _ c.requires c.in_ok-name.ensures c.in-Some.is

pub returns-clause-strays : goal.returns-clause-strays
returns-clause-strays c = λ no. none_stray c.args.lines.now (sym c.in_ok-strays.ensures.strays ∙ no)
