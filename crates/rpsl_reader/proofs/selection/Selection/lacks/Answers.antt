use Rattle.std.proofs.Common.{◌∷◌, sym, ap, ◌∙◌}
use Rattle.rpsl_reader.specs.Selections.{Wanted, wants_name}
use Rattle.rpsl_reader.proofs.Names.{lacking}
use Rattle.rpsl_reader.proofs.selection.Selection.lacks.Goals as goal

pub returns-then-not-self : goal.returns-then-not-self
returns-then-not-self c unmarked rest =
    let w : Wanted = record {
      everything = c.self.inside.everything;
      classes = c.self.inside.classes.items;
      names = c.self.inside.names.items;
    } in
    ap (λ (v : Wanted). wants_name v (c.args.first ∷ rest)) (sym c.self.view_is)
    ∙ lacking w c.args.first c.from.result c.self.inside.begins c.if-not-self.true
    c.self.invariant.1 c.from.ensures unmarked rest
