use Rattle.std.proofs.Common.{false, get_or, map, sym, ap, ◌∙◌}
use Rattle.std.specs.Char.{to_ascii_lowercase}
use Rattle.rpsl_reader.specs.Selections.{Wanted, is_among}
use Rattle.rpsl_reader.proofs.Names.{unwanted}
use Rattle.rpsl_reader.proofs.selection.Selection.may_want.Goals as goal

pub returns-in-len1-up : goal.returns-in-len1-up
returns-in-len1-up c unmarked =
    ap (λ (w : Wanted). is_among (map to_ascii_lowercase c.args.name.now) w.names)
    (sym c.self.view_is)
    ∙ unwanted c.args.name.now c.self.inside.names.items c.self.inside.begins
    c.in-len1-up.len_at_least c.self.invariant.1
    (ap (λ i. get_or c.self.inside.begins i false)
    (sym (c.from.ensures ∙ c.to_ascii_lowercase.ensures.value)) ∙ unmarked)
