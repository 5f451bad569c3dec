use Rattle.std.proofs.Common.{take, map as map_list, sym, ap, ◌∙◌}
use Rattle.std.proofs.lemmas.List.{take-map}
use Rattle.mmdb_data.specs.FullValues.{spelled_in}
use Rattle.mmdb_data.proofs.spelled_list.SpelledList.truncate.Goals as goal

pub returns : goal.returns
returns c =
    let viewed = spelled_in c.self.inside.texts.items in
    ap (map_list viewed) c.truncate.ensures.items
    ∙ sym (take-map viewed c.args.len c.self.inside.list.items)
    ∙ ap (take c.args.len) c.self.view_is
