use Rattle.std.proofs.Common.{rules, ◌≡◌, ◌++◌, ◌∷◌, [], ◌∙◌}
use Rattle.mmdb_data.specs.declared.spelled_list.Spelled.{Spelled}
use Rattle.mmdb_data.proofs.SpelledTexts.{viewed_push}
use Rattle.mmdb_data.proofs.spelled_list.SpelledList.push.Goals as goal

pub returns-clause-pushed : goal.returns-clause-pushed
returns-clause-pushed c =
    let old = c.self.inside in
    let spelled : Spelled =
    record { start = c.len-start.result; end = c.len-end.result; at = c.args.at } in
    let list : c.push_reserved.new.self.items ≡ old.list.items ++ spelled ∷ [] = search rules in
    viewed_push old.texts.items c.args.spelled.now c.extend_from_slice.new.self.items old.list.items
    c.push_reserved.new.self.items spelled c.args.self.now c.in_ok-extend_from_slice.ensures.items
    list (c.len-start.ensures ∙ old.texts.ok.0)
    (c.len-end.ensures ∙ c.extend_from_slice.new.self.ok.0) c.self.invariant c.self.view_is
