use Rattle.std.proofs.Common.{◌++◌, sym, ap, ◌∙◌}
use Rattle.std.proofs.lemmas.Result.{on_ok_weaker}
use Rattle.rpsl_reader.proofs.Opens.{say_over}
use Rattle.rpsl_reader.proofs.gathered.Gathered.say.Goals as goal

pub returns-in-Some : goal.returns-in-Some
returns-in-Some c =
    on_ok_weaker c.pass.result (λ added. added
    ∙ ap (λ t. c.args.found.now.items ++ t) (sym (say_over c.args.selection.now c.args.self.now
    c.in-Some.line (ap (λ g. g.first) (sym c.self.view_is) ∙ c.in-Some.is)))) c.pass.ensures
