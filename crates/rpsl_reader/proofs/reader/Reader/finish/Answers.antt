use Rattle.std.proofs.Common.{◌++◌, ap, ◌∙◌}
use Rattle.rpsl_reader.proofs.Wanted.{wanted_all}
use Rattle.rpsl_reader.proofs.reader.Reader.finish.Goals as goal

pub returns-clause-items : goal.returns-clause-items
returns-clause-items c =
    c.in_ok-append.ensures.items
    ∙ ap (λ t. c.args.out.now.items ++ t) (c.in_ok-found.ensures ∙ wanted_all
    c.everything-selection.result _ (ap (λ w. w.everything) c.everything-selection.ensures))
