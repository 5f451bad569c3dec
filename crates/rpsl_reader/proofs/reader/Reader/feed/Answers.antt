use Rattle.std.proofs.Common.{◌++◌, ap, ◌∙◌}
use Rattle.rpsl_reader.specs.Changes.{accepted}
use Rattle.rpsl_reader.proofs.Changed.{found_aside}
use Rattle.rpsl_reader.proofs.Wanted.{wanted_all}
use Rattle.rpsl_reader.proofs.reader.Reader.feed.Goals as goal
use Rattle.std.proofs.Common.{arith}
use Rattle.std.proofs.lemmas.Grind.{common_steps}

pub returns-in-Ok-clause-fed : goal.returns-in-Ok-clause-fed
returns-in-Ok-clause-fed c =
    ap (λ r. r.fed) (c.in-Ok.ensures.ok ∙ ap (accepted c.args.self.now) c.in_ok-give.ensures.rest
    ∙ found_aside c.args.self.now c.in_ok-progress.progress)
    ∙ c.in_ok-progress.ensures.fed

pub returns-in-Ok-clause-state : goal.returns-in-Ok-clause-state
returns-in-Ok-clause-state c =
    ap (λ r. r.state) (c.in-Ok.ensures.ok ∙ ap (accepted c.args.self.now) c.in_ok-give.ensures.rest
    ∙ found_aside c.args.self.now c.in_ok-progress.progress)
    ∙ c.in_ok-progress.ensures.state

pub returns-in-Ok-clause-items : goal.returns-in-Ok-clause-items
returns-in-Ok-clause-items c =
    c.in_ok-give.ensures.items
    ∙ ap (λ t. c.args.out.now.items ++ t) (c.in_ok-progress.ensures.items ∙ wanted_all
    c.everything-selection.result _ (ap (λ w. w.everything) c.everything-selection.ensures))

pub returns-in-Err-clause-err_items : goal.returns-in-Err-clause-err_items
returns-in-Err-clause-err_items c = grind (arith, common_steps) steps 1000000
