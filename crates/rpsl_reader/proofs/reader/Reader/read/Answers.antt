use Rattle.std.proofs.Common.{ap, ◌∙◌}
use Rattle.rpsl_reader.specs.Changes.{accepted}
use Rattle.rpsl_reader.proofs.Changed.{found_beside}
use Rattle.rpsl_reader.proofs.reader.Reader.read.Goals as goal

pub returns-clause-fed : goal.returns-clause-fed
returns-clause-fed c =
    ap (λ r. r.fed) (ap (accepted c.args.self.now) c.with.ensures
    ∙ found_beside c.args.self.now c.in_ok-progress.progress c.in_ok-found.found.items)
    ∙ c.in_ok-progress.ensures.fed

pub returns-clause-state : goal.returns-clause-state
returns-clause-state c =
    ap (λ r. r.state) (ap (accepted c.args.self.now) c.with.ensures
    ∙ found_beside c.args.self.now c.in_ok-progress.progress c.in_ok-found.found.items)
    ∙ c.in_ok-progress.ensures.state
