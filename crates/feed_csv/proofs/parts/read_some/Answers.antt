-- What was found in the parts is what they say.
use Rattle.std.proofs.Common.{◌++◌, ◌∙◌, ap}
use Rattle.feed_csv.proofs.PartLemmas.{accepted_by_parts, refused_by_parts}
use Rattle.feed_csv.proofs.parts.read_some.Goals as goal

pub returns-clause-entries : goal.returns-clause-entries
returns-clause-entries g c =
    c.in_ok-put_all.ensures.entries
    ∙ ap (λ t. c.args.all.now.entries.items ++ t)
    (accepted_by_parts c.args.parts.now _ c.in_ok-found.ensures.related)

pub returns-clause-faults : goal.returns-clause-faults
returns-clause-faults g c =
    c.in_ok-put_all.ensures.faults
    ∙ ap (λ t. c.args.all.now.faults.items ++ t)
    (refused_by_parts c.args.parts.now _ c.in_ok-found.ensures.related)
