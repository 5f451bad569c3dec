use Rattle.std.proofs.Common.{◌≡◌, None, subst}
use Rattle.std.specs.Result.{IfErr}
use Rattle.authority.specs.declared.fault.DropFault.{DropFault}
use Rattle.geo_terms.specs.Sources.{InForce}
use Rattle.source_changes.specs.Changes.{named}
use Rattle.precedence.proofs.sources.Sources.drop_stats.Goals as goal

pub returns-clause-not_there : goal.returns-clause-not_there
returns-clause-not_there c =
    subst (λ (s : InForce). IfErr c.remove.result (λ (fault : DropFault).
    (fault ≡ DropFault.NotThere) × (named (λ x. x.slot) c.args.slot.now s.stats ≡ None)))
    c.self.view_is c.remove.ensures.not_there
