use Rattle.std.proofs.Common.{◌∙◌, List, ap, map, subst, sym}
use Rattle.std.specs.Arc.{arc_value}
use Rattle.std.specs.List.{find}
use Rattle.geo_terms.specs.PlaceForm.{same_text}
use Rattle.geo_terms.specs.SlotOrder.{placed}
use Rattle.geo_terms.specs.SourceForm.{StatsParts}
use Rattle.precedence.specs.Delegations.{AreFiles, slot_of}
use Rattle.precedence.proofs.StatisticsLemmas.{file_found, files_placed}
use Rattle.precedence.proofs.statistics.Statistics.set.Goals as goal

pub invariant_of-self : goal.invariant_of-self
invariant_of-self c =
    subst (λ ts. AreFiles ts c.self.inside.delegations) (sym c.in_err-old.ensures.err)
    c.self.invariant

pub invariant_of-self-2 : goal.invariant_of-self-2
invariant_of-self-2 c = record { slots = c.put.ensures.order; made = tt }

pub returns-clause-new : goal.returns-clause-new
returns-clause-new c =
    files_placed c.in_ok-stats.stats c.self.inside.files.items c.put.new.shelf.items c.args.stats
    c.in_ok-old.ensures.new c.in_ok-stats.ensures.ok
    ∙ ap (λ (ts : List StatsParts). placed (λ t. t.slot) c.args.stats ts) c.self.view_is

pub returns-clause-old : goal.returns-clause-old
returns-clause-old c =
    file_found (slot_of c.in_ok-stats.stats) c.self.inside.files.items c.in_ok-old.old
    c.in_ok-old.ensures.old
    ∙ ap (λ (t : StatsParts). find (λ (x : StatsParts). same_text x.slot t.slot)
    (map arc_value c.self.inside.files.items)) c.in_ok-stats.ensures.ok
    ∙ ap (find (λ (t : StatsParts). same_text t.slot c.args.stats.slot)) c.self.view_is
