use Rattle.std.proofs.Common.{◌∙◌, List, Some, None}
use Rattle.std.proofs.Common.{ap, sym, subst, map, refl}
use Rattle.std.specs.Arc.{arc_value}
use Rattle.std.specs.List.{find}
use Rattle.geo_terms.specs.PlaceForm.{same_text}
use Rattle.geo_terms.specs.SlotOrder.{removed}
use Rattle.geo_terms.specs.SourceForm.{DumpParts}
use Rattle.geo_terms.specs.Sources.{InForce}
use Rattle.authority.specs.Held.{IsHeld, in_force}
use Rattle.authority.proofs.HeldLemmas.{dumps_removed, dump_found}
use Rattle.authority.proofs.force.Authority.drop_dump.Goals as goal

pub invariant_of-self : goal.invariant_of-self
invariant_of-self c = record {
  slots = c.take.ensures.order;
  urls = c.self.invariant.urls;
  made = tt;
  heard = tt;
}

pub invariant_of-self-in-None : goal.invariant_of-self-in-None
invariant_of-self-in-None c =
    subst (λ ds. IsHeld ds c.self.inside.speakers c.self.inside.feeds.items c.self.inside.voices)
    (sym (c.in-None.ensures.absent refl)) c.self.invariant

pub returns-in-Some-clause-sources : goal.returns-in-Some-clause-sources
returns-in-Some-clause-sources c =
    ap (λ (ds : List DumpParts). in_force ds c.self.inside.feeds.items)
    (dumps_removed c.args.slot.now c.self.inside.dumps.items c.take.new.shelf.items
    c.take.ensures.new)
    ∙ ap (λ (s : InForce). record s { dumps = removed (λ d. d.slot) c.args.slot.now s.dumps })
    c.self.view_is

pub returns-in-Some-clause-old : goal.returns-in-Some-clause-old
returns-in-Some-clause-old c =
    dump_found c.args.slot.now c.self.inside.dumps.items (Some c.in-Some.old)
    c.in-Some.ensures.old
    ∙ ap (λ (s : InForce). find (λ d. same_text d.slot c.args.slot.now) s.dumps) c.self.view_is

pub returns-in-None-clause-not_there : goal.returns-in-None-clause-not_there
returns-in-None-clause-not_there c = (
  refl,
  ap (λ (s : InForce). find (λ d. same_text d.slot c.args.slot.now) s.dumps) (sym c.self.view_is)
      ∙ sym (dump_found c.args.slot.now c.self.inside.dumps.items None c.in-None.ensures.old),
)

pub returns-in-None-clause-err : goal.returns-in-None-clause-err
returns-in-None-clause-err c =
    ap (λ ds. in_force (map (arc_value {X = DumpParts}) ds) c.self.inside.feeds.items)
    (c.in-None.ensures.absent refl) ∙ c.self.view_is
