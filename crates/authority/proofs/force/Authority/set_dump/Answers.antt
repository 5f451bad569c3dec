use Rattle.std.proofs.Common.{◌∙◌, List}
use Rattle.std.proofs.Common.{ap, sym, subst, map}
use Rattle.std.specs.Arc.{arc_value}
use Rattle.std.specs.List.{find}
use Rattle.geo_terms.specs.PlaceForm.{same_text}
use Rattle.geo_terms.specs.SlotOrder.{placed}
use Rattle.geo_terms.specs.SourceForm.{DumpParts}
use Rattle.geo_terms.specs.Sources.{InForce}
use Rattle.authority.specs.Held.{IsHeld, in_force, slot_of}
use Rattle.authority.proofs.HeldLemmas.{dumps_placed, dump_found}
use Rattle.authority.proofs.force.Authority.set_dump.Goals as goal

pub invariant_of-self : goal.invariant_of-self
invariant_of-self c =
    subst (λ ds. IsHeld ds c.self.inside.speakers c.self.inside.feeds.items c.self.inside.voices)
    (sym c.in_err-old.ensures.err) c.self.invariant

pub invariant_of-self-2 : goal.invariant_of-self-2
invariant_of-self-2 c = record {
  slots = c.put.ensures.order;
  urls = c.self.invariant.urls;
  made = tt;
  heard = tt;
}

pub returns-clause-sources : goal.returns-clause-sources
returns-clause-sources c =
    ap (λ (ds : List DumpParts). in_force ds c.self.inside.feeds.items)
    (dumps_placed c.in_ok-dump.dump c.self.inside.dumps.items c.put.new.shelf.items c.args.dump
    c.in_ok-old.ensures.new c.in_ok-dump.ensures.ok)
    ∙ ap (λ (s : InForce). record s { dumps = placed (λ d. d.slot) c.args.dump s.dumps })
    c.self.view_is

pub returns-clause-old : goal.returns-clause-old
returns-clause-old c =
    dump_found (slot_of c.in_ok-dump.dump) c.self.inside.dumps.items c.in_ok-old.old
    c.in_ok-old.ensures.old
    ∙ ap (λ (d : DumpParts). find (λ (x : DumpParts). same_text x.slot d.slot)
    (map arc_value c.self.inside.dumps.items)) c.in_ok-dump.ensures.ok
    ∙ ap (λ (s : InForce). find (λ d. same_text d.slot c.args.dump.slot) s.dumps) c.self.view_is
