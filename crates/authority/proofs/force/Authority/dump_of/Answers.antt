use Rattle.std.proofs.Common.{◌∙◌, Some, None, ap, map}
use Rattle.std.specs.Arc.{arc_value}
use Rattle.std.specs.List.{find}
use Rattle.std.specs.Option.{option_copied}
use Rattle.geo_terms.specs.PlaceForm.{same_text}
use Rattle.geo_terms.specs.SourceForm.{DumpParts}
use Rattle.geo_terms.specs.Sources.{InForce}
use Rattle.authority.proofs.HeldLemmas.{dump_found}
use Rattle.authority.proofs.force.Authority.dump_of.Goals as goal

pub returns-in_err-dump : goal.returns-in_err-dump
returns-in_err-dump c =
    ap option_copied c.from_residual.ensures
    ∙ dump_found c.args.slot.now c.as_slice.result.now None c.in_err-dump.ensures
    ∙ ap (λ ds. find (λ (d : DumpParts). same_text d.slot c.args.slot.now)
    (map (arc_value {X = DumpParts}) ds)) c.as_slice.ensures.value
    ∙ ap (λ (s : InForce). find (λ (d : DumpParts). same_text d.slot c.args.slot.now) s.dumps)
    c.self.view_is

pub returns : goal.returns
returns c =
    ap Some c.deref.ensures
    ∙ dump_found c.args.slot.now c.as_slice.result.now (Some c.in_ok-dump.dump.now)
    c.in_ok-dump.ensures
    ∙ ap (λ ds. find (λ (d : DumpParts). same_text d.slot c.args.slot.now)
    (map (arc_value {X = DumpParts}) ds)) c.as_slice.ensures.value
    ∙ ap (λ (s : InForce). find (λ (d : DumpParts). same_text d.slot c.args.slot.now) s.dumps)
    c.self.view_is
