use Rattle.std.proofs.Common.{◌∙◌, Some, None, ap}
use Rattle.std.specs.Option.{option_copied}
use Rattle.geo_terms.specs.Precedence.{speaking_entry}
use Rattle.geo_terms.specs.Sources.{InForce}
use Rattle.authority.proofs.VoiceLemmas.{held_spoken}
use Rattle.authority.proofs.force.Authority.entry_near.Goals as goal

pub returns-in_err-voice : goal.returns-in_err-voice
returns-in_err-voice c =
    ap option_copied c.from_residual.ensures
    ∙ held_spoken c.self.inside.dumps.items c.self.inside.speakers c.self.inside.feeds.items
    c.self.inside.voices c.in-Some-speakers.made c.in-Some.voices c.self.invariant
    c.in-Some-speakers.is c.in-Some.is c.deref-2.result.now c.deref.result.now c.deref-2.ensures
    c.deref.ensures c.in-Some-kind.kind c.in-Some-kind.is c.args.at.0 c.in_err-voice.ensures.range
    None c.in_err-voice.ensures.told
    ∙ ap (λ (s : InForce). speaking_entry s c.args.at.0) c.self.view_is

pub returns : goal.returns
returns c =
    c.entry_of_voice.ensures
    ∙ held_spoken c.self.inside.dumps.items c.self.inside.speakers c.self.inside.feeds.items
    c.self.inside.voices c.in-Some-speakers.made c.in-Some.voices c.self.invariant
    c.in-Some-speakers.is c.in-Some.is c.deref-2.result.now c.deref.result.now c.deref-2.ensures
    c.deref.ensures c.in-Some-kind.kind c.in-Some-kind.is c.args.at.0 c.in_ok-voice.ensures.range
    (Some c.in_ok-voice.voice.now) c.in_ok-voice.ensures.told
    ∙ ap (λ (s : InForce). speaking_entry s c.args.at.0) c.self.view_is
