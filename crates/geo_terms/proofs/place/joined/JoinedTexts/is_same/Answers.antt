-- The same text that is cut alike is the same four texts.
use Rattle.std.proofs.Common.{◌&&◌, ◌∙◌, ap, sym}
use Rattle.std.specs.Prelude.{string_bytes}
use Rattle.geo_terms.proofs.SameLemmas.{same_joined}
use Rattle.geo_terms.specs.PlaceForm.{same_text}
use Rattle.geo_terms.proofs.place.joined.JoinedTexts.is_same.Goals as goal

pub returns-then-cut_alike : goal.returns-then-cut_alike
returns-then-cut_alike c =
    let one = c.self.inside in
    let other = c.other.inside in
    c.same_bytes.ensures
    ∙ ap (λ text. same_text text c.as_bytes-then-cut_alike.result.now)
    (c.as_bytes.ensures.value ∙ c.as_str.ensures.value)
    ∙ ap (same_text (string_bytes one.text))
    (c.as_bytes-then-cut_alike.ensures.value ∙ c.as_str-then-cut_alike.ensures.value)
    ∙ ap (λ alike. alike && same_text (string_bytes one.text) (string_bytes other.text))
    (sym c.if-cut_alike.true)
    ∙ same_joined (string_bytes one.text) (string_bytes other.text) _ _ _ _ _ _ _ _
    c.self.invariant c.other.invariant c.self.view_is c.other.view_is

pub returns-else-cut_alike : goal.returns-else-cut_alike
returns-else-cut_alike c =
    let one = c.self.inside in
    let other = c.other.inside in
    c.if-cut_alike.false
    ∙ ap (λ alike. alike && same_text (string_bytes one.text) (string_bytes other.text))
    (sym c.if-cut_alike.false)
    ∙ same_joined (string_bytes one.text) (string_bytes other.text) _ _ _ _ _ _ _ _
    c.self.invariant c.other.invariant c.self.view_is c.other.view_is
