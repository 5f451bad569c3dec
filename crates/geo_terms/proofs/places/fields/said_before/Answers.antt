-- The place that came before has these four texts.
use Rattle.std.proofs.Common.{◌∙◌, ap, sym}
use Rattle.geo_terms.specs.PlaceForm.{PlaceParts}
use Rattle.geo_terms.specs.SaidOf.{said_of}
use Rattle.geo_terms.proofs.PlaceLemmas.{place_says_itself}
use Rattle.geo_terms.proofs.places.fields.said_before.Goals as goal

pub returns : goal.returns
returns c =
    let same = c.in_ok-place.ensures.texts in
    ap (λ (p : PlaceParts). said_of p.country p.region p.city p.postal) (sym same)
    ∙ place_says_itself c.in_ok-place.place.now c.in_ok-place.ensures.form
