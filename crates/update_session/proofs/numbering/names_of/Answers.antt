-- One place more, and its number.
use Rattle.std.proofs.Common.{rules, arith, ap, length, map, Some, add-one, ◌<◌, ◌∙◌}
use Rattle.std.specs.Prelude.{slice_get}
use Rattle.std.proofs.lemmas.List.{length-map}
use Rattle.geo_terms.specs.Numbers.{place_at}
use Rattle.geo_terms.specs.PlaceForm.{PlaceParts}
use Rattle.update_session.proofs.BuildLemmas.{GrowsBy-trans}
use Rattle.update_session.proofs.NumberingLemmas.{StandFor-more, some_at}
use Rattle.update_session.proofs.numbering.names_of.Goals as goal

pub loop-at-preserved : goal.loop-at-preserved
loop-at-preserved c =
    let local = c.args.local.now in
    let at = c.loop-at.at in
    let below : at < length local = search rules in
    record {
      stands = StandFor-more c.loop-at.places c.leaf_of.new.places 1 c.loop-at.names.items
          c.push.new.self.items (map Some local) at c.in_ok-name.name (slice_get local at)
          c.in_ok-name.ensures.places c.loop-at.invariant.stands c.in_ok-name.ensures.few
          (c.in_ok-name.ensures.place ∙ c.get.ensures ∙ ap (place_at local) (add-one at))
          (omega (arith, length-map local (λ (p : PlaceParts). Some p), below))
          (some_at local at below) c.in_ok-push.ensures.items;
      grown = GrowsBy-trans _ _ _ _ _ _ c.loop-at.invariant.grown c.in_ok-name.ensures.places
          (omega arith);
    }
