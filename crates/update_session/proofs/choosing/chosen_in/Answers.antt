-- One segment more, where it is wanted, and what is said of it.
use Rattle.std.proofs.Common.{◌≡◌, ◌∙◌, ◌+◌, ◌<◌, ◌++◌, ◌∷◌, ◌||◌, [], List, Option, ap, arith}
use Rattle.std.proofs.Common.{append-nil, cond, filter, get_or, length, map, not, subst, sym}
use Rattle.std.proofs.Common.{take}
use Rattle.std.specs.Prelude.{is_some}
use Rattle.std.proofs.lemmas.List.{map-append}
use Rattle.std.proofs.lemmas.List.Elements.{filter_more}
use Rattle.std.proofs.lemmas.List.Filters.{FiltersInPlace-more_no}
use Rattle.std.proofs.lemmas.List.Filters.{FiltersInPlace-more_set}
use Rattle.geo_addr.specs.Ranges.{Ends}
use Rattle.geo_terms.specs.PlaceForm.{PlaceParts}
use Rattle.geo_terms.specs.Precedence.{spoken_at}
use Rattle.precedence.proofs.SharedLemmas.{drop_step}
use Rattle.update_session.specs.Build.{StandFor, is_wanted}
use Rattle.update_session.proofs.BuildLemmas.{GrowsBy-trans}
use Rattle.update_session.proofs.choosing.chosen_in.Goals as goal
use Rattle.update_session.proofs.choosing.chosen_in.Goals.{else-is_wanted}
use Rattle.update_session.proofs.choosing.chosen_in.Goals.{then-is_wanted+in_ok-note}

pub loop-at-preserved : goal.loop-at-preserved
loop-at-preserved c =
    let s = c.args.sources.now in
    let wanted = is_wanted s c.args.blank in
    let said = λ (r : Ends). spoken_at s r.first in
    let segment : Ends = c.index-segment.result.now in
    let i = c.loop-at.at in
    let inv = c.loop-at.invariant in
    let xs : List Ends = c.args.segments.items in
    let ys : List Ends = c.loop-at.segments.items in
    let there : i < length ys =
    omega (arith, c.loop-at-test.true, c.len-at-end.ensures, inv.filtered.long) in
    let here : segment ≡ get_or ys i segment = c.index-segment.ensures in
    let within : i < length xs = omega (arith, there, inv.filtered.long) in
    let told : c.is_wanted.result ≡ wanted segment =
    c.is_wanted.ensures
    ∙ ap (λ (o : Option PlaceParts). not c.args.blank || is_some o) c.choice_near-said.ensures in
    let same : get_or xs i segment ≡ segment =
    ap (λ (rs : List Ends). get_or rs 0 segment)
    (sym (drop_step xs i segment within) ∙ sym inv.filtered.rest ∙ drop_step ys i segment there)
    ∙ sym here in
    let more : filter wanted (take (i + 1) xs)
    ≡ filter wanted (take i xs) ++ cond (wanted segment) (segment ∷ []) [] =
    filter_more wanted xs i segment within
    ∙ ap (λ (r : Ends). filter wanted (take i xs) ++ cond (wanted r) (r ∷ []) []) same in
    elim c.if-is_wanted.branch [
      | then-is_wanted+in_ok-note w ↦
          let yes = sym told ∙ w.if-is_wanted.true in
          rw (w.segments-is, w.places-is, w.leaves-is, w.kept-is) (record {
            filtered = FiltersInPlace-more_set inv.filtered there yes here;
            stands = subst (λ (os : List (Option PlaceParts)).
                StandFor w.note.new.places w.note.new.leaves.items os)
                (sym (ap (map said) (more ∙ ap (λ b. filter wanted (take i xs)
                ++ cond b (segment ∷ []) []) yes)
                ∙ map-append said (filter wanted (take i xs)) (segment ∷ [])
                ∙ ap (λ (o : Option PlaceParts). map said (filter wanted (take i xs)) ++ o ∷ [])
                (sym c.choice_near-said.ensures)))
                (w.in_ok-note.ensures.stands (map said (filter wanted (take i xs))) inv.stands);
            grown = GrowsBy-trans [] c.loop-at.places w.note.new.places c.loop-at.kept 1
                (c.loop-at.kept + 1) inv.grown w.in_ok-note.ensures.places (omega arith);
          })
      | else-is_wanted w ↦
          let no = sym told ∙ w.if-is_wanted.false in
          rw (w.segments-is, w.places-is, w.leaves-is, w.kept-is) (record {
            filtered = FiltersInPlace-more_no inv.filtered there no here;
            stands = subst (λ (rs : List Ends).
                StandFor c.loop-at.places c.loop-at.leaves.items (map said rs))
                (sym (more ∙ ap (λ b. filter wanted (take i xs) ++ cond b (segment ∷ []) []) no
                ∙ append-nil (filter wanted (take i xs)))) inv.stands;
            grown = inv.grown;
          })
    ]
