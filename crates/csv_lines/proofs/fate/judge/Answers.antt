-- Where the ranges rise, no two lines have the same.
use Rattle.std.proofs.Common.{◌≡◌, ◌<◌, ◌∙◌, ℕ, All, Bool, false, sym, ap, rules, subst, List}
use Rattle.std.proofs.Common.{filter, filter_map, length, map}
use Rattle.std.proofs.lemmas.List.{length-map}
use Rattle.geo_addr.specs.Ranges.{Ends}
use Rattle.csv_lines.specs.Doubled.{IsAlone, is_shared, places_from}
use Rattle.csv_lines.specs.Repeats.{Rises, fate, fault_by, merged, repeat_faults}
use Rattle.csv_lines.specs.declared.fate.Fate.{Fate}
use Rattle.geo_terms.specs.declared.note.LineNote.{LineNote}
use Rattle.csv_lines.proofs.FateLemmas.{all_kept, none_repeats}
use Rattle.csv_lines.proofs.PlaceLemmas.{length-places, others_kept, others_silent}
use Rattle.csv_lines.proofs.PlaceLemmas.{places_within}
use Rattle.csv_lines.proofs.fate.judge.Goals as goal

pub returns-then-rises-clause-rows : goal.returns-then-rises-clause-rows
returns-then-rises-clause-rows g c =
    let up = c.rises.ensures (search rules) in
    sym (all_kept g.T.Accepted.line g.T.Accepted.range g.T.Accepted.said c.args.rows.items
    (rw c.as_slice.ensures.value at up))

pub returns-then-rises-clause-faults : goal.returns-then-rises-clause-faults
returns-then-rises-clause-faults g c =
    let up = c.rises.ensures (search rules) in
    ap (λ (t : List LineNote). merged t c.args.faults.items)
    (sym (none_repeats g.T.Accepted.line g.T.Accepted.range g.T.Accepted.said c.args.rules
    c.args.rows.items (rw c.as_slice.ensures.value at up)))

pub fates-requires : goal.fates-requires
fates-requires g c =
    let rows : List g.row.T.Denot = c.args.rows.items in
    let q : Ends → Bool = is_shared c.as_slice-4.result.now in
    let p : g.row.T.Denot → Bool = λ x. q (g.T.Accepted.range x) in
    let places_are : c.in_ok-places.places.items ≡ places_from p 0 rows =
    c.in_ok-places.ensures ∙ ap (places_from p 0) c.as_slice-3.ensures.value in
    let here = c.as_slice-6.ensures.value ∙ places_are
    ∙ ap (places_from p 0) (sym c.as_slice-5.ensures.value) in record {
      rising =
          subst (λ (t : List g.row.T.Denot). Rises 0 (map g.T.Accepted.line t))
          (sym c.as_slice-5.ensures.value) c.requires;
      within =
          subst (λ (ps : List ℕ). All (λ i. i < length c.as_slice-5.result.now) ps) (sym here)
          (places_within p c.as_slice-5.result.now);
    }

pub repeat_faults-requires : goal.repeat_faults-requires
repeat_faults-requires g c =
    let rows : List g.row.T.Denot = c.args.rows.items in
    let q : Ends → Bool = is_shared c.as_slice-4.result.now in
    let p : g.row.T.Denot → Bool = λ x. q (g.T.Accepted.range x) in
    let places_are : c.in_ok-places.places.items ≡ places_from p 0 rows =
    c.in_ok-places.ensures ∙ ap (places_from p 0) c.as_slice-3.ensures.value in
    let f : g.row.T.Denot → Fate =
    fate g.T.Accepted.line g.T.Accepted.range g.T.Accepted.said rows in
    let is : c.in_ok-fates.fates.items ≡ map f (filter p rows) =
    c.in_ok-fates.ensures q (c.as_slice-6.ensures.value ∙ places_are
    ∙ ap (places_from p 0) (sym c.as_slice-5.ensures.value))
    ∙ ap (λ (t : List g.row.T.Denot).
    map (fate g.T.Accepted.line g.T.Accepted.range g.T.Accepted.said t) (filter p t))
    c.as_slice-5.ensures.value in
    let here = c.as_slice-8.ensures.value ∙ places_are
    ∙ ap (places_from p 0) (sym c.as_slice-7.ensures.value) in record {
      within =
          subst (λ (ps : List ℕ). All (λ i. i < length c.as_slice-7.result.now) ps) (sym here)
          (places_within p c.as_slice-7.result.now);
      long =
          ap length (c.as_slice-9.ensures.value ∙ is) ∙ length-map (filter p rows) f
          ∙ sym (length-places p 0 rows)
          ∙ ap length (sym (c.as_slice-8.ensures.value ∙ places_are));
    }

pub keep-requires : goal.keep-requires
keep-requires g c =
    let rows : List g.row.T.Denot = c.args.rows.items in
    let q : Ends → Bool = is_shared c.as_slice-4.result.now in
    let p : g.row.T.Denot → Bool = λ x. q (g.T.Accepted.range x) in
    let places_are : c.in_ok-places.places.items ≡ places_from p 0 rows =
    c.in_ok-places.ensures ∙ ap (places_from p 0) c.as_slice-3.ensures.value in
    let f : g.row.T.Denot → Fate =
    fate g.T.Accepted.line g.T.Accepted.range g.T.Accepted.said rows in
    let is : c.in_ok-fates.fates.items ≡ map f (filter p rows) =
    c.in_ok-fates.ensures q (c.as_slice-6.ensures.value ∙ places_are
    ∙ ap (places_from p 0) (sym c.as_slice-5.ensures.value))
    ∙ ap (λ (t : List g.row.T.Denot).
    map (fate g.T.Accepted.line g.T.Accepted.range g.T.Accepted.said t) (filter p t))
    c.as_slice-5.ensures.value in
    ap length (c.as_slice-13.ensures.value ∙ is) ∙ length-map (filter p rows) f
    ∙ sym (length-places p 0 rows) ∙ ap length (sym (c.as_slice-12.ensures.value ∙ places_are))

pub returns-clause-rows : goal.returns-clause-rows
returns-clause-rows g c =
    let rows : List g.row.T.Denot = c.args.rows.items in
    let q : Ends → Bool = is_shared c.as_slice-4.result.now in
    let p : g.row.T.Denot → Bool = λ x. q (g.T.Accepted.range x) in
    let places_are : c.in_ok-places.places.items ≡ places_from p 0 rows =
    c.in_ok-places.ensures ∙ ap (places_from p 0) c.as_slice-3.ensures.value in
    let f : g.row.T.Denot → Fate =
    fate g.T.Accepted.line g.T.Accepted.range g.T.Accepted.said rows in
    let is : c.in_ok-fates.fates.items ≡ map f (filter p rows) =
    c.in_ok-fates.ensures q (c.as_slice-6.ensures.value ∙ places_are
    ∙ ap (places_from p 0) (sym c.as_slice-5.ensures.value))
    ∙ ap (λ (t : List g.row.T.Denot).
    map (fate g.T.Accepted.line g.T.Accepted.range g.T.Accepted.said t) (filter p t))
    c.as_slice-5.ensures.value in
    let alone : (k : Ends) → q k ≡ false → IsAlone k (map g.T.Accepted.range rows) =
    rw (← c.as_slice-2.ensures.value, c.as_slice-4.ensures.value) c.in_ok-counts.ensures.alone in
    c.keep.ensures f p (c.as_slice-12.ensures.value ∙ places_are) (c.as_slice-13.ensures.value ∙ is)
    (others_kept g.T.Accepted.line g.T.Accepted.range g.T.Accepted.said rows q alone)

pub returns-clause-faults : goal.returns-clause-faults
returns-clause-faults g c =
    let rows : List g.row.T.Denot = c.args.rows.items in
    let q : Ends → Bool = is_shared c.as_slice-4.result.now in
    let p : g.row.T.Denot → Bool = λ x. q (g.T.Accepted.range x) in
    let places_are : c.in_ok-places.places.items ≡ places_from p 0 rows =
    c.in_ok-places.ensures ∙ ap (places_from p 0) c.as_slice-3.ensures.value in
    let f : g.row.T.Denot → Fate =
    fate g.T.Accepted.line g.T.Accepted.range g.T.Accepted.said rows in
    let is : c.in_ok-fates.fates.items ≡ map f (filter p rows) =
    c.in_ok-fates.ensures q (c.as_slice-6.ensures.value ∙ places_are
    ∙ ap (places_from p 0) (sym c.as_slice-5.ensures.value))
    ∙ ap (λ (t : List g.row.T.Denot).
    map (fate g.T.Accepted.line g.T.Accepted.range g.T.Accepted.said t) (filter p t))
    c.as_slice-5.ensures.value in
    let alone : (k : Ends) → q k ≡ false → IsAlone k (map g.T.Accepted.range rows) =
    rw (← c.as_slice-2.ensures.value, c.as_slice-4.ensures.value) c.in_ok-counts.ensures.alone in
    let found : c.in_ok-repeated.repeated.items
    ≡ repeat_faults g.T.Accepted.line g.T.Accepted.range g.T.Accepted.said c.args.rules rows =
    c.in_ok-repeated.ensures f p (c.as_slice-8.ensures.value ∙ places_are
    ∙ ap (places_from p 0) (sym c.as_slice-7.ensures.value))
    (c.as_slice-9.ensures.value ∙ is
    ∙ ap (λ (t : List g.row.T.Denot). map f (filter p t)) (sym c.as_slice-7.ensures.value))
    ∙ ap (λ (t : List g.row.T.Denot). filter_map
    (λ x. fault_by c.args.rules (g.T.Accepted.line x) (f x)) (filter p t))
    c.as_slice-7.ensures.value
    ∙ others_silent g.T.Accepted.line g.T.Accepted.range g.T.Accepted.said c.args.rules rows q
    alone in
    c.in_ok-faults.ensures
    ∙ ap (λ (t : List LineNote). merged t c.as_slice-11.result.now)
    (c.as_slice-10.ensures.value ∙ found)
    ∙ ap (merged (repeat_faults g.T.Accepted.line g.T.Accepted.range g.T.Accepted.said
    c.args.rules rows)) c.as_slice-11.ensures.value
