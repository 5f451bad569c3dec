-- One more line has its fate.
use Rattle.std.proofs.Common.{◌≡◌, ◌≤◌, ◌<◌, ◌∙◌, ◌++◌, ◌∷◌, [], Bool, true, ap, arith, filter}
use Rattle.std.proofs.Common.{get_or, length, map, subst, sym}
use Rattle.std.specs.BTreeMap.{get}
use Rattle.std.proofs.lemmas.List.{take_all}
use Rattle.std.proofs.lemmas.List.Elements.{filter_passes}
use Rattle.csv_lines.specs.Doubled.{ends_cmp, places_from}
use Rattle.csv_lines.specs.Repeats.{fate}
use Rattle.csv_lines.proofs.PlaceLemmas.{fate_picked, length-places, picked}
use Rattle.csv_lines.proofs.TakenLemmas.{mapped_more}
use Rattle.csv_lines.proofs.fate.fates.Goals as goal

pub loop-at-preserved : goal.loop-at-preserved
loop-at-preserved g c q is =
    let x = c.index-rows-places.result in
    let p : g.row.T.Denot → Bool = λ y. q (g.T.Accepted.range y) in
    let (within, here) =
    picked p c.args.rows.now c.args.places.now c.loop-at.at x is c.loop-at-test.true
    c.index-rows-places.is in
    let inside : get_or c.args.places.now c.loop-at.at 0 < length c.args.rows.now =
    c.requires.within c.loop-at.at 0 c.loop-at-test.true in
    let own : p x ≡ true =
    subst (λ (y : g.row.T.Denot). p y ≡ true) (sym here)
    (filter_passes p c.args.rows.now c.loop-at.at x within) in
    let told = c.fate_in.ensures
    ∙ fate_picked g.T.Accepted.line g.T.Accepted.range g.T.Accepted.said c.args.rows.now q x
    (get_or c.args.places.now c.loop-at.at 0)
    (get ends_cmp c.in_ok-seen.seen (g.T.Accepted.range x)) c.requires.rising inside
    c.index-rows-places.is own (c.in_ok-seen.ensures p is (g.T.Accepted.range x)) in
    c.in_ok-push.ensures.items ∙ ap (λ t. t ++ (c.fate_in.result ∷ [])) (c.loop-at.invariant q is)
    ∙ mapped_more (fate g.T.Accepted.line g.T.Accepted.range g.T.Accepted.said c.args.rows.now)
    (filter p c.args.rows.now) c.loop-at.at x c.fate_in.result within here told

pub returns : goal.returns
returns g c q is =
    let p : g.row.T.Denot → Bool = λ y. q (g.T.Accepted.range y) in
    let long = length-places p 0 c.args.rows.now in
    let same : length c.args.places.now ≡ length (places_from p 0 c.args.rows.now) =
    ap length is in
    let end = c.loop-at-test.false in
    let done : length (filter p c.args.rows.now) ≤ c.loop-at.at = omega arith in
    c.loop-at.invariant q is
    ∙ ap (map (fate g.T.Accepted.line g.T.Accepted.range g.T.Accepted.said c.args.rows.now))
    (take_all c.loop-at.at (filter p c.args.rows.now) done)
