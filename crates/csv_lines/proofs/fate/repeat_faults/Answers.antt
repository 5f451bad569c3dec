-- One more line has its fault.
use Rattle.std.proofs.Common.{sym, ap, ◌≡◌, ◌≤◌, ◌∙◌, ◌++◌, arith, filter, filter_map, length}
use Rattle.std.proofs.Common.{get_or}
use Rattle.std.specs.Prelude.{option_to_list}
use Rattle.std.proofs.lemmas.List.{get_or-map, take_all}
use Rattle.csv_lines.specs.Doubled.{places_from}
use Rattle.csv_lines.specs.Repeats.{fault_by}
use Rattle.csv_lines.specs.declared.fate.Fate.TheVariants.{Kept}
use Rattle.csv_lines.proofs.FateLemmas.{faults_more}
use Rattle.csv_lines.proofs.PlaceLemmas.{length-places, picked}
use Rattle.csv_lines.proofs.fate.repeat_faults.Goals as goal

pub loop-at-preserved : goal.loop-at-preserved
loop-at-preserved g c f p is e =
    let x = c.index-rows-places.result in
    let own = filter p c.args.rows.now in
    let (within, here) =
    picked p c.args.rows.now c.args.places.now c.loop-at.at x is c.loop-at-test.true
    c.index-rows-places.is in
    let fate : get_or c.args.fates.now c.loop-at.at Kept ≡ f x =
    ap (λ t. get_or t c.loop-at.at Kept) e ∙ get_or-map f own c.loop-at.at x Kept within
    ∙ ap f (sym here) in
    let found : c.fault_of.result ≡ fault_by c.args.rules (g.T.Accepted.line x) (f x) =
    c.fault_of.ensures
    ∙ ap (λ n. fault_by c.args.rules n (get_or c.args.fates.now c.loop-at.at Kept)) c.line.ensures
    ∙ ap (fault_by c.args.rules (g.T.Accepted.line x)) fate in
    c.in_ok-push_some.ensures
    ∙ ap (λ t. t ++ option_to_list c.fault_of.result) (c.loop-at.invariant f p is e)
    ∙ faults_more (λ y. fault_by c.args.rules (g.T.Accepted.line y) (f y)) own
    c.loop-at.at x c.fault_of.result within here found

pub returns : goal.returns
returns g c f p is e =
    let long = length-places p 0 c.args.rows.now in
    let same : length c.args.places.now ≡ length (places_from p 0 c.args.rows.now) =
    ap length is in
    let end = c.loop-at-test.false in
    let done : length (filter p c.args.rows.now) ≤ c.loop-at.at = omega arith in
    c.loop-at.invariant f p is e
    ∙ ap (filter_map (λ (x : g.row.T.Denot). fault_by c.args.rules (g.T.Accepted.line x) (f x)))
    (take_all c.loop-at.at (filter p c.args.rows.now) done)
