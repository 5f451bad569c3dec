-- One more line, and all of them.
use Rattle.std.proofs.Common.{◌≡◌, ◌≤◌, ◌∙◌, ap, arith, filter, length, sym, take}
use Rattle.std.proofs.lemmas.List.{take_all}
use Rattle.csv_lines.specs.Doubled.{places_from, shown, with_row}
use Rattle.csv_lines.proofs.FateLemmas.{shown_more}
use Rattle.csv_lines.proofs.PlaceLemmas.{length-places, picked}
use Rattle.csv_lines.proofs.fate.seen_in.Goals as goal

pub loop-at-preserved : goal.loop-at-preserved
loop-at-preserved g c p is k =
    let x = c.index-rows-places.result in
    let own = filter p c.args.rows.now in
    let (within, here) =
    picked p c.args.rows.now c.args.places.now c.loop-at.at x is c.loop-at-test.true
    c.index-rows-places.is in
    c.in_ok-see.ensures k
    ∙ ap (λ s. with_row g.T.Accepted.line g.T.Accepted.range g.T.Accepted.said s x k)
    (c.loop-at.invariant p is k)
    ∙ ap (λ y. with_row g.T.Accepted.line g.T.Accepted.range g.T.Accepted.said
    (shown g.T.Accepted.line g.T.Accepted.range g.T.Accepted.said (take c.loop-at.at own) k)
    y k) here
    ∙ sym (shown_more g.T.Accepted.line g.T.Accepted.range g.T.Accepted.said own c.loop-at.at x k
    within)

pub returns : goal.returns
returns g c p is k =
    let long = length-places p 0 c.args.rows.now in
    let same : length c.args.places.now ≡ length (places_from p 0 c.args.rows.now) =
    ap length is in
    let end = c.loop-at-test.false in
    let done : length (filter p c.args.rows.now) ≤ c.loop-at.at = omega arith in
    c.loop-at.invariant p is k
    ∙ ap (λ t. shown g.T.Accepted.line g.T.Accepted.range g.T.Accepted.said t k)
    (take_all c.loop-at.at (filter p c.args.rows.now) done)
