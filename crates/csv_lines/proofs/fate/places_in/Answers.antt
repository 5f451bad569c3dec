-- One more line has one of the ranges, or not.
use Rattle.std.proofs.Common.{◌≡◌, ◌<◌, ◌∙◌, ◌++◌, ◌∷◌, [], Bool, true, false, ap, length, rules}
use Rattle.csv_lines.specs.Doubled.{is_shared}
use Rattle.csv_lines.proofs.PlaceLemmas.{places_no, places_yes}
use Rattle.csv_lines.proofs.fate.places_in.Goals as goal
use Rattle.csv_lines.proofs.fate.places_in.Goals.{then-is_shared+in_ok-push, else-is_shared}

pub loop-at-preserved : goal.loop-at-preserved
loop-at-preserved g c =
    let x = c.index-rows-at.result in
    let p : g.row.T.Denot → Bool =
    λ y. is_shared c.args.counts.now (g.T.Accepted.range y) in
    let within : c.loop-at.at < length c.args.rows.now = search rules in
    elim c.if-is_shared.branch [
      | then-is_shared+in_ok-push w ↦
          let holds : p x ≡ true = search rules in
          rw w.places-is (w.in_ok-push.ensures.items
          ∙ ap (λ t. t ++ (c.loop-at.at ∷ [])) c.loop-at.invariant
          ∙ places_yes p c.args.rows.now c.loop-at.at x within c.index-rows-at.is holds)
      | else-is_shared w ↦
          let fails : p x ≡ false = search rules in
          rw w.places-is (c.loop-at.invariant
          ∙ places_no p c.args.rows.now c.loop-at.at x within c.index-rows-at.is fails)
    ]
