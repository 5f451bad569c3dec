use Rattle.std.proofs.Common.{◌≡◌, ◌∙◌, ◌+◌, ◌<◌, ◌++◌, ◌∷◌, [], ℕ, true, false, List, None, ap}
use Rattle.std.proofs.Common.{arith, append-nil, drop, get_or, length, rules, sym}
use Rattle.std.proofs.lemmas.Grind.{common_steps}
use Rattle.std.proofs.lemmas.List.{drop_all, get_or_default}
use Rattle.first_index.specs.Columns.{begin_at, last_ones, of_columns}
use Rattle.first_index.specs.declared.boundaries.Boundary.{Boundary}
use Rattle.first_index.proofs.ColumnLemmas.{columns_of_last, passed_over, put_behind}
use Rattle.first_index.proofs.index.in_columns.Goals as goal
use Rattle.first_index.proofs.index.in_columns.Goals.{else-not-stands_at}
use Rattle.first_index.proofs.index.in_columns.Goals.{
  then-not-stands_at+in_ok-code+in_ok-put_column,
}

pub loop-index-preserved : goal.loop-index-preserved
loop-index-preserved c =
    let xs : List Boundary = c.args.boundaries.now in
    let i : ℕ = c.loop-index.index in
    let within : i < length xs = omega arith in
    let none : Boundary = record { at = 0; first = None } in
    let b : Boundary = get_or xs i none in
    let here : get_or xs i b ≡ b = sym (get_or_default xs i none b within) in
    let test = c.stands_at.ensures in
    elim c.if-not-stands_at.branch [
      | then-not-stands_at+in_ok-code+in_ok-put_column w ↦
          let e : begin_at (drop (i + 1) xs) b.at ≡ false = search rules in
          let put = w.in_ok-put_column.ensures.put in
          let code : ℕ = w.in_ok-code.code in
          let ps : c.if-not-stands_at.points.items ≡ c.loop-index.points.items ++ b.at ∷ [] =
          rw w.points-is put.0 in
          let cs : c.if-not-stands_at.codes.items ≡ c.loop-index.codes.items ++ code ∷ [] =
          rw w.codes-is put.1 in
          rw (ps, cs) (record {
            same_length = grind (arith, common_steps);
            found =
                put_behind xs i b within here c.loop-index.points.items c.loop-index.codes.items
                code e c.loop-index.invariant.same_length w.in_ok-code.ensures
                c.loop-index.invariant.found;
          })
      | else-not-stands_at w ↦
          let e : begin_at (drop (i + 1) xs) b.at ≡ true = search rules in
          let ps : c.if-not-stands_at.points.items ≡ c.loop-index.points.items = search rules in
          let cs : c.if-not-stands_at.codes.items ≡ c.loop-index.codes.items = search rules in
          rw (ps, cs) (record {
            same_length = c.loop-index.invariant.same_length;
            found =
                passed_over xs i b within here
                (of_columns c.loop-index.points.items c.loop-index.codes.items) e
                c.loop-index.invariant.found;
          })
    ]

pub invariant_of-result : goal.invariant_of-result
invariant_of-result c =
    let left : drop c.loop-index.index c.args.boundaries.now ≡ [] =
    drop_all c.loop-index.index c.args.boundaries.now (omega arith) in
    let is = c.loop-index.invariant.found in
    columns_of_last c.args.boundaries.now c.loop-index.points.items c.loop-index.codes.items
    c.requires c.loop-index.invariant.same_length
    (sym (append-nil _) ∙ ap (λ (bs : List Boundary).
    of_columns c.loop-index.points.items c.loop-index.codes.items ++ last_ones bs) (sym left) ∙ is)
