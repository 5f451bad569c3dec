use Rattle.std.proofs.Common.{◌≡◌, ◌∙◌, ◌-◌, ◌++◌, ◌∷◌, [], ℕ, List, Some, ap, length}
use Rattle.std.proofs.Common.{slice_get, subst, sym}
use Rattle.first_index.specs.Columns.{of_columns}
use Rattle.first_index.specs.Nested.{IsPut}
use Rattle.first_index.specs.declared.boundaries.Boundary.{Boundary}
use Rattle.first_index.proofs.ColumnLemmas.{put_columns, set_columns}
use Rattle.first_index.proofs.index.FirstIndex.put.Goals as goal

pub returns-then-is_past : goal.returns-then-is_past
returns-then-is_past c =
    let ps : List ℕ = c.self.inside.points.items in
    let cs : List ℕ = c.self.inside.codes.items in
    let put = c.in_ok-put_column.ensures.put in
    let new : of_columns c.put_column.new.points.items c.put_column.new.codes.items
    ≡ of_columns (ps ++ c.args.at ∷ []) (cs ++ c.in_ok-code.code ∷ []) =
    ap (λ xs. of_columns xs c.put_column.new.codes.items) put.0
    ∙ ap (λ xs. of_columns (ps ++ c.args.at ∷ []) xs) put.1 in
    subst (λ (bs : List Boundary). IsPut c.args.at c.args.first bs
    (of_columns c.put_column.new.points.items c.put_column.new.codes.items)) c.self.view_is
    (subst (λ (bs : List Boundary). IsPut c.args.at c.args.first (of_columns ps cs) bs) (sym new)
    (put_columns ps cs c.args.at c.in_ok-code.code c.args.first c.self.invariant.same_length
    c.in_ok-code.ensures))

pub returns : goal.returns
returns c =
    let ps : List ℕ = c.self.inside.points.items in
    let cs : List ℕ = c.self.inside.codes.items in
    let held = c.is_past.ensures.held c.if-is_past.false in
    let last : slice_get ps (length ps - 1) ≡ Some held.0 =
    subst (λ (xs : List ℕ). slice_get xs (length xs - 1) ≡ Some held.0) c.as_slice.ensures.value
    held.1.0 in
    subst (λ (bs : List Boundary). IsPut c.args.at c.args.first bs
    (of_columns ps c.set_last.new.codes.items)) c.self.view_is
    (subst (λ (xs : List ℕ). IsPut c.args.at c.args.first (of_columns ps cs) (of_columns ps xs))
    (sym c.set_last.ensures)
    (set_columns ps cs held.0 c.args.at c.in_ok-code.code c.args.first
    c.self.invariant.same_length last held.1.1 c.in_ok-code.ensures))
