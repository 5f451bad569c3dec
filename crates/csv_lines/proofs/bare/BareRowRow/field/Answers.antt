-- A field within the count is that at its index, and there is none past it.
use Rattle.std.proofs.Common.{◌∙◌, ◌≤◌, Bor, List, length, ℕ, ap, arith}
use Rattle.csv.specs.Records.{field_at}
use Rattle.csv_lines.proofs.BareLemmas.{field_past, field_within}
use Rattle.csv_lines.proofs.bare.BareRowRow.field.Goals as goal

abbrev shown : Bor (List ℕ) → List ℕ
shown s = s.now

pub returns-then-index-self : goal.returns-then-index-self
returns-then-index-self c =
    let r = c.self.inside in
    let long : r.count ≤ length r.fields = omega (arith, c.self.told, c.self.invariant) in
    field_within shown r.fields r.count c.args.index _ (omega (arith, c.if-index-self.true)) long
    ∙ ap (λ row. field_at row c.args.index) c.self.view_is

pub returns-else-index-self : goal.returns-else-index-self
returns-else-index-self c =
    let r = c.self.inside in
    field_past shown r.fields r.count c.args.index (omega (arith, c.if-index-self.false))
    ∙ ap (λ row. field_at row c.args.index) c.self.view_is
