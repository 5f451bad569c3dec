-- A line that is cut has fields, and hands nothing over.
use Rattle.std.proofs.Common.{◌≡◌, ◌∙◌, inl, inr, List, [], ℕ, true, refl, sym, subst}
use Rattle.std.specs.List.{list_all}
use Rattle.std.specs.Prelude.{IfSome, IsSome, Option, Some, None}
use Rattle.geo_addr.specs.Lines.{pieces}
use Rattle.csv_lines.specs.Clean.{AreTexts}
use Rattle.csv_lines.specs.Fields.{is_bare}
use Rattle.csv_lines.specs.Rests.{content_of, handed, rest_of, row_of}
use Rattle.csv_lines.specs.declared.rest.Content.TheVariants.{Fields}
use Rattle.csv_lines.proofs.BareLemmas.{bare_line, not_taken, taken_bare, taken_few}
use Rattle.csv_lines.proofs.TextLemmas.{fields_are_texts}
use Rattle.csv_lines.proofs.bare.bare_row.Goals as goal
use Rattle.csv_lines.proofs.bare.bare_row.Goals.{then-is_empty-via-then-is_empty}
use Rattle.csv_lines.proofs.bare.bare_row.Goals.{then-is_empty-via-else-is_empty+then-not-is_text}

found : (c : goal.After-cut_bare) → IsSome c.cut_bare.result
    → (content_of (rest_of c.args.line.now) ≡ Fields)
    × (pieces 44 c.trim_blanks-rest.result.now ≡ row_of (rest_of c.args.line.now))
    × (handed c.args.line.now ≡ [])
found c some =
    bare_line c.args.line.now c.trim_blanks-rest.result.now c.trim_blanks-rest.ensures
    (sym c.is_empty.ensures ∙ c.if-is_empty.false)
    (sym c.is_text.ensures ∙ c.if-not-is_text.false) (c.cut_bare.ensures.bare some)

row_by : (row : Option (List (List ℕ))) (one other : List (List ℕ)) → IfSome row (λ r. r ≡ one)
    → (IsSome row → one ≡ other) → IfSome row (λ r. r ≡ other)
row_by None one other is same = tt
row_by (Some r) one other is same = is ∙ same refl

texts_by : (row : Option (List (List ℕ))) (other : List (List ℕ)) → IfSome row (λ r. r ≡ other)
    → (IsSome row → AreTexts other) → IfSome row (λ r. AreTexts r)
texts_by None other is texts = tt
texts_by (Some r) other is texts = subst AreTexts (sym is) (texts refl)

pub returns-clause-content : goal.returns-clause-content
returns-clause-content c some = (found c some).0

pub returns-clause-row : goal.returns-clause-row
returns-clause-row c =
    row_by c.cut_bare.result _ _ c.cut_bare.ensures.row (λ some. (found c some).1)

pub returns-clause-texts : goal.returns-clause-texts
returns-clause-texts c =
    texts_by c.cut_bare.result _ (returns-clause-row c)
    (λ some. fields_are_texts c.args.line.now (found c some).0)

pub returns-clause-handed : goal.returns-clause-handed
returns-clause-handed c some = (found c some).2

pub returns-clause-bare : goal.returns-clause-bare
returns-clause-bare c some =
    subst (λ (t : List ℕ). list_all is_bare t ≡ true) c.trim_blanks-rest.ensures
    (c.cut_bare.ensures.bare some)

pub returns-then-is_empty-clause-taken : goal.returns-then-is_empty-clause-taken
returns-then-is_empty-clause-taken c taken =
    absurd (
    not_taken c.args.line.now c.trim_blanks-rest.result.now c.trim_blanks-rest.ensures
    (elim c.then-is_empty.branch [
      | then-is_empty-via-then-is_empty w ↦ inl (sym c.is_empty.ensures ∙ w.if-is_empty.true)
      | then-is_empty-via-else-is_empty+then-not-is_text w ↦
          inr (sym w.is_text.ensures ∙ w.if-not-is_text.true)
    ])
    taken)

pub returns-clause-taken : goal.returns-clause-taken
returns-clause-taken c taken =
    let line = c.args.line.now in
    let rest = c.trim_blanks-rest.result.now in
    let is = c.trim_blanks-rest.ensures in
    let bare = taken_bare line rest is taken in
    let fields =
    (bare_line line rest is (sym c.is_empty.ensures ∙ c.if-is_empty.false)
    (sym c.is_text.ensures ∙ c.if-not-is_text.false) bare).1 in
    c.cut_bare.ensures.taken bare (taken_few line (pieces 44 rest) fields taken)
