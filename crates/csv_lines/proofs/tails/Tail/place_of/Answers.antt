-- The line ends as this tail.
use Rattle.std.proofs.Common.{◌≡◌, ◌∙◌, List, ℕ, ap, subst, sym}
use Rattle.geo_terms.proofs.NumberLemmas.{text_told}
use Rattle.csv_lines.specs.Tails.{Cut, IsCut}
use Rattle.csv_lines.proofs.tails.Tail.place_of.Goals as goal

pub returns-then-same_bytes : goal.returns-then-same_bytes
returns-then-same_bytes c line first cut =
    let view : c.cut.inside.tail.now ≡ c.args.cut.now.tail =
    ap (λ (t : Cut). t.tail) c.cut.view_is in
    let same : c.self.inside.text.now ≡ c.cut.inside.tail.now =
    (text_told c.self.inside.text.now c.cut.inside.tail.now).0
    (sym c.same_bytes.ensures ∙ c.if-same_bytes.true) in
    c.self.invariant line first (subst (λ (t : List ℕ). IsCut line first t) (sym (same ∙ view)) cut)
