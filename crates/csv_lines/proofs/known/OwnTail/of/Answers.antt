-- The bytes are those of the tail, and the place is the tail's.
use Rattle.std.proofs.Common.{◌≡◌, ◌∙◌, ◌++◌, List, ℕ, ap, subst, sym}
use Rattle.csv_lines.specs.Tails.{IsCut, SaysBehind}
use Rattle.csv_lines.proofs.known.OwnTail.of.Goals as goal

pub invariant_of-result : goal.invariant_of-result
invariant_of-result c line first cut =
    let bytes : c.extend_from_slice.new.self.items ≡ c.args.text.now =
    c.in_ok-extend_from_slice.ensures.items
    ∙ ap (λ (xs : List ℕ). xs ++ c.args.text.now) c.in_ok-bytes.ensures.items in
    subst (SaysBehind line first) (sym c.in_ok-place.ensures)
    (c.requires line first (subst (λ (t : List ℕ). IsCut line first t) bytes cut))
