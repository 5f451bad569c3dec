-- What the line says, each line with its tail says.
use Rattle.std.proofs.Common.{◌≡◌, List, ℕ, ap, subst, sym}
use Rattle.csv_lines.specs.Tails.{Cut, IsCut, IsTail, SaysBehind}
use Rattle.csv_lines.proofs.TailLemmas.{tail_says}
use Rattle.csv_lines.proofs.tails.Tails.keep.Goals as goal

pub invariant_of-tail : goal.invariant_of-tail
invariant_of-tail c line first cut =
    let (earlier, cut_off, says) = c.requires in
    let view : c.cut.inside.tail.now ≡ c.args.cut.now.tail =
    ap (λ (t : Cut). t.tail) c.cut.view_is in
    let held : IsTail c.args.cut.now.tail c.args.place.now =
    tail_says earlier c.args.cut.now.first c.args.cut.now.tail c.args.place.now cut_off says in
    subst (SaysBehind line first) (sym c.in_ok-place.ensures)
    (held line first (subst (λ (t : List ℕ). IsCut line first t) view cut))
