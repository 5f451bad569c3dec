use Rattle.std.proofs.Common.{◌<◌, ℕ, Bor, List, length, refl, subst}
use Rattle.std.proofs.lemmas.List.Sorted.{IsPermutation-swap, IsPermutation-trans}
use Rattle.precedence.proofs.runs.sink.Goals as goal

pub loop-preserved : goal.loop-preserved
loop-preserved c =
    let both = c.if-not-is_above.ensures refl in
    let xs : List (Bor (List ℕ)) = c.loop.runs.items in
    let there : c.loop.at < length xs =
    subst (λ (ys : List (Bor (List ℕ))). c.loop.at < length ys) c.as_slice-in-loop.ensures.value
    both.0 in
    let below : c.lower_child-child.result < length xs =
    subst (λ (ys : List (Bor (List ℕ))). c.lower_child-child.result < length ys)
    c.as_slice-in-loop.ensures.value both.1 in
    IsPermutation-trans c.args.runs.now.items xs c.swap.new.self.items c.loop.invariant
    (IsPermutation-swap xs c.swap.new.self.items c.loop.at c.lower_child-child.result there below
    c.swap.ensures.items)
