use Rattle.std.proofs.Common.{◌^◌, ◌≤◌, ℕ, List, Bor, length}
use Rattle.std.specs.Option.{unwrap_or}
use Rattle.first_index.specs.Nested.{ArePassed}
use Rattle.first_index.proofs.nested.close.Given as goal

-- whatever was passed is passed up to an address that is not behind the next one
abbrev pub invariant-loop-last : goal.invariant-loop-last
invariant-loop-last g l =
    (cs : List (ℕ × Bor g.row.S.Denot)) (low : ℕ) → low ≤ unwrap_or l.fn.next (2 ^ 128)
    → ArePassed (λ x y. g.S.Statement.order x.now y.now) (λ x. g.S.Statement.range x.now) cs low
    l.fn.index l.fn.opened.items
    → (n : ℕ) × (n ≤ unwrap_or l.fn.next (2 ^ 128))
    × ArePassed (λ x y. g.S.Statement.order x.now y.now) (λ x. g.S.Statement.range x.now) cs n
    l.index l.opened.items

abbrev pub decreases-loop-last : goal.decreases-loop-last
decreases-loop-last g l = length l.opened.items
