use Rattle.std.proofs.Common.{◌≡◌, ◌∷◌, map, take}
use Rattle.update_session.proofs.marks.all_roots.Given as goal

-- the root, and those of the marks so far
abbrev pub invariant-loop-mark : goal.invariant-loop-mark
invariant-loop-mark l = l.roots.items ≡ l.fn.root ∷ map (λ m. m.root) (take l.mark-index l.marks)
