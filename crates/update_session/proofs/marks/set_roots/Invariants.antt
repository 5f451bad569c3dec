use Rattle.std.proofs.Common.{◌≡◌, take}
use Rattle.update_session.specs.Marks.{with_roots}
use Rattle.update_session.proofs.marks.set_roots.Given as goal

-- the first marks have their new roots
abbrev pub invariant-loop-at : goal.invariant-loop-at
invariant-loop-at l = l.marks ≡ with_roots l.fn.marks (take l.at l.roots)
