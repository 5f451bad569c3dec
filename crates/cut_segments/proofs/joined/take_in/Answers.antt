-- Where the ranges begin that are kept, and those that are left.
use Rattle.std.proofs.Common.{sym, subst}
use Rattle.cut_segments.specs.Segments.{BeginIn}
use Rattle.cut_segments.proofs.JoinedLemmas.{begin_more}
use Rattle.cut_segments.proofs.joined.take_in.Goals as goal
use Rattle.cut_segments.proofs.joined.take_in.Goals.{then-not-lies+in_ok-push-2}
use Rattle.cut_segments.proofs.joined.take_in.Goals.{else-not-lies}

pub returns-then-growing-ground_first-clause-begun :
    goal.returns-then-growing-ground_first-clause-begun
returns-then-growing-ground_first-clause-begun c starts kept rest growing next = (
  subst (BeginIn starts) (sym c.in_ok-push.ensures.items)
      (begin_more starts c.args.kept.now.items c.args.growing kept growing),
  rest,
  next,
)

pub returns-clause-begun : goal.returns-clause-begun
returns-clause-begun c starts kept rest growing next =
    let left : BeginIn starts c.if-not-lies.rest.items =
    elim c.if-not-lies.branch [
      | then-not-lies+in_ok-push-2 w ↦ rw w.rest-is
          (subst (BeginIn starts) (sym w.in_ok-push-2.ensures.items)
          (begin_more starts c.args.rest.now.items c.args.next rest next))
      | else-not-lies w ↦ rw w.rest-is rest
    ] in
    (kept, left, growing)
