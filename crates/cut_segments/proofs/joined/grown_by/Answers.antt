-- Where the range begins that grows.
use Rattle.cut_segments.proofs.JoinedLemmas.{begin_one, begins_at}
use Rattle.cut_segments.proofs.joined.grown_by.Goals as goal

pub returns-in_default-next-clause-begun : goal.returns-in_default-next-clause-begun
returns-in_default-next-clause-begun c starts kept rest growing next = (
  kept,
  rest,
  begin_one starts c.in-Some.range
      (begins_at starts c.args.growing c.in-Some.range c.in-Some.is growing),
)

pub returns-clause-begun : goal.returns-clause-begun
returns-clause-begun c starts kept rest growing next =
    let all = c.in_ok-grown.ensures.begun starts kept rest
    (begins_at starts c.args.growing c.in-Some.range c.in-Some.is growing)
    (begins_at starts c.args.next c.in-Some-next.more c.in-Some-next.is next) in
    (all.0, all.1, begin_one starts c.in_ok-grown.grown all.2)
