use Rattle.std.proofs.Common.{inl}
use Rattle.std.proofs.Common.{rules}
use Rattle.std.proofs.lemmas.Iterator.Adapters.{YieldsList-from_vec}
use Rattle.std.proofs.lemmas.Iterator.Consumers.{YieldsList-so_far, YieldsList-turn}
use Rattle.job_run.proofs.FeedLemmas.{first_of}
use Rattle.job_run.proofs.feeds.all_feeds.Goals as goal

pub returns-in-Err-clause-refused : goal.returns-in-Err-clause-refused
returns-in-Err-clause-refused c =
    let yields = YieldsList-from_vec {s = c.into_iter-found-iterator.result} c.args.parsed.items
    (search rules) (search rules) in
    let turn = YieldsList-turn yields c.loop-found.yielded c.loop-found.found-iterator
    c.loop-found.yielded_by c.next.result c.next.new.self c.in-Some.found c.in-Some.is
    c.next.ensures.steps in
    let far = YieldsList-so_far yields c.loop-found.yielded c.loop-found.found-iterator
    c.loop-found.yielded_by in
    inl (first_of c.args.parsed.items c.loop-found.feeds.items c.loop-found.yielded c.in-Err.why _
    c.loop-found.invariant far turn.0 (search rules) (search rules))
