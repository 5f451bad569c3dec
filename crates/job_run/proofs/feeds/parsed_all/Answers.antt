-- All so far are parsed but the run, and then that too.
use Rattle.std.proofs.Common.{◌∙◌, List, rules, subst, sym}
use Rattle.std.proofs.lemmas.List.{map-id}
use Rattle.std.proofs.lemmas.Iterator.Adapters.{YieldsList-from_vec}
use Rattle.std.proofs.lemmas.Iterator.Consumers.{YieldsList-end}
use Rattle.std.specs.List.{AllZip}
use Rattle.job_run.specs.declared.feeds.Held.{Held}
use Rattle.job_run.specs.Feeds.{Parses}
use Rattle.job_run.proofs.FeedLemmas.{none_parsed, run_and_long, run_longer, run_parsed}
use Rattle.job_run.proofs.feeds.parsed_all.Goals as goal

pub loop-one-init : goal.loop-one-init
loop-one-init g c =
    none_parsed c.new-run.result.items c.new-parsed.result.items c.new-run.ensures.items
    c.new-parsed.ensures.items

pub loop-one-preserved-in-Continue-1 : goal.loop-one-preserved-in-Continue-1
loop-one-preserved-in-Continue-1 g c =
    run_longer c.loop-one.run.items c.loop-one.yielded c.push.new.self.items
    c.loop-one.parsed.items c.in-Some.one c.loop-one.invariant c.in_ok-push.ensures.items

pub loop-one-preserved : goal.loop-one-preserved
loop-one-preserved g c =
    run_and_long c.loop-one.run.items c.loop-one.yielded
    c.new-run-else-len-le-FEED_PART.result.items c.loop-one.parsed.items
    c.add_run.new.parsed.items c.add_long.new.parsed.items c.in-Some.one c.loop-one.invariant
    c.in_ok-add_run.ensures c.in_ok-add_long.ensures c.new-run-else-len-le-FEED_PART.ensures.items

pub returns : goal.returns
returns g c =
    let yields = YieldsList-from_vec {s = c.into_iter-one-iterator.result} c.args.held.items
    (search rules) (search rules) in
    let all = YieldsList-end yields c.loop-one.yielded c.loop-one.one-iterator
    c.loop-one.yielded_by c.next.result c.next.new.self c.in-None.is c.next.ensures.steps in
    record {
      related =
          subst (λ (helds : List Held). AllZip Parses helds c.add_run-2.new.parsed.items)
          (sym (map-id c.loop-one.yielded) ∙ all.0)
          (run_parsed c.loop-one.run.items c.loop-one.yielded c.loop-one.parsed.items
          c.add_run-2.new.parsed.items c.loop-one.invariant c.in_ok-add_run-2.ensures);
    }
