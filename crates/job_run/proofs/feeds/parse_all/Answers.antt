use Rattle.std.proofs.Common.{inl, inr, subst}
use Rattle.std.proofs.lemmas.Result.{IfErr-weaker, IfOk-weaker}
use Rattle.std.specs.List.{AllZip}
use Rattle.job_run.specs.Feeds.{Parses}
use Rattle.job_run.proofs.FeedLemmas.{first_refused}
use Rattle.job_run.proofs.feeds.parse_all.Goals as goal

pub returns-in-Ok-clause-feeds : goal.returns-in-Ok-clause-feeds
returns-in-Ok-clause-feeds g c =
    IfOk-weaker c.all_feeds.result _ _
    (λ feeds same. subst (AllZip Parses c.args.held.items) same c.in-Ok.ensures.related)
    c.all_feeds.ensures.feeds

pub returns-in-Ok-clause-refused : goal.returns-in-Ok-clause-refused
returns-in-Ok-clause-refused g c =
    IfErr-weaker c.all_feeds.result _ _ (λ stop refused. elim refused [
      | inl first ↦ inl (first_refused c.args.held.items c.in-Ok.parsed.items stop.why stop.at
          c.in-Ok.ensures.related first)
      | inr out ↦ inr out
    ]) c.all_feeds.ensures.refused
