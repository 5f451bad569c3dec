use Rattle.std.proofs.Common.{◌≡◌, ◌∙◌, List, ℕ, ap, rules}
use Rattle.std.specs.FinMap as map
use Rattle.feed_csv.specs.File.{longest}
use Rattle.job_run.specs.Sources.{file_named, unreadable}
use Rattle.job_run.proofs.ActLemmas.{hindered}
use Rattle.job_run.proofs.feeds.read_line.Goals as goal

pub returns-in-Err-clause-unread : goal.returns-in-Err-clause-unread
returns-in-Err-clause-unread g c w told =
    let named : file_named c.args.step.now.act ≡ c.as_str.result.now = search rules in
    hindered c.in-Err.why _ _ (c.in-Err.ensures.unread w told)
    (λ cause is. ap (λ (name : List ℕ). unreadable longest (map.get w.held name)) named
    ∙ is)
