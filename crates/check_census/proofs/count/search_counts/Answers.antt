use Rattle.std.proofs.Common.{◌≡◌, rules}
use Rattle.std.proofs.lemmas.Fn.{always_returns_same}
use Rattle.geo_terms.specs.Precedence.{text_cmp}
use Rattle.check_census.proofs.count.search_counts.Goals as goal

pub returns-clause-found : goal.returns-clause-found
returns-clause-found c =
    c.binary_search_by.ensures.position (λ n. text_cmp n.country c.args.country.now)
    (always_returns_same _ (λ a r. r ≡ text_cmp a.0.now.country c.args.country.now) _
    (λ a r q k. search rules))
