use Rattle.std.proofs.Common.{◌≡◌, rules}
use Rattle.std.proofs.lemmas.Fn.{always_returns_same}
use Rattle.geo_terms.specs.Precedence.{text_cmp}
use Rattle.source_changes.proofs.shelf.search.Goals as goal

pub returns-clause-found : goal.returns-clause-found
returns-clause-found g c =
    c.binary_search_by.ensures.position
    (λ t. text_cmp (g.T.Named.name t) c.args.name.now)
    (always_returns_same _
    (λ a r. r ≡ text_cmp (g.T.Named.name a.0.now) c.args.name.now) _
    (λ a r q k. search rules))
