-- The texts stand where they were joined.
use Rattle.std.proofs.Common.{rules}
use Rattle.geo_terms.proofs.JoinedLemmas.{cut_joined, parts_joined}
use Rattle.geo_terms.proofs.place.joined.JoinedTexts.of.Goals as goal

pub invariant_of-result : goal.invariant_of-result
invariant_of-result c =
    cut_joined _ c.args.country.now c.args.region.now c.args.city.now c.args.postal.now _ _ _
    c.in_ok-text.ensures (search rules) (search rules) (search rules)
    c.utf8.region c.utf8.city c.utf8.postal

pub returns : goal.returns
returns c =
    parts_joined _ c.args.country.now c.args.region.now c.args.city.now c.args.postal.now _ _ _
    c.in_ok-text.ensures (search rules) (search rules) (search rules)
