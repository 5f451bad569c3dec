-- Two letters that are not `ZZ` name a country.
use Rattle.std.proofs.Common.{get_or, rules, sym, ◌∙◌}
use Rattle.geo_terms.proofs.PlaceLemmas.{letters_name, two_letters}
use Rattle.geo_terms.proofs.places.fields.upper_pair.Goals as goal

pub returns-clause-named : goal.returns-clause-named
returns-clause-named c =
    letters_name c.args.country.now (get_or c.args.country.now 0 0) (get_or c.args.country.now 1 0)
    (two_letters c.args.country.now (search rules))
    (sym c.is_ascii_alphabetic.ensures.value ∙ search rules)
    (sym c.is_ascii_alphabetic-else-not-is_ascii_alphabetic.ensures.value ∙ search rules)
    (search rules)
