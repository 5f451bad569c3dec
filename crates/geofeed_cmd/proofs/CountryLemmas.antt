-- The countries of a tree that answers the records are those of the records, and so are the counts.
use Rattle.std.proofs.Common.{◌≡◌, ℕ, List, Option, ap, ◌∙◌}
use Rattle.std.specs.Prelude.{option_map}
use Rattle.geo_terms.specs.PlaceForm.{PlaceParts}
use Rattle.geo_terms.specs.Sources.{InForce}
use Rattle.trie_core.specs.declared.node.Pair.{Pair}
use Rattle.trie_core.specs.declared.node.Root.{Root}
use Rattle.update_session.specs.Kept.{AnswersAll}
use Rattle.check_census.specs.Census.{census, country_at, country_of}
use Rattle.check_census.proofs.CensusLemmas.{equal_counts}
use Rattle.geofeed_cmd.specs.Commands.Census.{country_by}

-- the country of a place
abbrev country : Option PlaceParts → Option (List ℕ)
country place = option_map (λ (p : PlaceParts). p.country) place

-- where the leaf of each address is the number of its record
pub counts_of_records : (pairs : List Pair) (root : Root) (places : List PlaceParts) (s : InForce)
    → AnswersAll pairs places root s → census (country_at pairs root places) ≡ census (country_by s)
counts_of_records pairs root places s answers =
    equal_counts (country_at pairs root places) (country_by s) (λ a lt.
    let there = answers a lt in
    ap (country_of places) there.is ∙ ap country there.place)
