-- How many addresses of each family have a place of each country.
use Rattle.std.specs.Prelude.{ℕ, zero, suc, ◌+◌, ◌^◌, Bool, true, false, nat_lt, List, [], find}
use Rattle.std.specs.Prelude.{Option, Some, None, option_and_then, option_map}
use Rattle.geo_terms.specs.Numbers.{place_at}
use Rattle.geo_terms.specs.PlaceForm.{PlaceParts, same_text}
use Rattle.geo_terms.specs.SlotOrder.{placed}
use Rattle.trie_core.specs.declared.node.Pair.{Pair}
use Rattle.trie_core.specs.declared.node.Root.{Root}
use Rattle.trie_core.specs.Store.{leaf_at}
use Rattle.check_census.specs.declared.count.Count.{Count}

-- the count of a country, where there is one
abbrev pub count_of : List ℕ → List Count → Option Count
count_of country counts = find (λ n. same_text n.country country) counts

abbrev pub v4_in : Option Count → ℕ
v4_in None = 0
v4_in (Some n) = n.v4

abbrev pub v6_in : Option Count → ℕ
v6_in None = 0
v6_in (Some n) = n.v6

-- the counts with this many addresses more of a country; they stand in the order of the countries'
-- bytes
abbrev pub added : List ℕ → ℕ → ℕ → List Count → List Count
added country v4 v6 counts = placed (λ n. n.country) (record {
  country = country;
  v4 = v4_in (count_of country counts) + v4;
  v6 = v6_in (count_of country counts) + v6;
}) counts

-- the counts with one address more, which is of a country or of none
abbrev pub with_address : Option (List ℕ) → Bool → List Count → List Count
with_address None is_v4 counts = counts
with_address (Some country) true counts = added country 1 0 counts
with_address (Some country) false counts = added country 0 1 counts

-- the counts of the first n addresses, one address after another
unfoldable pub counts_below : (ℕ → Option (List ℕ)) → ℕ → List Count
counts_below country_at zero = []
counts_below country_at (suc a) =
    with_address (country_at a) (nat_lt a (2 ^ 32)) (counts_below country_at a)

-- the country of the place that a leaf is
abbrev pub country_of : List PlaceParts → Option ℕ → Option (List ℕ)
country_of places leaf = option_map (λ p. p.country) (option_and_then (place_at places) leaf)

-- the country that an address has under a root
abbrev pub country_at : List Pair → Root → List PlaceParts → ℕ → Option (List ℕ)
country_at pairs root places a = country_of places (leaf_at pairs root a)

-- the counts of all addresses
abbrev pub census : (ℕ → Option (List ℕ)) → List Count
census country_at = counts_below country_at (2 ^ 128)
