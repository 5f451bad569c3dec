-- What a line of a feed says by itself (RFC 8805 section 2.1.1).
use Rattle.std.specs.Prelude.{ℕ, List, Result, Ok, Err, if◌then◌else◌}
use Rattle.geo_addr.specs.Prefixes.{block_in}
use Rattle.geo_addr.specs.Ranges.{Prefix}
use Rattle.geo_addr.specs.declared.fault.BlockFault.{BlockFault}
use Rattle.geo_addr.specs.declared.fault.BlockFault.TheVariants as block
use Rattle.geo_terms.specs.PlaceForm.{is_empty}
use Rattle.geo_terms.specs.declared.note.Rule.{Rule}
use Rattle.geo_terms.specs.declared.note.Rule.TheVariants.{F01, F02, F03, F04, F05, F06, F10, F11}
use Rattle.geo_terms.specs.declared.place.PlaceFault.{PlaceFault}
use Rattle.geo_terms.specs.declared.place.PlaceFault.TheVariants as place
use Rattle.geo_terms.specs.declared.place.Said.{Said}
use Rattle.csv_lines.specs.Rests.{column, content_of, rest_of, row_of, said_in}
use Rattle.csv_lines.specs.declared.rest.Content.{Content}
use Rattle.csv_lines.specs.declared.rest.Content.TheVariants.{Blank, NotText, NoFields, Fields}
use Rattle.feed_csv.specs.declared.outcome.LineOutcome.{LineOutcome}
use Rattle.feed_csv.specs.declared.outcome.LineOutcome.TheVariants.{Silent, Broken, Accepted}

-- the rule that a first field breaks which is no prefix: an IPv6
-- prefix in the IPv4 space has its own
abbrev pub block_rule : BlockFault → Rule
block_rule block.Address = F04
block_rule block.Length = F04
block_rule block.HostBits = F04
block_rule block.InV4Space = F11
block_rule block.Reversed = F04

-- the rule that the fields of a place break
abbrev pub place_rule : PlaceFault → Rule
place_rule place.Country = F05
place_rule place.Region = F06
place_rule place.TooLong = F10
place_rule place.Memory = F10

abbrev pub accepted_at : Prefix → Result Said PlaceFault → LineOutcome
accepted_at at (Err fault) = Broken (place_rule fault)
accepted_at at (Ok said) = Accepted at said

abbrev pub located_at : Result Prefix BlockFault → List (List ℕ) → LineOutcome
located_at (Err fault) row = Broken (block_rule fault)
located_at (Ok at) row = accepted_at at (said_in 1 row)

-- what fields say: prefix, country, region, city and postal code;
-- the first rule that they break, else an entry
abbrev pub row_outcome : List (List ℕ) → LineOutcome
row_outcome row =
    if is_empty (column 0 row) then Broken F03 else located_at (block_in (column 0 row)) row

abbrev pub outcome_by : Content → List (List ℕ) → LineOutcome
outcome_by Blank row = Silent
outcome_by NotText row = Broken F01
outcome_by NoFields row = Broken F02
outcome_by Fields row = row_outcome row

-- what a line says
unfoldable pub outcome : List ℕ → LineOutcome
outcome line = outcome_by (content_of (rest_of line)) (row_of (rest_of line))
