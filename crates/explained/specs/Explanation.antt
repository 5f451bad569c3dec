-- Why an address has its record, in seven lines.
use Rattle.std.specs.Prelude.{ℕ, ◌+◌, List, [], ◌∷◌, ◌++◌, flat_map, codes, decimal, option_map}
use Rattle.std.specs.Prelude.{Option, Some, None}
use Rattle.geo_addr.specs.Printing.{address_text, block_text, range_text}
use Rattle.geo_addr.specs.Ranges.{Ends}
use Rattle.split_core.specs.Walk.{blocks_of}
use Rattle.geo_terms.specs.DelegationForm.{DelegationParts}
use Rattle.geo_terms.specs.PlaceForm.{PlaceParts}
use Rattle.geo_terms.specs.Precedence.{Reasons}
use Rattle.geo_terms.specs.declared.place.Said.{Said}
use Rattle.geo_terms.specs.declared.place.Said.TheVariants.{Nothing, At}
use Rattle.geo_terms.specs.declared.statement.Entry.{Entry}
use Rattle.geo_terms.specs.declared.statement.Override.{Override}
use Rattle.geo_terms.specs.declared.statement.Reference.{Reference}
use Rattle.mmdb_file.specs.PlaceValue.{place_value}
use Rattle.json_values.specs.Json.{json}

-- a blank before a word
abbrev pub then : List ℕ → List ℕ
then word = 32 ∷ word

-- what is said after the first word of a line: where there is nothing, none
abbrev pub or_none : Option (List ℕ) → List ℕ
or_none None = codes " none"
or_none (Some words) = words

-- an override that says nothing makes its addresses void
abbrev pub override_word : Said → List ℕ
override_word Nothing = codes "void"
override_word (At place) = codes "set"

abbrev pub entry_word : Said → List ℕ
entry_word Nothing = codes "nothing"
entry_word (At place) = codes "at"

-- the line of the override, its range, and whether it sets a place
abbrev pub override_words : Override → List ℕ
override_words o =
    then (decimal o.line) ++ (then (range_text o.range) ++ then (override_word o.said))

-- the dump of the speaker, the line of its reference, its range and its feed's URL
abbrev pub speaker_words : Reference → List ℕ
speaker_words r =
    then r.slot ++ (then (decimal r.line) ++ (then (range_text r.range) ++ then r.url))

-- the line of the entry, its block, and whether it says a place
abbrev pub entry_words : Entry → List ℕ
entry_words e = then (decimal e.line) ++ (then (block_text e.block) ++ then (entry_word e.said))

-- the statistics file of the delegation, its line, its range and its country
abbrev pub delegation_words : DelegationParts → List ℕ
delegation_words d =
    then d.slot ++ (then (decimal d.line) ++ (then (range_text d.range) ++ then d.place.country))

-- the fewest blocks that make a range
unfoldable pub prefix_words : Ends → List ℕ
prefix_words range = flat_map (λ b. then (block_text b)) (blocks_of range.first (range.last + 1))

abbrev pub record_words : PlaceParts → List ℕ
record_words place = then (json (place_value place))

-- a line: its first word, and what it says
abbrev pub line : List ℕ → Option (List ℕ) → List ℕ
line word said = word ++ (or_none said ++ (10 ∷ []))

unfoldable pub override_line : Option Override → List ℕ
override_line row = line (codes "override") (option_map override_words row)

unfoldable pub speaker_line : Option Reference → List ℕ
speaker_line reference = line (codes "speaker") (option_map speaker_words reference)

unfoldable pub entry_line : Option Entry → List ℕ
entry_line entry = line (codes "entry") (option_map entry_words entry)

unfoldable pub delegation_line : Option DelegationParts → List ℕ
delegation_line row = line (codes "delegation") (option_map delegation_words row)

unfoldable pub prefixes_line : Option DelegationParts → List ℕ
prefixes_line row = line (codes "prefixes") (option_map (λ d. prefix_words d.range) row)

unfoldable pub record_line : Option PlaceParts → List ℕ
record_line place = line (codes "record") (option_map record_words place)

-- the address, and why it has its record
unfoldable pub explanation : ℕ → Reasons → List ℕ
explanation at why =
    codes "address " ++ (address_text at
    ++ (10 ∷ (override_line why.over ++ (speaker_line why.speaker ++ (entry_line why.entry
    ++ (delegation_line why.delegation
    ++ (prefixes_line why.delegation ++ record_line why.place)))))))
