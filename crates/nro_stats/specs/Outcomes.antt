-- What a line of a statistics file says (NRO extended allocation and assignment report).
use Rattle.std.specs.Prelude.{ℕ, ◌+◌, ◌-◌, ◌%◌, ◌^◌, Bool, not, ◌&&◌, ◌||◌, ◌==◌, nat_le, nat_lt}
use Rattle.std.specs.Prelude.{List, ◌∷◌, codes, Option, None, Some, Result, Ok, Err, if◌then◌else◌}
use Rattle.geo_addr.specs.AddressTexts.{address_in, is_six}
use Rattle.geo_addr.specs.Decimals.{decimal}
use Rattle.geo_addr.specs.Ranges.{Ends, Prefix, range_of_block, is_v4}
use Rattle.geo_addr.specs.declared.addr.Addr.{Addr}
use Rattle.geo_addr.specs.declared.fault.AddrFault.{AddrFault}
use Rattle.geo_terms.specs.DelegationForm.{IsCountryAlone}
use Rattle.geo_terms.specs.PlaceForm.{PlaceParts, place_of_country, same_text}
use Rattle.geo_terms.specs.declared.note.Rule.{Rule}
use Rattle.geo_terms.specs.declared.note.Rule.TheVariants.{S01, S02, S03, S04, S05, S06, S07}
use Rattle.nro_stats.specs.declared.outcome.LineOutcome.{LineOutcome}
use Rattle.nro_stats.specs.declared.outcome.LineOutcome.TheVariants.{Silent, Broken, Delegated}
use Rattle.nro_stats.specs.Fields.{fields, is_skipped, is_version_line, is_summary_line}

-- the types of resources
abbrev pub is_kind : List ℕ → Bool
is_kind kind =
    same_text kind (codes "asn") || same_text kind (codes "ipv4") || same_text kind (codes "ipv6")

-- the statuses of a resource
abbrev pub is_status : List ℕ → Bool
is_status status =
    same_text status (codes "allocated") || same_text status (codes "assigned")
    || same_text status (codes "available") || same_text status (codes "reserved")

-- numbers of systems say nothing, and neither does what is not held by anybody
abbrev pub is_silent : (kind status : List ℕ) → Bool
is_silent kind status =
    same_text kind (codes "asn") || same_text status (codes "available")
    || same_text status (codes "reserved")

abbrev pub number_in : Result Addr AddrFault → Option ℕ
number_in (Ok at) = Some at.0
number_in (Err fault) = None

-- the address that a start spells, where it is of the family
unfoldable pub v4_start : List ℕ → Option ℕ
v4_start start = if is_six start then None else number_in (address_in start)

unfoldable pub v6_start : List ℕ → Option ℕ
v6_start start = if is_six start then number_in (address_in start) else None

-- from an IPv4 start, as many addresses as the value counts: one to ten digits, and not zero
abbrev pub v4_counted : ℕ → Option ℕ → Result Ends Rule
v4_counted first None = Err S07
v4_counted first (Some count) =
    if count == 0 then Err S07
    else (if nat_lt (2 ^ 32) (first + count) then Err S05
    else Ok (record { first = first; last = first + count - 1 }))

abbrev pub v4_from : Option ℕ → List ℕ → Result Ends Rule
v4_from None value = Err S04
v4_from (Some first) value = v4_counted first (decimal 1 10 value)

unfoldable pub v4_range : (start value : List ℕ) → Result Ends Rule
v4_range start value = v4_from (v4_start start) value

-- whether an IPv6 start and a prefix length make a block that is not inside `::/96`
abbrev pub makes_block : Prefix → Bool
makes_block b =
    nat_le b.len 128 && (b.first % 2 ^ (128 - b.len)) == 0 && not (is_v4 (range_of_block b))

-- from an IPv6 start, a prefix of the length that the value is: one to three digits
abbrev pub v6_prefixed : ℕ → Option ℕ → Result Ends Rule
v6_prefixed first None = Err S07
v6_prefixed first (Some len) =
    if makes_block (record { first = first; len = len })
    then Ok (range_of_block (record { first = first; len = len })) else Err S07

abbrev pub v6_from : Option ℕ → List ℕ → Result Ends Rule
v6_from None value = Err S04
v6_from (Some first) value = v6_prefixed first (decimal 1 3 value)

unfoldable pub v6_range : (start value : List ℕ) → Result Ends Rule
v6_range start value = v6_from (v6_start start) value

-- the addresses of a record
abbrev pub range_in : (kind start value : List ℕ) → Result Ends Rule
range_in kind start value =
    if same_text kind (codes "ipv4") then v4_range start value else v6_range start value

-- a delegation of a range to what a country names; it is out of form where that is none
abbrev pub placed_at : Ends → Option PlaceParts → LineOutcome
placed_at range None = Broken S06
placed_at range (Some place) = Delegated range place

abbrev pub placed : Ends → List ℕ → LineOutcome
placed range country = placed_at range (place_of_country country)

abbrev pub placed_in : Result Ends Rule → List ℕ → LineOutcome
placed_in (Err rule) country = Broken rule
placed_in (Ok range) country = placed range country

-- what a record says: the first rule that holds of it, else nothing, else a delegation
unfoldable pub judged : (country kind start value status : List ℕ) → LineOutcome
judged country kind start value status =
    if not (is_kind kind) then Broken S02
    else (if not (is_status status) then Broken S03
    else (if is_silent kind status then Silent
    else placed_in (range_in kind start value) country))

abbrev pub record_outcome : List (List ℕ) → LineOutcome
record_outcome (registry ∷ country ∷ kind ∷ start ∷ value ∷ date ∷ status ∷ more) =
    judged country kind start value status
record_outcome _ = Broken S01

-- what the fields of a line say: version and summary lines are passed over
abbrev pub fields_outcome : List (List ℕ) → LineOutcome
fields_outcome fs = if is_version_line fs || is_summary_line fs then Silent else record_outcome fs

-- what a line says
unfoldable pub outcome : List ℕ → LineOutcome
outcome line = if is_skipped line then Silent else fields_outcome (fields line)

-- the place of a delegation has a country and nothing else
abbrev pub PlacesCountryAlone : LineOutcome → Type 0
PlacesCountryAlone (Delegated range place) = IsCountryAlone place
PlacesCountryAlone (Broken rule) = Unit {0}
PlacesCountryAlone Silent = Unit {0}
