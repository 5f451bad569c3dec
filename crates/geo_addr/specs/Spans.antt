-- Span texts: a prefix text, or the first and the last address with a hyphen
-- between them (RFC 2622, section 2).
use Rattle.std.specs.Prelude.{ℕ, Bool, ◌&&◌, ◌||◌, not, nat_lt, if◌then◌else◌, ◌^◌, List, Option}
use Rattle.std.specs.Prelude.{None, Some, Result, Ok, Err}
use Rattle.geo_addr.specs.declared.fault.AddrFault.{AddrFault}
use Rattle.geo_addr.specs.declared.fault.BlockFault.{BlockFault}
use Rattle.geo_addr.specs.declared.fault.BlockFault.TheVariants.{Address, InV4Space, Reversed}
use Rattle.geo_addr.specs.AddressTexts.{is_six, number_in}
use Rattle.geo_addr.specs.Lines.{trimmed_start, trimmed_end}
use Rattle.geo_addr.specs.Prefixes.{block_in, cut_first}
use Rattle.geo_addr.specs.Ranges.{Ends, Prefix, range_of_block}

-- the addresses of the block, if it was read
abbrev pub range_of_read : Result Prefix BlockFault → Result Ends BlockFault
range_of_read (Ok block) = Ok (range_of_block block)
range_of_read (Err fault) = Err fault

-- the range between two addresses of a family; an IPv6 text names none in the IPv4 space
unfoldable pub ordered_range : Bool → ℕ → ℕ → Result Ends BlockFault
ordered_range six first last =
    if nat_lt last first then Err Reversed
    else (if six && nat_lt last (2 ^ 32) then Err InV4Space
    else Ok (record { first = first; last = last }))

-- two families are one
abbrev pub is_same : Bool → Bool → Bool
is_same six other = (six && other) || (not six && not other)

-- the range of what was read of two addresses, the second in its own family
abbrev pub range_of_ends : Bool → Result ℕ AddrFault → Bool → Result ℕ AddrFault
    → Result Ends BlockFault
range_of_ends six (Err fault) other last = Err Address
range_of_ends six (Ok first) other (Err fault) = Err Address
range_of_ends six (Ok first) other (Ok last) =
    if not (is_same six other) then Err Address else ordered_range six first last

-- the same of two address texts
abbrev pub range_between : List ℕ → List ℕ → Result Ends BlockFault
range_between left right =
    range_of_ends (is_six left) (number_in (is_six left) left) (is_six right)
    (number_in (is_six right) right)

-- the same of the two sides of a hyphen, without the blanks beside it;
-- what has no hyphen is a prefix text
abbrev pub range_of_sides : List ℕ × Option (List ℕ) → Result Ends BlockFault
range_of_sides (text, None) = range_of_read (block_in text)
range_of_sides (left, Some right) = range_between (trimmed_end left) (trimmed_start right)

-- the range that a span text spells
abbrev pub span_in : List ℕ → Result Ends BlockFault
span_in text = range_of_sides (cut_first 45 text)
