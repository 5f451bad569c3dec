-- The two blocks of IPv6 addresses that carry an IPv4 address: its record is theirs.
use Rattle.std.specs.Prelude.{ℕ, Bool, ◌&&◌, ◌||◌, ◌/◌, ◌%◌, ◌^◌, nat_eq, if◌then◌else◌}
use Rattle.geo_addr.specs.Ranges.{Ends, ground_first}
use Rattle.geo_terms.specs.declared.alias.TheConstants.{MAPPED_HEAD, SIX_TO_FOUR_HEAD}

-- in ::ffff:0:0/96, whose first 96 bits are MAPPED_HEAD, the IPv4 address is in the low 32 bits
abbrev pub is_mapped : ℕ → Bool
is_mapped a = nat_eq (a / 2 ^ 32) MAPPED_HEAD

-- in 2002::/16, whose first 16 bits are SIX_TO_FOUR_HEAD, it is in the 32 bits after the first 16
abbrev pub is_six_to_four : ℕ → Bool
is_six_to_four a = nat_eq (a / 2 ^ 112) SIX_TO_FOUR_HEAD

-- an address of one of the two alias blocks
unfoldable pub is_alias : ℕ → Bool
is_alias a = is_six_to_four a || is_mapped a

-- the IPv4 address that an address of an alias block carries; every other address is at home itself
unfoldable pub home : ℕ → ℕ
home a = if is_six_to_four a then a / 2 ^ 80 % 2 ^ 32 else (if is_mapped a then a % 2 ^ 32 else a)

-- the ground of a range lies within one alias block, so the range speaks nowhere
unfoldable pub lies_in_alias : Ends → Bool
lies_in_alias r =
    (is_six_to_four (ground_first r) && is_six_to_four r.last)
    || (is_mapped (ground_first r) && is_mapped r.last)
