-- Prefix texts: an address, a slash and a length in bits (RFC 4632, section 3.1;
-- RFC 4291, section 2.3).
use Rattle.std.specs.Prelude.{ℕ, ◌+◌, ◌-◌, ◌%◌, ◌^◌, ◌==◌, Bool, ◌&&◌, not, nat_lt, nat_le}
use Rattle.std.specs.Prelude.{if◌then◌else◌, List, [], ◌∷◌, Option, None, Some, Result, Ok, Err}
use Rattle.std.specs.Str.Parse.{digits_value}
use Rattle.geo_addr.specs.declared.fault.AddrFault.{AddrFault}
use Rattle.geo_addr.specs.declared.fault.BlockFault.{BlockFault}
use Rattle.geo_addr.specs.declared.fault.BlockFault.TheVariants.{Address, Length, HostBits}
use Rattle.geo_addr.specs.declared.fault.BlockFault.TheVariants.{InV4Space}
use Rattle.geo_addr.specs.AddressTexts.{is_six, number_in}
use Rattle.geo_addr.specs.Decimals.{has_digits}
use Rattle.geo_addr.specs.Ranges.{Prefix}

-- what stands before the first separator of a text, and what stands after it
abbrev pub cut_first : ℕ → List ℕ → List ℕ × Option (List ℕ)
cut_first separator [] = ([], None)
cut_first separator (b ∷ bs) =
    if b == separator then ([], Some bs)
    else (b ∷ (cut_first separator bs).0, (cut_first separator bs).1)

-- how many bits an address of a family has
abbrev pub address_length : Bool → ℕ
address_length six = if six then 128 else 32

-- the length behind the slash: one to three digits, and no more bits than an address has
unfoldable pub length_in : Bool → List ℕ → Option ℕ
length_in six text =
    if has_digits 1 3 text && nat_le (digits_value 10 text) (address_length six)
    then Some (digits_value 10 text)
    else None

-- the block of an address and a length in bits of an IPv6 address;
-- an IPv6 text names none in the IPv4 space
unfoldable pub aligned_block : Bool → ℕ → ℕ → Result Prefix BlockFault
aligned_block six first len =
    if not (first % 2 ^ (128 - len) == 0) then Err HostBits
    else (if six && nat_le 96 len && nat_lt first (2 ^ 32) then Err InV4Space
    else Ok (record { first = first; len = len }))

-- the block of what was read of an address and of a length in bits of its family
abbrev pub block_of : Bool → Result ℕ AddrFault → Option ℕ → Result Prefix BlockFault
block_of six (Err fault) length = Err Address
block_of six (Ok first) None = Err Length
block_of six (Ok first) (Some length) =
    aligned_block six first (if six then length else 96 + length)

-- the same of the two sides of a slash; an address alone has its whole length
abbrev pub block_of_sides : List ℕ × Option (List ℕ) → Result Prefix BlockFault
block_of_sides (left, None) =
    block_of (is_six left) (number_in (is_six left) left) (Some (address_length (is_six left)))
block_of_sides (left, Some right) =
    block_of (is_six left) (number_in (is_six left) left) (length_in (is_six left) right)

-- the block that a prefix text spells
abbrev pub block_in : List ℕ → Result Prefix BlockFault
block_in text = block_of_sides (cut_first 47 text)
