-- What is printed of addresses, blocks and ranges (RFC 5952; IPv6 in hexadecimal groups alone).
use Rattle.std.specs.Prelude.{ℕ, zero, suc, ◌-◌, ◌/◌, ◌%◌, ◌^◌, Bool, not, nat_le, if◌then◌else◌}
use Rattle.std.specs.Prelude.{List, [], ◌∷◌, ◌++◌, codes, decimal}
use Rattle.std.specs.Net.Text.{ipv4_text, hex_groups_text}
use Rattle.geo_addr.specs.Ranges.{Ends, Prefix, is_v4, range_of_block}

-- the four octets of an IPv4 address
unfoldable pub four_octets : ℕ → List ℕ
four_octets n = (n / 2 ^ 24 % 256) ∷ (n / 2 ^ 16 % 256) ∷ (n / 2 ^ 8 % 256) ∷ (n % 256) ∷ []

-- an IPv4 address: its octets in decimal, with dots between them
unfoldable pub text4 : ℕ → List ℕ
text4 n = ipv4_text (four_octets n)

-- the lowest groups of a number, so many, before others
abbrev pub groups_before : ℕ → ℕ → List ℕ → List ℕ
groups_before zero n groups = groups
groups_before (suc count) n groups = groups_before count (n / 65536) ((n % 65536) ∷ groups)

-- the eight groups of an address
unfoldable pub eight_groups : ℕ → List ℕ
eight_groups n = groups_before 8 n []

-- an IPv6 address: its groups, where the longest run of zeros, the first of equals, is `::`
unfoldable pub text6 : ℕ → List ℕ
text6 n = hex_groups_text (eight_groups n)

-- an address in the form of a family
abbrev pub number_text : Bool → ℕ → List ℕ
number_text six n = if six then text6 n else text4 n

-- an address: in the form of its own family
abbrev pub address_text : ℕ → List ℕ
address_text n = number_text (nat_le (2 ^ 32) n) n

-- the length of a block in bits of its family
unfoldable pub printed_length : Prefix → ℕ
printed_length block = if is_v4 (range_of_block block) then block.len - 96 else block.len

-- a block: its first address, in the form of its family, and its length
abbrev pub block_text : Prefix → List ℕ
block_text block =
    number_text (not (is_v4 (range_of_block block))) block.first
    ++ codes "/" ++ decimal (printed_length block)

-- a range: its first and its last address, both in the form of its family
abbrev pub range_text : Ends → List ℕ
range_text range =
    number_text (not (is_v4 range)) range.first
    ++ codes "-" ++ number_text (not (is_v4 range)) range.last
