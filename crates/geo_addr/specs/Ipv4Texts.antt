-- IPv4 texts: four decimal numbers with dots between them (RFC 4291, section 2.2, item 3).
use Rattle.std.specs.Prelude.{ℕ, ◌==◌, Bool, false, ◌&&◌, ◌||◌, not, nat_lt, nat_le, if◌then◌else◌}
use Rattle.std.specs.Prelude.{List, [], ◌∷◌, length, map, slice_index, Result, Ok, Err}
use Rattle.std.specs.Str.Parse.{digits_value}
use Rattle.std.specs.Int.Digits.{number_from_digits}
use Rattle.geo_addr.specs.declared.fault.AddrFault.{AddrFault}
use Rattle.geo_addr.specs.declared.fault.AddrFault.TheVariants.{Form, Octet}
use Rattle.geo_addr.specs.Decimals.{has_digits}
use Rattle.geo_addr.specs.Lines.{pieces}

-- a part: one to three decimal digits
abbrev pub is_part : List ℕ → Bool
is_part part = has_digits 1 3 part

-- an octet: a part with no zero in front of another digit, and at most 255
unfoldable pub is_octet : List ℕ → Bool
is_octet part =
    (nat_lt (length part) 2 || not (slice_index part 0 == 48)) && nat_le (digits_value 10 part) 255

-- there are four, and each passes the test
abbrev pub are_four : (List ℕ → Bool) → List (List ℕ) → Bool
are_four test (a ∷ b ∷ c ∷ d ∷ []) = test a && test b && test c && test d
are_four test _ = false

-- the octets as one number, the first the highest
abbrev pub octets_number : List (List ℕ) → ℕ
octets_number parts = number_from_digits 256 (map (digits_value 10) parts)

-- the address that these parts between dots spell
unfoldable pub ipv4_of : List (List ℕ) → Result ℕ AddrFault
ipv4_of parts =
    if not (are_four is_part parts) then Err Form
    else (if not (are_four is_octet parts) then Err Octet else Ok (octets_number parts))

-- the address that a text without a colon spells
abbrev pub ipv4_in : List ℕ → Result ℕ AddrFault
ipv4_in text = ipv4_of (pieces 46 text)
