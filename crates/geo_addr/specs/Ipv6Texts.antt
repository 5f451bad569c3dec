-- IPv6 texts: groups of hexadecimal digits with colons between them (RFC 4291, section 2.2).
use Rattle.std.specs.Prelude.{ℕ, suc, ◌+◌, ◌-◌, ◌/◌, ◌%◌, ◌==◌, Bool, true, false, ◌&&◌, ◌||◌, not}
use Rattle.std.specs.Prelude.{nat_eq, nat_le, if◌then◌else◌, List, [], ◌∷◌, ◌++◌, length, take}
use Rattle.std.specs.Prelude.{drop, flat_map, replicate, Option, None, Some, Result, Ok, Err}
use Rattle.std.specs.Option.{option_map}
use Rattle.std.specs.List.{list_any, list_all, starts_with}
use Rattle.std.specs.Char.{is_digit}
use Rattle.std.specs.Str.Parse.{digits_value}
use Rattle.std.specs.Int.Digits.{number_from_digits}
use Rattle.geo_addr.specs.declared.fault.AddrFault.{AddrFault}
use Rattle.geo_addr.specs.declared.fault.AddrFault.TheVariants.{Form, Octet, Groups}
use Rattle.geo_addr.specs.Ipv4Texts.{are_four, is_part, is_octet, octets_number}
use Rattle.geo_addr.specs.Lines.{pieces}

-- a group: one to four hexadecimal digits of either case
unfoldable pub is_group : List ℕ → Bool
is_group part =
    nat_le 1 (length part) && nat_le (length part) 4 && list_all (λ b. is_digit b 16) part

-- a dotted part: four decimal parts between dots
unfoldable pub is_dotted : List ℕ → Bool
is_dotted part = are_four is_part (pieces 46 part)

-- a dotted part with a number that is no octet
unfoldable pub has_bad_octet : List ℕ → Bool
has_bad_octet part = is_dotted part && not (are_four is_octet (pieces 46 part))

-- each member of a list is a group, but the last one may be a dotted part where dots are allowed
abbrev pub are_members : Bool → List (List ℕ) → Bool
are_members dots [] = true
are_members dots (part ∷ []) = is_group part || (dots && is_dotted part)
are_members dots (part ∷ next ∷ more) = is_group part && are_members dots (next ∷ more)

-- the groups that a member spells: its own, or the two that a dotted part stands for
unfoldable pub groups_of : List ℕ → List ℕ
groups_of part =
    if is_group part then digits_value 16 part ∷ []
    else (octets_number (pieces 46 part) / 65536) ∷ (octets_number (pieces 46 part) % 65536) ∷ []

-- the members of a list: what stands between its colons, and none in nothing
abbrev pub members : List ℕ → List (List ℕ)
members [] = []
members (b ∷ bs) = pieces 58 (b ∷ bs)

-- the text is a list
abbrev pub is_list : Bool → List ℕ → Bool
is_list dots text = are_members dots (members text)

-- the groups of a list
abbrev pub groups_in : List ℕ → List ℕ
groups_in text = flat_map groups_of (members text)

-- some member of a list has a bad octet
abbrev pub any_bad_octet : List ℕ → Bool
any_bad_octet text = list_any has_bad_octet (members text)

-- groups as one number, the first the highest
abbrev pub groups_number : List ℕ → ℕ
groups_number groups = number_from_digits 65536 groups

-- the offset of the first `::`
abbrev pub double_at : List ℕ → Option ℕ
double_at [] = None
double_at (b ∷ bs) =
    if starts_with nat_eq (b ∷ bs) (58 ∷ 58 ∷ []) then Some 0 else option_map suc (double_at bs)

-- the address of a text without `::`: a list of eight groups
unfoldable pub whole_address : List ℕ → Result ℕ AddrFault
whole_address text =
    if not (is_list true text) then Err Form
    else (if any_bad_octet text then Err Octet
    else (if not (length (groups_in text) == 8) then Err Groups
    else Ok (groups_number (groups_in text))))

-- the groups on both sides of `::`, and as many zeros between them as make eight
abbrev pub filled : List ℕ → List ℕ → List ℕ
filled left right = left ++ replicate (8 - length left - length right) 0 ++ right

-- the address of a text with `::`, which stands for one group or more,
-- from the lists on its two sides
unfoldable pub elided_address : List ℕ → List ℕ → Result ℕ AddrFault
elided_address left right =
    if not (is_list false left && is_list true right) then Err Form
    else (if any_bad_octet right then Err Octet
    else (if not (nat_le (length (groups_in left) + length (groups_in right)) 7) then Err Groups
    else Ok (groups_number (filled (groups_in left) (groups_in right)))))

-- a text is cut at its first `::`, if it has one
abbrev pub address_at : Option ℕ → List ℕ → Result ℕ AddrFault
address_at None text = whole_address text
address_at (Some at) text = elided_address (take at text) (drop (at + 2) text)

-- the address that a text with a colon spells
abbrev pub ipv6_in : List ℕ → Result ℕ AddrFault
ipv6_in text = address_at (double_at text) text
