-- What stands in front of a text that is read once from its start.
use Rattle.std.specs.Prelude.{◌≡◌, ◌≢◌, ℕ, ◌≤◌, true, false, ◌==◌, List, [], ◌∷◌}
use Rattle.std.specs.Prelude.{◌++◌, Ok, All, if◌then◌else◌, Option, None, Some}
use Rattle.std.specs.Char.{digit_value, is_ascii_digit}
use Rattle.std.specs.Str.Parse.{digits_value}
use Rattle.geo_addr.specs.Ipv4Texts.{ipv4_in, is_octet, is_part}
use Rattle.geo_addr.specs.Prefixes.{length_in}

-- a text begins with a digit that writes this number
pub record BeginsWithDigit (text : List ℕ) (value : ℕ) (behind : List ℕ) : Type 0 where
  pub byte : ℕ
  pub joined : text ≡ byte ∷ behind
  pub is_digit : is_ascii_digit byte ≡ true
  pub value_is : value ≡ digit_value byte
  pub small : value ≤ 9

-- a text begins with an octet that is this number
pub record BeginsWithOctet (text : List ℕ) (value : ℕ) (behind : List ℕ) : Type 0 where
  pub part : List ℕ
  pub joined : text ≡ part ++ behind
  pub in_form : is_part part ≡ true
  pub octet : is_octet part ≡ true
  pub value_is : value ≡ digits_value 10 part
  pub small : value ≤ 255

-- the same with a dot behind it
abbrev pub BeginsWithDotted : List ℕ → ℕ → List ℕ → Type 0
BeginsWithDotted text value behind = BeginsWithOctet text value (46 ∷ behind)

-- a text begins with the IPv4 address that is this number
pub record BeginsWithAddress (text : List ℕ) (number : ℕ) (behind : List ℕ) : Type 0 where
  pub address : List ℕ
  pub joined : text ≡ address ++ behind
  pub reads : Ok number ≡ ipv4_in address
  pub free : All (λ b. b ≢ 47) address

-- the length in bits of an IPv4 address that is said behind it, the whole one where nothing is
abbrev pub v4_length : List ℕ → Option ℕ
v4_length [] = Some 32
v4_length (b ∷ bs) = if b == 47 then length_in false bs else None
