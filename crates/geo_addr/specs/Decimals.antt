-- Decimal numbers of a stated number of digits.
use Rattle.std.specs.Prelude.{ℕ, ◌&&◌, Bool, nat_le, if◌then◌else◌, List, Option, None, Some}
use Rattle.std.specs.Prelude.{length}
use Rattle.std.specs.Char.{is_ascii_digit}
use Rattle.std.specs.List.{list_all}
use Rattle.std.specs.Str.Parse.{digits_value}

-- a text of decimal digits alone, at least so many and at most so many;
-- leading zeros count as digits
abbrev pub has_digits : ℕ → ℕ → List ℕ → Bool
has_digits least most text =
    nat_le least (length text) && nat_le (length text) most && list_all is_ascii_digit text

-- the number that such a text writes
abbrev pub decimal : ℕ → ℕ → List ℕ → Option ℕ
decimal least most text = if has_digits least most text then Some (digits_value 10 text) else None
