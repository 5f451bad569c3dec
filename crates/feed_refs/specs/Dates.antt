-- The time of the last change, as registries write it in `last-modified`: dddd-dd-ddTdd:dd:ddZ.
use Rattle.std.specs.Prelude.{ℕ, ◌==◌, ◌&&◌, Bool, true, false, List, [], ◌∷◌, codes, filter}
use Rattle.std.specs.Prelude.{Option, None, Some, if◌then◌else◌}
use Rattle.std.specs.Char.{is_ascii_digit}
use Rattle.std.specs.Str.Parse.{digits_value}

-- a byte fits a `d` of a shape where it is a digit, and any other byte where it is that byte
abbrev pub fits_byte : ℕ → ℕ → Bool
fits_byte shape byte = if shape == 100 then is_ascii_digit byte else byte == shape

-- a text fits a shape byte by byte
abbrev pub fits : (shape text : List ℕ) → Bool
fits [] [] = true
fits [] (b ∷ bs) = false
fits (s ∷ shape) [] = false
fits (s ∷ shape) (b ∷ bs) = fits_byte s b && fits shape bs

-- the digits of a time as one number; another text is not read
unfoldable pub modified : List ℕ → Option ℕ
modified text =
    if fits (codes "dddd-dd-ddTdd:dd:ddZ") text
    then Some (digits_value 10 (filter is_ascii_digit text)) else None
