-- The marker before the metadata (MaxMind DB 2.0, "Database Metadata").
use Rattle.std.specs.Prelude.{ℕ, suc, ◌==◌, ◌&&◌, Bool, true, false, List, [], ◌∷◌, Option, Some}
use Rattle.std.specs.Prelude.{None}

-- the bytes AB CD EF and then `MaxMind.com`
unfoldable pub marker : List ℕ
marker = 171 ∷ 205 ∷ 239 ∷ 77 ∷ 97 ∷ 120 ∷ 77 ∷ 105 ∷ 110 ∷ 100 ∷ 46 ∷ 99 ∷ 111 ∷ 109 ∷ []

-- whether a list begins with another
abbrev pub begins : List ℕ → List ℕ → Bool
begins [] bytes = true
begins (m ∷ ms) [] = false
begins (m ∷ ms) (b ∷ bytes) = m == b && begins ms bytes

-- one byte further in front: a later offset, or this one
abbrev pub later_or : Option ℕ → Bool → Option ℕ
later_or (Some offset) here = Some (suc offset)
later_or None true = Some 0
later_or None false = None

-- where the last marker begins
abbrev pub last_marker : List ℕ → Option ℕ
last_marker [] = None
last_marker (b ∷ bytes) = later_or (last_marker bytes) (begins marker (b ∷ bytes))
