-- Numbers that follow from the texts of a place; other places may have them too.
use Rattle.std.specs.Prelude.{ℕ, ◌%◌, ◌^◌}
use Rattle.std.specs.Hash.FoldHasher as folding
use Rattle.std.specs.Int.{w64, to_le_bytes}
use Rattle.geo_terms.specs.PlaceForm.{PlaceParts}

-- what the four texts are mixed to
unfoldable pub mixed_texts : PlaceParts → ℕ
mixed_texts p =
    folding.finish (folding.write (folding.write (folding.write (folding.write folding.initial
    p.country) p.region) p.city) p.postal)

-- the number that the slots of a place follow from
abbrev pub place_mark : PlaceParts → ℕ
place_mark p = mixed_texts p % 2 ^ 32

-- what they are mixed to once more, the last first, behind what they were mixed to
unfoldable pub mixed_again : PlaceParts → ℕ
mixed_again p =
    folding.finish (folding.write (folding.write (folding.write (folding.write (folding.write
    folding.initial (to_le_bytes w64 (mixed_texts p))) p.postal) p.city) p.region) p.country)

-- the number by which places are ordered first
abbrev pub place_rank : PlaceParts → ℕ
place_rank p = mixed_again p % 2 ^ 32
