-- The answer of a lookup, part by part.
use Rattle.std.proofs.Common.{◌≡◌, ℕ, List, refl}
use Rattle.geo_addr.specs.Bits.{bits_of}
use Rattle.mmdb_file.specs.Walk.{walk, walk_opened, opened}
use Rattle.file_lookup.specs.Lookup.{looked, answer, answer_of}

pub answer_by_parts : (bytes : List ℕ) (address : ℕ)
    → answer bytes address ≡ answer_of (walk_opened (opened bytes) (bits_of 128 address))
unfolding answer looked walk
answer_by_parts bytes address = refl
