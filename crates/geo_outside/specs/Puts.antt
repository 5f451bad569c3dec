-- A put as contracts see it.
use Rattle.std.specs.Prelude.{ℕ, List, map}
use Rattle.geo_outside.specs.declared.put.Put.{Put}

-- the name and the bytes
abbrev pub pair_of : Put → List ℕ × List ℕ
pair_of put = (put.name, put.bytes)

-- the names and the bytes, in order
abbrev pub pairs_of : List Put → List (List ℕ × List ℕ)
pairs_of puts = map pair_of puts
