-- Keys in whose place a pointer stands.
use Rattle.std.specs.Prelude.{◌≡◌, ℕ, nat_eq, List, Option, Some}
use Rattle.std.specs.Cmp.Lexicographic.{pointwise}
use Rattle.std.specs.Global.{Vec}
use Rattle.std.specs.Map.{lookup}
use Rattle.mmdb_data.specs.Spelling.{sized}
use Rattle.mmdb_data.specs.Packing.{pointer, shorter_pointer}
use Rattle.mmdb_data.specs.FullValues.{Entries}

-- the pointer in place of a key, where one is shorter
abbrev pub key_pointer : List ℕ → Entries → Option (List ℕ)
key_pointer key entries =
    shorter_pointer (sized 2 key) (lookup (pointwise nat_eq (sized 2 key)) entries)

-- a key has a pointer, which leads to this offset
abbrev pub IsKnown : Entries → Vec ℕ × ℕ → Type 0
IsKnown entries known = key_pointer known.0.items entries ≡ Some (pointer known.1)
