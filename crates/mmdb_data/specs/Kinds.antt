-- The types of values, by their numbers (MaxMind DB 2.0, "Output Data Section").
use Rattle.std.specs.Prelude.{ℕ}
use Rattle.mmdb_data.specs.declared.kind.Kind.{Kind}
use Rattle.mmdb_data.specs.declared.kind.Kind.TheVariants.{Pointer, Text, Double, Bytes, U16, U32}
use Rattle.mmdb_data.specs.declared.kind.Kind.TheVariants.{Map, I32, U64, U128, List, Container}
use Rattle.mmdb_data.specs.declared.kind.Kind.TheVariants.{EndMarker, Bool, Float}

-- the number that the control byte tells, or the byte after it
abbrev pub kind_code : Kind → ℕ
kind_code Pointer = 1
kind_code Text = 2
kind_code Double = 3
kind_code Bytes = 4
kind_code U16 = 5
kind_code U32 = 6
kind_code Map = 7
kind_code I32 = 8
kind_code U64 = 9
kind_code U128 = 10
kind_code List = 11
kind_code Container = 12
kind_code EndMarker = 13
kind_code Bool = 14
kind_code Float = 15
