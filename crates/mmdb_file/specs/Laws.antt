-- The laws of a written file.
use Rattle.std.specs.Prelude.{◌≡◌, ◌≤◌, ◌<◌, ◌^◌, ℕ, Bool, List, ◌∷◌, ◌++◌, length, map}
use Rattle.std.specs.Prelude.{slice_index_or, nat_eq, Some, Ok, option_map, All}
use Rattle.std.specs.Str.{IsUtf8}
use Rattle.std.specs.List.{IsDistinct}
use Rattle.geo_terms.specs.PlaceForm.{PlaceParts}
use Rattle.geo_terms.specs.Numbers.{place_at, same_place}
use Rattle.trie_core.specs.Tree.{Tree, look, AllLeaves, map_tree}
use Rattle.least_nodes.specs.Layout.{laid, place_order}
use Rattle.mmdb_data.specs.ValueTree.{ValueTree as Value, CanBeReadBack}
use Rattle.mmdb_tree.specs.declared.bits.Bits.{Bits}
use Rattle.mmdb_tree.specs.Laws.{NodeFits}
use Rattle.mmdb_tree.specs.Nodes.{record_size}
use Rattle.mmdb_file.specs.PlaceValue.{place_value}
use Rattle.mmdb_file.specs.Section.{Section, Holds, section_of}
use Rattle.mmdb_file.specs.FileImage.{node_for, file_of, file_with, file}
use Rattle.mmdb_file.specs.Writing.{values_of}
use Rattle.mmdb_file.specs.Walk.{walk}
use Rattle.mmdb_file.specs.Marker.{marker, last_marker}
use Rattle.mmdb_file.specs.Metadata.{metadata}

-- the last marker is the writer's own
abbrev pub LastMarkerIsTheWriters : Type 0
LastMarkerIsTheWriters =
    (front : List ℕ) (epoch : ℕ) (name : List ℕ) (nodes : ℕ) (bits : Bits)
    → IsUtf8 name → length name ≤ 64
    → last_marker (front ++ (marker ++ metadata epoch name nodes (record_size bits)))
    ≡ Some (length front)

-- where the leaves of a tree are numbers of a table of distinct places, the file by these numbers
-- is the file of the places
abbrev pub NumbersStandForPlaces : Type 0
NumbersStandForPlaces =
    (places : List PlaceParts) → IsDistinct same_place places
    → (t : Tree ℕ) → AllLeaves (λ k. k ≤ length places) t → (epoch : ℕ) (name : List ℕ)
    → file_with nat_eq (place_at places) t epoch name
    ≡ file (map_tree (place_at places) t) epoch name

-- the section that is written holds its values
abbrev pub WrittenSectionHolds : Type 0
WrittenSectionHolds =
    (values : List Value) → All CanBeReadBack values → Holds (section_of values) values

-- the walk of a file answers as the tree whose layout its nodes are, whatever section holds the
-- values of the tree's places, where every record fits and the nodes can be counted
abbrev pub WrittenFileIsWalked : Type 0
WrittenFileIsWalked =
    (places : List PlaceParts) (t : Tree ℕ) → AllLeaves (λ k. k ≤ length places) t
    → (section : Section) → Holds section (values_of places (place_order t))
    → (bits : Bits) (epoch : ℕ) (name : List ℕ)
    → epoch < 2 ^ 64 → IsUtf8 name → length name ≤ 64
    → (nodes : List (ℕ × ℕ))
    → ((k : ℕ) → k < length nodes → NodeFits bits (slice_index_or nodes k (0, 0)))
    → length nodes < 2 ^ 32
    → nodes ≡ map (node_for nat_eq (place_at places) (length nodes) (place_order t) section.starts)
    (laid nat_eq t)
    → (b : Bool) (w : List Bool) (k : ℕ) → look t (b ∷ w) ≡ Some k
    → walk (file_of bits nodes section.bytes epoch name) (b ∷ w)
    ≡ Ok (option_map place_value (place_at places k))
