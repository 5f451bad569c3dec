-- The file that is written for a tree of places, and the fresh build of the sources' record.
use Rattle.std.specs.Prelude.{ℕ, ◌+◌, Bool, true, false, List, ◌++◌, length, map, filter, replicate}
use Rattle.std.specs.Prelude.{slice_index, Option, Some, None, option_map, is_some, if◌then◌else◌}
use Rattle.std.specs.List.{position_or_len}
use Rattle.geo_terms.specs.PlaceForm.{PlaceParts}
use Rattle.geo_terms.specs.Numbers.{same_place}
use Rattle.geo_terms.specs.Sources.{InForce}
use Rattle.geo_terms.specs.Precedence.{record_at}
use Rattle.trie_core.specs.Tree.{Tree, tree}
use Rattle.least_nodes.specs.NodeList.{Member, at, says}
use Rattle.least_nodes.specs.Layout.{laid, leaf_order}
use Rattle.mmdb_data.specs.ValueTree.{ValueTree as Value, map as map_value, no_members}
use Rattle.mmdb_tree.specs.declared.bits.Bits.{Bits}
use Rattle.mmdb_tree.specs.Nodes.{smallest, record_size, tree_bytes}
use Rattle.mmdb_file.specs.Marker.{marker}
use Rattle.mmdb_file.specs.Metadata.{metadata}
use Rattle.mmdb_file.specs.PlaceValue.{place_value}
use Rattle.mmdb_file.specs.Section.{Section, section_of}

-- the value of a place; where there is none, a map of nothing, which no file holds
abbrev pub answer_value : Option PlaceParts → Value
answer_value None = map_value no_members
answer_value (Some place) = place_value place

-- a file of these nodes and this section: the nodes, 16 zero bytes, the data section,
-- the marker and the metadata
unfoldable pub file_of : Bits
    → List (ℕ × ℕ) → (section : List ℕ) (epoch : ℕ) (name : List ℕ) → List ℕ
file_of bits nodes section epoch name =
    (tree_bytes bits nodes ++ (replicate 16 0 ++ section))
    ++ (marker ++ metadata epoch name (length nodes) (record_size bits))

-- the file of a tree, whatever its leaves are, where each leaf is a place or none
module _ {A : Type 0} (eq : A → A → Bool) (place_of : A → Option PlaceParts) where
  -- the different leaves that are places, in order of first visit
  unfoldable pub spots : Tree A → List A
  spots t = filter (λ a. is_some (place_of a)) (leaf_order eq t)

  abbrev pub values : List A → List Value
  values leaves = map (λ a. answer_value (place_of a)) leaves

  -- the data section
  unfoldable pub section : Tree A → Section
  section t = section_of (values (spots t))

  -- a record for another node is its position, one for no place is the node count,
  -- and one for a place is the node count, 16 and where the place's value begins
  abbrev pub record_for : (nodes : ℕ) → List A → List ℕ → Member A → ℕ
  record_for nodes leaves starts (at i) = i
  record_for nodes leaves starts (says a) =
      if is_some (place_of a)
      then nodes + 16 + slice_index starts (position_or_len (eq a) leaves) else nodes

  abbrev pub node_for : (nodes : ℕ) → List A → List ℕ → Member A × Member A → ℕ × ℕ
  node_for nodes leaves starts pair =
      (record_for nodes leaves starts pair.0, record_for nodes leaves starts pair.1)

  -- the nodes of the file, by their records
  unfoldable pub node_records : Tree A → List (ℕ × ℕ)
  node_records t = map (node_for (length (laid eq t)) (spots t) (section t).starts) (laid eq t)

  -- no record is above this number
  unfoldable pub records_end : Tree A → ℕ
  records_end t = length (laid eq t) + 16 + length (section t).bytes

  -- the file, where records of 32 bits or fewer hold its numbers
  unfoldable pub file_with : Tree A → (epoch : ℕ) (name : List ℕ) → Option (List ℕ)
  file_with t epoch name =
      option_map (λ bits. file_of bits (node_records t) (section t).bytes epoch name)
      (smallest (records_end t))

-- two answers are the same place, or both none
abbrev pub same_answer : Option PlaceParts → Option PlaceParts → Bool
same_answer None None = true
same_answer None (Some q) = false
same_answer (Some p) None = false
same_answer (Some p) (Some q) = same_place p q

-- the file of a tree of places
unfoldable pub file : Tree (Option PlaceParts) → (epoch : ℕ) (name : List ℕ) → Option (List ℕ)
file t epoch name = file_with same_answer (λ answer. answer) t epoch name

-- how many nodes that file has
unfoldable pub file_nodes : Tree (Option PlaceParts) → ℕ
file_nodes t = length (laid same_answer t)

-- its data section
unfoldable pub file_section : Tree (Option PlaceParts) → List ℕ
file_section t = (section same_answer (λ answer. answer) t).bytes

-- no record of it is above this number
unfoldable pub file_end : Tree (Option PlaceParts) → ℕ
file_end t = records_end same_answer (λ answer. answer) t

-- the tree of the record of the sources
unfoldable pub record_tree : InForce → Tree (Option PlaceParts)
record_tree s = tree same_answer (record_at s) 128 0

-- the file of the sources in force, which no earlier sources touch
unfoldable pub fresh : InForce → (epoch : ℕ) (name : List ℕ) → Option (List ℕ)
fresh s epoch name = file (record_tree s) epoch name
