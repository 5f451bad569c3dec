-- What a session stands for, and the file that it emits.
use Rattle.std.specs.Prelude.{◌+◌, ℕ, ◌^◌, nat_le, Bool, List, length, map, Option, option_map}
use Rattle.std.specs.Prelude.{option_and_then}
use Rattle.geo_terms.specs.Sources.{InForce, no_sources}
use Rattle.mmdb_tree.specs.Nodes.{smallest, record_size}
use Rattle.least_nodes.specs.Together.{nodes_of}
use Rattle.mmdb_file.specs.FileImage.{file_nodes, file_section, record_tree, same_answer, fresh}
use Rattle.mmdb_file.specs.declared.writing.Emitted.{Emitted}

-- the sources in force, and the build epoch and the name of the files
pub record State : Type 0 where
  pub sources : InForce
  pub epoch : ℕ
  pub name : List ℕ

-- the state of a session that was just begun
abbrev pub begun : (epoch : ℕ) (name : List ℕ) → State
begun epoch name = record { sources = no_sources; epoch = epoch; name = name }

-- a file, and its counts: nodes, bytes of the data section, and bits of a record
pub record FileValue : Type 0 where
  pub bytes : List ℕ
  pub nodes : ℕ
  pub section : ℕ
  pub bits : ℕ

-- the nodes of a fresh build
unfoldable pub node_count : State → ℕ
node_count s = file_nodes (record_tree s.sources)

-- the bytes of the data section of a fresh build
unfoldable pub section_length : State → ℕ
section_length s = length (file_section (record_tree s.sources))

-- whether records of 32 bits do not hold the numbers of a fresh build
unfoldable pub is_too_large : State → Bool
is_too_large s = nat_le (2 ^ 32) (node_count s + 16 + section_length s)

-- the file of a fresh build with its counts, unless it is too large
unfoldable pub file_of : State → Option FileValue
file_of s =
    option_and_then
    (λ bits. option_map (λ bytes. record {
      bytes = bytes;
      nodes = node_count s;
      section = section_length s;
      bits = record_size bits;
    }) (fresh s.sources s.epoch s.name))
    (smallest (node_count s + 16 + section_length s))

-- a file that was written, as its definition
abbrev pub value_of : Emitted → FileValue
value_of e = record { bytes = e.bytes.items; nodes = e.nodes; section = e.section; bits = e.bits }

-- the different nodes under the trees of these sources, counted
unfoldable pub nodes_under : List InForce → ℕ
nodes_under bases = length (nodes_of same_answer (map record_tree bases))
