-- What a file that is written is: what the sources ask for, and the least.
use Rattle.std.specs.Prelude.{◌≡◌, ℕ, ◌^◌, ◌≤◌, ◌<◌, List, length, Option, Some, option_map, Ok}
use Rattle.geo_addr.specs.Bits.{bits_of}
use Rattle.geo_terms.specs.PlaceForm.{PlaceParts}
use Rattle.geo_terms.specs.Precedence.{record_at}
use Rattle.trie_core.specs.Tree.{HasLeaf}
use Rattle.least_nodes.specs.NodeList.{Member}
use Rattle.least_nodes.specs.Laws.{Finds}
use Rattle.mmdb_data.specs.ValueTree.{ValueTree as Value}
use Rattle.mmdb_file.specs.FileImage.{fresh, record_tree}
use Rattle.mmdb_file.specs.PlaceValue.{place_value}
use Rattle.mmdb_file.specs.Walk.{nodes_told, walk}
use Rattle.update_session.specs.State.{State, FileValue, file_of}
use Rattle.job_lines.specs.declared.act.Act.TheVariants.{Emit}
use Rattle.job_run.specs.Acts.{Move, looks, counts, does, sets, shows}

-- a file is what the sources ask for: a fresh build of them; at each address the walk through it
-- gives the value of the record; and no list of nodes that finds each address's record is shorter
-- than the count of nodes that whoever opens the file reads in it
pub record IsLeastFile (state : State) (file : FileValue) : Type 0 where
  pub fresh_bytes : fresh state.sources state.epoch state.name ≡ Some file.bytes
  pub walked : (a : ℕ) → a < 2 ^ 128
      → walk file.bytes (bits_of 128 a) ≡ Ok (option_map place_value (record_at state.sources a))
  pub fewest : (nodes : List (Member (Option PlaceParts) × Member (Option PlaceParts)))
      → Finds 128 nodes (record_at state.sources) → file.nodes ≤ length nodes
  pub told : nodes_told file.bytes ≡ Some file.nodes

-- the file that an emit writes is there and is what the sources ask for
pub record IsPublished (state : State) : Type 0 where
  pub file : FileValue
  pub emitted : file_of state ≡ Some file
  pub least : IsLeastFile state file

-- what an emit writes is what the sources ask for
abbrev pub Publishes : Move → State → Type 0
Publishes (looks step) state = Unit {0}
Publishes (counts step) state = Unit {0}
Publishes (does step) state = (name : List ℕ) → step.act ≡ Emit name → IsPublished state
Publishes (sets change) state = Unit {0}
Publishes (shows last) state = Unit {0}

-- no two places of the file have equal values
abbrev pub AreDistinct : State → Type 0
AreDistinct state =
    (p q : PlaceParts) → HasLeaf (record_tree state.sources) (Some p)
    → HasLeaf (record_tree state.sources) (Some q) → place_value p ≡ place_value q → p ≡ q

-- where no two places of the file have equal values, no list of nodes that finds the value of each
-- address's record is shorter than the file
abbrev pub IsLeastByValue : State → Type 0
IsLeastByValue state =
    (file : FileValue) → file_of state ≡ Some file → AreDistinct state
    → (nodes : List (Member (Option Value) × Member (Option Value)))
    → Finds 128 nodes (λ a. option_map place_value (record_at state.sources a))
    → file.nodes ≤ length nodes
