-- The metadata map (MaxMind DB 2.0, "Database Metadata").
use Rattle.std.specs.Prelude.{ℕ, List, [], ◌∷◌, ◌++◌, codes}
use Rattle.mmdb_data.specs.ValueTree.{ValueTree, Members, map, list, text, u16, u32, u64}
use Rattle.mmdb_data.specs.ValueTree.{no_members, member}
use Rattle.mmdb_data.specs.ValueTree.{item, no_items}
use Rattle.mmdb_data.specs.View.{members_of}
use Rattle.mmdb_data.specs.Spelling.{spelling}

-- one text, for English
unfoldable pub english : List ℕ → ValueTree
english name = map (member (codes "en") (text name) no_members)

-- what the writer tells of a file's format and kind: its build epoch,
-- and a name that is its type and its description
abbrev pub kind_members : (epoch : ℕ) (name : List ℕ) → List (List ℕ × ValueTree)
kind_members epoch name =
    (codes "binary_format_major_version", u16 2) ∷ (codes "binary_format_minor_version", u16 0)
    ∷ (codes "build_epoch", u64 epoch)
    ∷ (codes "database_type", text name) ∷ (codes "description", english name) ∷ []

-- and of its tree: the node count and the bits of a record
abbrev pub tree_members : (nodes size : ℕ) → List (List ℕ × ValueTree)
tree_members nodes size =
    (codes "ip_version", u16 6) ∷ (codes "languages", list (item (text (codes "en")) no_items))
    ∷ (codes "node_count", u32 nodes)
    ∷ (codes "record_size", u16 size) ∷ []

-- keys ascend by their bytes
unfoldable pub told_members : (epoch : ℕ) (name : List ℕ) (nodes size : ℕ) → Members
told_members epoch name nodes size = members_of (kind_members epoch name ++ tree_members nodes size)

unfoldable pub metadata : (epoch : ℕ) (name : List ℕ) (nodes size : ℕ) → List ℕ
metadata epoch name nodes size = spelling (map (told_members epoch name nodes size))
