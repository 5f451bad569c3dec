-- What a walk through a store keeps of its leaves and of each node's best leaves.
use Rattle.std.specs.Prelude.{◌≡◌, ◌≢◌, ℕ, Bool, true, nat_eq, List, slice_get, Option}
use Rattle.std.specs.Prelude.{Some, option_map}
use Rattle.std.specs.List.Sorted.{IsNonDecreasing}
use Rattle.indexmap.specs.IndexMap.{get}
use Rattle.trie_core.specs.declared.node.NodeId.{NodeId}
use Rattle.trie_core.specs.declared.node.Rec.{Rec}
use Rattle.trie_core.specs.declared.node.Rec.TheVariants.{Leaf, Node}
use Rattle.trie_core.specs.declared.node.Pair.{Pair}
use Rattle.trie_core.specs.Tree.{Tree, leaf}
use Rattle.trie_core.specs.Store.{meaning, pair_of}
use Rattle.least_nodes.specs.Layout.{leaves}
use Rattle.publish_least.specs.declared.memo.Memo.{Memo}
use Rattle.publish_least.specs.Price.{has, best}

-- the leaves in order, and for a node the indexes of its best leaves among them
pub record Table : Type 0 where
  pub order : List ℕ
  pub find : NodeId → Option (List ℕ)

-- two numbers of one node
abbrev pub same_node : NodeId → NodeId → Bool
same_node id other = nat_eq id.0 other.0

abbrev pub table_of : Memo → Table
table_of m = record {
  order = m.order.keys;
  find = λ id. option_map (λ v. v.items) (get same_node m.sets id);
}

-- these are the indexes of the tree's best leaves, ascending, and all leaves of the tree have
-- indexes
pub record IsSet (order : List ℕ) (t : Tree ℕ) (set : List ℕ) : Type 0 where
  pub rises : IsNonDecreasing set
  pub sound : (i : ℕ) → has set i ≡ true
      → (x : ℕ) × (slice_get order i ≡ Some x) × (has (best t) x ≡ true)
  pub whole : (i x : ℕ) → slice_get order i ≡ Some x → has (best t) x ≡ true → has set i ≡ true
  pub listed : (x : ℕ) → has (leaves t) x ≡ true → has order x ≡ true

-- a record is a leaf that has an index, or a node whose set is held
abbrev pub IsKnown : Table → Rec → Type 0
IsKnown table (Leaf x) = has table.order x ≡ true
IsKnown table (Node id) = (set : List ℕ) × (table.find id ≡ Some set)

-- what holds of the walk: no leaf has two indexes, the sets are right,
-- and the children of a node with a set are known
pub record IsMemo (pairs : List Pair) (table : Table) : Type 0 where
  pub once : (i j x : ℕ) → slice_get table.order i ≡ Some x
      → slice_get table.order j ≡ Some x → i ≡ j
  pub sets : (id : NodeId) (set : List ℕ) → table.find id ≡ Some set
      → IsSet table.order (meaning pairs (Node id)) set
  pub below : (id : NodeId) (set : List ℕ) (pair : Pair) → table.find id ≡ Some set
      → pair_of pairs id ≡ Some pair → IsKnown table pair.left × IsKnown table pair.right

-- the tree that is one leaf
abbrev pub single : ℕ → Tree ℕ
single x = leaf x

-- what was known is known
abbrev pub Stays : Table → Table → Type 0
Stays old new = (rec : Rec) → IsKnown old rec → IsKnown new rec

-- the set of one node was added
pub record IsNoted (old new : Table) (id : NodeId) (set : List ℕ) : Type 0 where
  pub order : new.order ≡ old.order
  pub here : new.find id ≡ Some set
  pub others : (other : NodeId) → other ≢ id → new.find other ≡ old.find other

-- a leaf stands at this index
abbrev pub HasIndex : List ℕ → Rec → ℕ → Type 0
HasIndex order (Leaf x) index = slice_get order index ≡ Some x
HasIndex order (Node id) index = Unit {0}

-- what is read as the set of a record: for a leaf what stands alone,
-- for a node the set that is held
abbrev pub IsSetOf : Table → Rec → List ℕ → List ℕ → Type 0
IsSetOf table (Leaf x) alone set = set ≡ alone
IsSetOf table (Node id) alone set = (held : List ℕ) → table.find id ≡ Some held → set ≡ held
