-- A store of the nodes under some roots alone.
use Rattle.std.specs.Prelude.{◌≡◌, ℕ, ◌⊎◌, List, [], ◌∷◌, ◌++◌, map, length, slice_get}
use Rattle.std.specs.Prelude.{Some, All, Contains}
use Rattle.trie_core.specs.declared.node.NodeId.{NodeId}
use Rattle.trie_core.specs.declared.node.Rec.TheVariants.{Node}
use Rattle.trie_core.specs.declared.node.Root.{Root}
use Rattle.trie_core.specs.declared.node.Pair.{Pair}
use Rattle.trie_core.specs.Tree.{Tree, node, IsPartOf}
use Rattle.trie_core.specs.Store.{meaning, tree_of, IsOf, IsRootOf, IsSound, IsAdded}
use Rattle.trie_core.specs.Graft.{HoldsTree}

-- these are roots of the store
abbrev pub AreRootsOf : List Pair → List Root → Type 0
AreRootsOf pairs roots = All (IsRootOf pairs) roots

-- the trees that these roots mean
abbrev pub trees_of_roots : List Pair → List Root → List (Tree ℕ)
trees_of_roots pairs roots = map (tree_of pairs) roots

-- a tree is one of these, or stands somewhere in one of them
abbrev pub StandsIn : List (Tree ℕ) → Tree ℕ → Type 0
StandsIn [] t = ⊥
StandsIn (u ∷ us) t = IsPartOf t u ⊎ StandsIn us t

-- the nodes of the store are exactly the nodes of these trees
pub record HoldsExactly (pairs : List Pair) (trees : List (Tree ℕ)) : Type 0 where
  pub no_other : (id : NodeId) → IsOf pairs (Node id) → StandsIn trees (meaning pairs (Node id))
  pub each : (l r : Tree ℕ) → StandsIn trees (node l r) → HoldsTree pairs (node l r)

-- these nodes of a store were taken along into a new one,
-- where they have the same numbers as in this list
pub record AreTaken (old : List Pair) (nodes : List NodeId) (new : List Pair) : Type 0 where
  pub sound : IsSound new
  pub long : length new ≡ length nodes
  pub of : (k : ℕ) (id : NodeId) → slice_get nodes k ≡ Some id → IsOf old (Node id)
  pub once : (i j : ℕ) (id : NodeId) → slice_get nodes i ≡ Some id
      → slice_get nodes j ≡ Some id → i ≡ j
  pub same : (k id : NodeId) → slice_get nodes k.0 ≡ Some id
      → meaning new (Node k) ≡ meaning old (Node id)

-- a node has the number k in a list into which it went, and its pair into a set, where it was new
abbrev pub IsNumbered : List NodeId → List NodeId → List Pair → List Pair → NodeId → Pair
    → ℕ → Type 0
IsNumbered nodes nodes' pairs pairs' id pair k =
    ((slice_get nodes k ≡ Some id) × (nodes' ≡ nodes) × (pairs' ≡ pairs))
    ⊎ ((Contains nodes id → ⊥) × (k ≡ length nodes) × (nodes' ≡ nodes ++ id ∷ [])
    × IsAdded pairs pairs' pair)

-- and these roots too, and nothing that does not stand under them
pub record AreRootsTaken (old : List Pair) (nodes : List NodeId) (new : List Pair)
    (roots made : List Root) : Type 0 where
  pub taken : AreTaken old nodes new
  pub of : AreRootsOf new made
  pub meaning_is : trees_of_roots new made ≡ trees_of_roots old roots
  pub under : (id : NodeId)
      → IsOf new (Node id) → StandsIn (trees_of_roots old roots) (meaning new (Node id))
