-- The nodes of several trees together, each different one once.
use Rattle.std.specs.Prelude.{◌≡◌, ◌⊎◌, ℕ, Bool, List, [], ◌∷◌, map, length, flat_map, nat_eq}
use Rattle.trie_core.specs.declared.node.Pair.{Pair}
use Rattle.trie_core.specs.Tree.{Tree, HasLeaf, map_tree, tree_eq}
use Rattle.trie_core.specs.Laws.{IsEquality}
use Rattle.trie_core.specs.Compact.{HoldsExactly}
use Rattle.least_nodes.specs.Layout.{each_once, preorder}

-- the different nodes of these trees, in order of first visit
abbrev pub nodes_of : {A : Type 0} → (A → A → Bool) → List (Tree A) → List (Tree A)
nodes_of eq trees = each_once (tree_eq eq) [] (flat_map preorder trees)

-- a store with no other nodes than those of these trees has as many as they have different ones
abbrev pub CompactCount : List Pair → Type 0
CompactCount pairs =
    (trees : List (Tree ℕ)) → HoldsExactly pairs trees
    → length pairs ≡ length (nodes_of nat_eq trees)

-- one of these trees has this leaf
abbrev pub HaveLeaf : {A : Type 0} → List (Tree A) → A → Type 0
HaveLeaf [] a = ⊥
HaveLeaf (t ∷ ts) a = HasLeaf t a ⊎ HaveLeaf ts a

-- a renaming that gives different leaves of the trees different names keeps the
-- number of their different nodes
abbrev pub RenamedNodes : Type 0 → Type 0 → Type 0
RenamedNodes A B =
    (eq : A → A → Bool) → IsEquality eq → (eq' : B → B → Bool) → IsEquality eq'
    → (f : A → B) (trees : List (Tree A))
    → ((a b : A) → HaveLeaf trees a → HaveLeaf trees b → f a ≡ f b → a ≡ b)
    → length (nodes_of eq' (map (map_tree f) trees)) ≡ length (nodes_of eq trees)
