-- The laws of reduced trees, for every height and over every kind of leaf.
use Rattle.std.specs.Prelude.{◌≡◌, ℕ, ◌^◌, ◌<◌, ◌≤◌, Bool, List, length, Some, option_map, nat_eq}
use Rattle.std.specs.Prelude.{Decides}
use Rattle.geo_addr.specs.Bits.{bits_of}
use Rattle.trie_core.specs.declared.node.Rec.{Rec}
use Rattle.trie_core.specs.declared.node.Root.{Root}
use Rattle.trie_core.specs.declared.node.Pair.{Pair}
use Rattle.trie_core.specs.Tree.{Tree, height, look, IsReduced, HasLeaf, map_tree, tree}
use Rattle.trie_core.specs.Store.{meaning, tree_of, leaf_at, IsOf, IsRootOf}

-- no leaf is deeper than n, and no node has two equal leaves
abbrev pub IsReducedWithin : {A : Type 0} → ℕ → Tree A → Type 0
IsReducedWithin n t = (height t ≤ n) × IsReduced t

-- two trees answer the same along each list of n bits
abbrev pub SameLookups : {A : Type 0} → ℕ → Tree A → Tree A → Type 0
SameLookups n s t = (w : List Bool) → length w ≡ n → look s w ≡ look t w

-- this test tells equal leaves from others
abbrev pub IsEquality : {A : Type 0} → (A → A → Bool) → Type 0
IsEquality {A} eq = (x y : A) → Decides (eq x y) (x ≡ y)

-- a tree answers a function at each address of n bits
abbrev pub Answers : {A : Type 0} → ℕ → (ℕ → A) → Tree A → Type 0
Answers n f t = (a : ℕ) → a < 2 ^ n → look t (bits_of n a) ≡ Some (f a)

-- equal lookups, equal trees
abbrev pub Canonical : Type 0 → Type 0
Canonical A =
    (n : ℕ) (s t : Tree A) → IsReducedWithin n s → IsReducedWithin n t → SameLookups n s t → s ≡ t

-- the tree of a function is reduced and answers the function
abbrev pub TreeOfFunction : Type 0 → Type 0
TreeOfFunction A =
    (eq : A → A → Bool) → IsEquality eq
    → (f : ℕ → A) (n : ℕ) → IsReducedWithin n (tree eq f n 0) × Answers n f (tree eq f n 0)

-- no other reduced tree answers the function
abbrev pub OnlyTree : Type 0 → Type 0
OnlyTree A =
    (eq : A → A → Bool) → IsEquality eq → (f : ℕ → A) (n : ℕ) (t : Tree A) → IsReducedWithin n t
    → Answers n f t → t ≡ tree eq f n 0

-- a renaming that gives different leaves of the tree different names keeps it reduced,
-- and the tree answers the new names
abbrev pub Renamed : Type 0 → Type 0 → Type 0
Renamed A B =
    (f : A → B) (n : ℕ) (t : Tree A)
    → ((a b : A) → HasLeaf t a → HasLeaf t b → f a ≡ f b → a ≡ b) → IsReducedWithin n t
    → IsReducedWithin n (map_tree f t)
    × ((w : List Bool) → look (map_tree f t) w ≡ option_map f (look t w))

-- records of a store that have the same leaf at each address are the same record
abbrev pub OneRecord : List Pair → Type 0
OneRecord pairs =
    (r s : Rec) → IsOf pairs r → IsOf pairs s → ((a : ℕ) → a < 2 ^ 128
    → look (meaning pairs r) (bits_of 128 a) ≡ look (meaning pairs s) (bits_of 128 a)) → r ≡ s

-- a root of a store that answers a function at each address means the function's tree
abbrev pub MeansFunction : List Pair → Type 0
MeansFunction pairs =
    (root : Root) → IsRootOf pairs root
    → (f : ℕ → ℕ) → ((a : ℕ) → a < 2 ^ 128 → leaf_at pairs root a ≡ Some (f a))
    → tree_of pairs root ≡ tree nat_eq f 128 0
