-- The fewest lines that a tree needs under an inherited leaf,
-- and the leaves at its root that cost least.
use Rattle.std.specs.Prelude.{ℕ, ◌+◌, min, Bool, if◌then◌else◌, nat_eq, List, [], ◌∷◌, ◌++◌, filter}
use Rattle.std.specs.List.{list_any}
use Rattle.trie_core.specs.Tree.{Tree, leaf, node}
use Rattle.least_nodes.specs.Layout.{leaves}

-- the least price at one leaf and at those of a list
abbrev pub least_price : (ℕ → ℕ) → ℕ → List ℕ → ℕ
least_price price d [] = price d
least_price price d (x ∷ xs) = min (price x) (least_price price d xs)

-- how many lines a tree needs where a leaf is inherited: its halves inherit that leaf,
-- or a line at the root gives them another one
abbrev pub cost : Tree ℕ → ℕ → ℕ
cost (leaf x) d = if nat_eq d x then 0 else 1
cost (node l r) d =
    min (cost l d + cost r d) (1 + least_price (λ e. cost l e + cost r e) 0 (leaves l ++ leaves r))

-- a leaf is in a list
abbrev pub has : List ℕ → ℕ → Bool
has xs d = list_any (nat_eq d) xs

-- the first leaves that are among the second ones
abbrev pub shared : List ℕ → List ℕ → List ℕ
shared xs ys = filter (has ys) xs

-- the leaves of a list, or where it is empty those of two others
abbrev pub or_either : List ℕ → List ℕ → List ℕ → List ℕ
or_either [] xs ys = xs ++ ys
or_either (z ∷ zs) xs ys = z ∷ zs

-- the best leaves to inherit: those that are best for both halves,
-- or where there are none those that are best for either
abbrev pub best : Tree ℕ → List ℕ
best (leaf x) = x ∷ []
best (node l r) = or_either (shared (best l) (best r)) (best l) (best r)
