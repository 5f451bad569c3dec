-- The lines of a tree under a block: which of the shortest lists is taken.
use Rattle.std.specs.Prelude.{ℕ, ◌+◌, ◌-◌, ◌/◌, ◌^◌, Bool, if◌then◌else◌, nat_eq, List, [], ◌∷◌}
use Rattle.std.specs.Prelude.{◌++◌}
use Rattle.geo_addr.specs.Bits.{bits_of}
use Rattle.geo_addr.specs.Ranges.{Prefix}
use Rattle.trie_core.specs.Tree.{Tree, leaf, node}
use Rattle.least_nodes.specs.Layout.{each_once, leaves, below}
use Rattle.publish_least.specs.declared.line.Line.{Line}
use Rattle.publish_least.specs.Price.{has, best}

-- the lower and the upper half of a block
abbrev pub lower_half : Prefix → Prefix
lower_half b = record { first = b.first; len = b.len + 1 }

abbrev pub upper_half : Prefix → Prefix
upper_half b = record { first = b.first + 2 ^ (127 - b.len); len = b.len + 1 }

-- the first leaf of an order that is in a list
abbrev pub first_of : List ℕ → List ℕ → ℕ
first_of [] xs = 0
first_of (y ∷ ys) xs = if has xs y then y else first_of ys xs

-- the leaf that stands at the root of a tree: the inherited one where it is best,
-- else the first of the best ones
abbrev pub standing : List ℕ → Tree ℕ → ℕ → ℕ
standing order t d = if has (best t) d then d else first_of order (best t)

-- the line at the root of a tree: there is none where the inherited leaf is best
abbrev pub root_line : List ℕ → Tree ℕ → Prefix → ℕ → List Line
root_line order t b d =
    if has (best t) d then [] else record { block = b; leaf = first_of order (best t) } ∷ []

-- the lines of a tree under a block, where a leaf is inherited:
-- that of its root, those of the lower half, those of the upper half
abbrev pub lines_below : List ℕ → Tree ℕ → Prefix → ℕ → List Line
lines_below order (leaf x) b d = root_line order (leaf x) b d
lines_below order (node l r) b d =
    root_line order (node l r) b d
    ++ (lines_below order l (lower_half b) (standing order (node l r) d)
    ++ lines_below order r (upper_half b) (standing order (node l r) d))

-- the leaves of a tree in order of first visit, behind those of a list
abbrev pub order_after : List ℕ → Tree ℕ → List ℕ
order_after seen t = each_once nat_eq seen (leaves t)

-- the lines of a tree under a block: leaf 0 is inherited,
-- and goes first where it is among the best ones
abbrev pub lines_of : Tree ℕ → Prefix → List Line
lines_of t within = lines_below (order_after (0 ∷ []) t) t within 0

-- the bits of a block's prefix
abbrev pub prefix_bits : Prefix → List Bool
prefix_bits b = bits_of b.len (b.first / 2 ^ (128 - b.len))

-- the tree under a block
abbrev pub part_of : Tree ℕ → Prefix → Tree ℕ
part_of t b = below t (prefix_bits b)
