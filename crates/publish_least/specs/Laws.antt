-- The laws of the least lines, for every tree.
use Rattle.std.specs.Prelude.{◌≡◌, ℕ, ◌+◌, ◌-◌, ◌≤◌, true, if◌then◌else◌, length}
use Rattle.geo_addr.specs.Bits.{bits_of}
use Rattle.geo_addr.specs.Ranges.{Prefix, IsBlock}
use Rattle.trie_core.specs.Tree.{Tree, height, look}
use Rattle.publish_least.specs.Lines.{AreInside, AnswerAs, AreFewest, InPreorder, IsPlain}
use Rattle.publish_least.specs.Price.{cost, has, best}
use Rattle.publish_least.specs.Choice.{lines_of}

-- the best leaves are those under which a tree needs fewest lines,
-- and under each other leaf it needs one line more
abbrev pub BestCostLeast : Type 0
BestCostLeast =
    (t : Tree ℕ) → (least : ℕ) × ((d : ℕ) → cost t d ≡ least + (if has (best t) d then 0 else 1))
    × ((d : ℕ) × (has (best t) d ≡ true))

-- the lines of a tree under a block answer as the tree does, none has fewer,
-- and they are as many as the tree needs
abbrev pub FewestLines : Type 0
FewestLines =
    (t : Tree ℕ) (within : Prefix) → IsBlock within → IsPlain within → height t ≤ 128 - within.len
    → AreInside within (lines_of t within) × InPreorder (lines_of t within)
    × AnswerAs (λ a. look t (bits_of (128 - within.len) a)) within (lines_of t within)
    × AreFewest (λ a. look t (bits_of (128 - within.len) a)) within (lines_of t within)
    × (length (lines_of t within) ≡ cost t 0)
