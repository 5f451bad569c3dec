-- Lists of lines, each a block with a leaf, and what they answer by longest match.
use Rattle.std.specs.Prelude.{◌≡◌, ℕ, ◌^◌, ◌<◌, ◌≤◌, ◌⊎◌, Bool, nat_le, if◌then◌else◌, List}
use Rattle.std.specs.Prelude.{[], ◌∷◌, Option, None, Some, All, length}
use Rattle.geo_addr.specs.Ranges.{Prefix, IsBlock, IsWithin, range_of_block, holds}
use Rattle.publish_least.specs.declared.line.Line.{Line}

-- the longer of a line and of another one, if there is another:
-- the first of two that are equally long
abbrev pub longer : Line → Option Line → Option Line
longer x None = Some x
longer x (Some y) = if nat_le y.block.len x.block.len then Some x else Some y

-- the longest of the lines whose block passes a test
abbrev pub longest : (Prefix → Bool) → List Line → Option Line
longest test [] = None
longest test (x ∷ xs) = if test x.block then longer x (longest test xs) else longest test xs

-- the leaf of a line, and another leaf where there is no line
abbrev pub leaf_or : ℕ → Option Line → ℕ
leaf_or other None = other
leaf_or other (Some x) = x.leaf

-- what the lines answer for an address: the leaf of the longest line that holds it,
-- and 0 where none does
abbrev pub answer : List Line → ℕ → ℕ
answer lines at = leaf_or 0 (longest (λ b. holds (range_of_block b) at) lines)

-- a block has no address outside another one
pub record IsInside (within b : Prefix) : Type 0 where
  pub aligned : IsBlock b
  pub first : within.first ≤ b.first
  pub last : (range_of_block b).last ≤ (range_of_block within).last

-- all lines lie in a block
abbrev pub AreInside : Prefix → List Line → Type 0
AreInside within lines = All (λ x. IsInside within x.block) lines

-- the lines answer as this function does, at each address of a block
abbrev pub AnswerAs : (ℕ → Option ℕ) → Prefix → List Line → Type 0
AnswerAs leaf_of within lines =
    (a : ℕ) → IsWithin (range_of_block within) a → leaf_of a ≡ Some (answer lines a)

-- no list of lines in the block that answers as this function does is shorter
abbrev pub AreFewest : (ℕ → Option ℕ) → Prefix → List Line → Type 0
AreFewest leaf_of within lines =
    (others : List Line) → AreInside within others → AnswerAs leaf_of within others
    → length lines ≤ length others

-- one line stands before another: its block begins earlier,
-- or at the same address and is longer than the other one's
abbrev pub IsBefore : Line → Line → Type 0
IsBefore x y =
    (x.block.first < y.block.first)
    ⊎ ((x.block.first ≡ y.block.first) × (x.block.len < y.block.len))

-- the order of a walk that takes a block before its parts, and the lower half before the upper one;
-- no block comes twice
abbrev pub InPreorder : List Line → Type 0
InPreorder [] = Unit {0}
InPreorder (x ∷ xs) = All (IsBefore x) xs × InPreorder xs

-- a block is of IPv4, or it begins past the IPv4 addresses: its ground is all of it
abbrev pub IsPlain : Prefix → Type 0
IsPlain b = ((range_of_block b).last < 2 ^ 32) ⊎ (2 ^ 32 ≤ b.first)
