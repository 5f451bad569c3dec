-- What the text of a dump says so far, by its lines and their groups (RFC 2622, section 2: objects
-- are separated by blank lines), while more of the text may follow.
use Rattle.std.specs.Prelude.{ℕ, List, [], ◌∷◌, map, flat_map}
use Rattle.std.specs.List.{enumerate_from}
use Rattle.std.specs.Str.Lines.{strip_carriage_return}
use Rattle.geo_addr.specs.Lines.{pieces, without_mark}
use Rattle.rpsl_reader.specs.declared.item.Item.{Item}
use Rattle.rpsl_reader.specs.Attributes.{Numbered}
use Rattle.rpsl_reader.specs.Objects.{group_items, groups}

-- all of a list but its last
abbrev pub but_last : {X : Type 0} → List X → List X
but_last [] = []
but_last (x ∷ []) = []
but_last (x ∷ next ∷ more) = x ∷ but_last (next ∷ more)

-- the lines that have ended, each beside its number: what stands behind the last line feed
-- may still grow
abbrev pub ended_lines : List ℕ → List Numbered
ended_lines text =
    enumerate_from 1 (map strip_carriage_return (but_last (pieces 10 (without_mark text))))

-- the groups that a line has ended: the lines behind the last of them may still get more
abbrev pub ended_groups : List Numbered → List (List Numbered)
ended_groups ls = but_last (groups ls)

-- the items of the groups that have ended, in order
unfoldable pub said_so_far : List ℕ → List Item
said_so_far text = flat_map group_items (ended_groups (ended_lines text))
