-- Marks with other roots.
use Rattle.std.specs.Prelude.{List, [], ◌∷◌}
use Rattle.trie_core.specs.declared.node.Root.{Root}
use Rattle.update_session.specs.declared.marks.Mark.{Mark}

-- the marks with these roots, one by one
abbrev pub with_roots : List Mark → List Root → List Mark
with_roots [] rs = []
with_roots (m ∷ ms) [] = m ∷ ms
with_roots (m ∷ ms) (r ∷ rs) = record m { root = r } ∷ with_roots ms rs
