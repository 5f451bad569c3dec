use Rattle.std.proofs.Common.{◌≡◌, ◌++◌, ◌||◌, filter, length}
use Rattle.std.specs.List.{list_any}
use Rattle.rpsl_reader.specs.Attributes.{attributes, is_stray}
use Rattle.rpsl_reader.specs.Selections.{wants_name}
use Rattle.rpsl_reader.proofs.attribute.push_attributes.Given as goal

abbrev pub invariant-loop-left : goal.invariant-loop-left
invariant-loop-left l = record {
  parts :
      l.parts.items ++ filter (λ a. wants_name l.selection a.name) (attributes l.left)
      ≡ l.initial.parts.items ++ filter (λ a. wants_name l.selection a.name) (attributes l.lines);
  strays : (l.strays || list_any (λ k. is_stray k.1) l.left) ≡ list_any (λ k. is_stray k.1) l.lines;
}

abbrev pub decreases-loop-left : goal.decreases-loop-left
decreases-loop-left l = length l.left
