use Rattle.std.proofs.Common.{◌≡◌, ◌++◌, map, drop, length}
use Rattle.std.specs.Arc.{arc_value}
use Rattle.std.specs.List.{flat_map}
use Rattle.precedence.specs.Delegations.{starts_from}
use Rattle.precedence.proofs.delegations.push_files.Given as goal

-- the rows of the files that are left follow what was found, and so do their starts
abbrev pub invariant-loop-file : goal.invariant-loop-file
invariant-loop-file l = record {
  rows :
      l.rows
      ++ flat_map (λ t. t.rows) (map arc_value (drop l.file-index l.files))
      ≡ l.fn.rows ++ flat_map (λ t. t.rows) (map arc_value l.files);
  starts :
      l.starts.items
      ++ starts_from (length l.rows) (map arc_value (drop l.file-index l.files))
      ≡ l.fn.starts.items ++ starts_from (length l.fn.rows) (map arc_value l.files);
}
