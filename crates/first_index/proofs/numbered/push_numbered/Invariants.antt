use Rattle.std.proofs.Common.{◌≡◌, ◌+◌, ◌++◌, ◌≤◌, drop, length, map, vec_capacity, vec_len}
use Rattle.std.specs.List.{enumerate_from}
use Rattle.first_index.proofs.numbered.push_numbered.Given as goal

-- the statements that are left follow those that there are, and there is room for them
abbrev pub invariant-loop-statement : goal.invariant-loop-statement
invariant-loop-statement g l = record {
  numbered :
      map (λ x. (x.0, x.1.now)) l.ranked.items
      ++ enumerate_from (length l.ranked.items) (drop l.statement-index l.statements)
      ≡ map (λ x. (x.0, x.1.now)) l.fn.ranked.items
      ++ enumerate_from (length l.fn.ranked.items) l.statements;
  room : vec_len l.ranked + length l.statements ≤ vec_capacity l.ranked + l.statement-index;
}
