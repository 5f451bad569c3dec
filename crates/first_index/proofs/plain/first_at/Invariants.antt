-- The first so far and the statements that are left give the first of all.
use Rattle.std.proofs.Common.{◌≡◌, drop, fold}
use Rattle.std.specs.Option.{option_copied}
use Rattle.std.specs.Ordering.{is_lt}
use Rattle.geo_terms.specs.First.{better, holders}
use Rattle.first_index.proofs.plain.first_at.Given as goal

abbrev pub invariant-loop-statement : goal.invariant-loop-statement
invariant-loop-statement g l =
    fold (better (λ x y. is_lt (g.S.Statement.order x y))) (option_copied l.first)
    (holders g.S.Statement.range (drop l.statement-index l.statements) l.at.0)
    ≡ fold (better (λ x y. is_lt (g.S.Statement.order x y))) (option_copied l.fn.found)
    (holders g.S.Statement.range l.statements l.at.0)
