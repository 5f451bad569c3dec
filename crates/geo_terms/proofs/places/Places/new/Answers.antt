-- An empty table leads no place anywhere.
use Rattle.std.proofs.Common.{arith, refl, rules}
use Rattle.std.specs.List.{IsDistinct}
use Rattle.geo_terms.proofs.TableLemmas.{table_none}
use Rattle.geo_terms.proofs.places.Places.new.Goals as goal

pub invariant_of-result : goal.invariant_of-result
unfolding IsDistinct
invariant_of-result c =
    rw (c.new.ensures.items, c.new-2.ensures.items) (
      search rules,
      search rules,
      table_none 0 c.new-3.result (λ some. absurd (omega (arith, some)))
          (rw c.new-3.ensures.empty (λ p. refl)),
    )
