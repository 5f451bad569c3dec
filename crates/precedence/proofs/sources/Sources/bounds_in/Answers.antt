-- The chunk has all that its grounds have.
use Rattle.std.proofs.Common.{List, arith, refl, sym, subst}
use Rattle.std.specs.List.{Any}
use Rattle.geo_addr.specs.Ranges.{Ends, IsWithin}
use Rattle.precedence.proofs.sources.Sources.bounds_in.Goals as goal

pub returns-then-is_most-clause-covered : goal.returns-then-is_most-clause-covered
returns-then-is_most-clause-covered c a within on =
    subst (λ (rs : List Ends). Any (λ r. IsWithin r a) rs) (sym c.in_ok-bounds.ensures.items)
    (0, c.args.chunk, omega arith, refl, c.requires.within a on)
