use Rattle.std.proofs.Common.{ℕ, List, nat_eq, sym, ap, ◌∙◌}
use Rattle.std.specs.Cmp.Lexicographic.{pointwise}
use Rattle.mmdb_data.proofs.KnownKeys.{known_here}
use Rattle.mmdb_data.proofs.noted_values.known.Goals as goal

pub returns-then-eq : goal.returns-then-eq
returns-then-eq c =
    known_here c.args.key.now c.args.keys.now c.loop-own.own-index c.loop-own-item.result
    c.loop-own-test.true c.loop-own-item.is
    (sym c.if-eq.true ∙ c.eq.ensures
    ∙ ap (λ (xs : List ℕ). pointwise nat_eq xs c.args.key.now) c.as_slice.ensures.value)
