use Rattle.std.proofs.Common.{length, sym, ap, subst, arith}
use Rattle.mmdb_data.specs.FullValues.{AreNew}
use Rattle.mmdb_data.proofs.Table.{new_taken}
use Rattle.mmdb_data.proofs.full_values.FullValues.truncate.Goals as goal

pub invariant_of-self : goal.invariant_of-self
invariant_of-self c = (
  subst AreNew (sym c.truncate.ensures)
      (new_taken c.self.inside.list c.args.len c.self.invariant.0),
  λ some. absurd (omega (arith, some, ap length c.clear.ensures.items)),
)
