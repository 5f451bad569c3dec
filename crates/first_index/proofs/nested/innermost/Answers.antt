use Rattle.std.proofs.Common.{sym}
use Rattle.first_index.proofs.NestedLemmas.{top_last}
use Rattle.first_index.proofs.nested.innermost.Goals as goal

pub returns : goal.returns
returns g c =
    sym (top_last c.args.opened.now c.in_ok-last.field-0.now (sym c.in_ok-last.ensures.value))
