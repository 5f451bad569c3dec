-- A text is shorter without its mark.
use Rattle.line_parts.proofs.CutLemmas.{mark_test}
use Rattle.line_parts.proofs.cut.has_mark.Goals as goal

pub returns-clause-exact : goal.returns-clause-exact
returns-clause-exact c =
    mark_test c.args.text.now c.skip_mark.result.now c.skip_mark.ensures
