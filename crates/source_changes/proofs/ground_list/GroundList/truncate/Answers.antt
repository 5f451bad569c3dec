use Rattle.std.proofs.Common.{◌∙◌, sym, arith}
use Rattle.std.proofs.lemmas.List.{take_all}
use Rattle.source_changes.proofs.PackingLemmas.{take_before}
use Rattle.source_changes.proofs.ground_list.GroundList.truncate.Goals as goal

pub loop-self-preserved : goal.loop-self-preserved
loop-self-preserved c =
    take_before c.args.len c.loop-self.self c.drop_last.new.self c.drop_last.ensures.0
    c.drop_last.ensures.1 (omega (arith, c.len.ensures, c.loop-self-test.true))
    ∙ c.loop-self.invariant

pub returns : goal.returns
returns c =
    sym (take_all c.args.len c.loop-self.self
    (omega (arith, c.len.ensures, c.loop-self-test.false)))
    ∙ c.loop-self.invariant
