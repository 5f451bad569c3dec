use Rattle.rpsl_reader.proofs.Lanes.{ends_at_colon}
use Rattle.rpsl_reader.proofs.Sides.{end_past}
use Rattle.rpsl_reader.proofs.attribute.name_end.Goals as goal

pub returns-in-None-clause-end : goal.returns-in-None-clause-end
returns-in-None-clause-end c = end_past c.args.line.now c.in-None.ensures

pub returns-then-line-end-eq58-clause-end : goal.returns-then-line-end-eq58-clause-end
returns-then-line-end-eq58-clause-end c =
    ends_at_colon c.args.line.now c.plain_front-end.result c.if-end-line.true
    c.plain_front-end.ensures.named c.if-line-end-eq58.true
