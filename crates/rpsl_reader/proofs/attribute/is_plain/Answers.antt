use Rattle.rpsl_reader.proofs.Sides.{plain_line}
use Rattle.rpsl_reader.proofs.attribute.is_plain.Goals as goal

pub returns-then-end-line : goal.returns-then-end-line
returns-then-end-line c colon =
    plain_line c.args.line.now c.plain_front-end.result c.is_ascii_lowercase.result
    c.if-end-line.true c.plain_front-end.ensures.within c.plain_front-end.ensures.named colon
    c.is_ascii_lowercase.ensures.value c.if-not-is_ascii_lowercase.false
