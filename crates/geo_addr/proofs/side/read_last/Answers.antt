use Rattle.geo_addr.proofs.SideLemmas.{reads_last_group, reads_last_dotted, reads_last_fault}
use Rattle.geo_addr.proofs.side.read_last.Goals as goal

pub returns-in-Some-clause-reads : goal.returns-in-Some-clause-reads
returns-in-Some-clause-reads c =
    reads_last_group _ _ _ _ _ c.in-Some.ensures.0 c.in-Some.ensures.1 c.push.ensures.adds

pub returns-in-Ok-clause-reads : goal.returns-in-Ok-clause-reads
returns-in-Ok-clause-reads c =
    reads_last_dotted _ _ _ _ _ c.in-Ok.octets c.if-not-dots.false c.in_default.ensures
    c.in-Ok.ensures.value c.push-in-Ok.ensures.adds c.push-in-Ok-2.ensures.adds

pub returns-in-Err-clause-reads : goal.returns-in-Err-clause-reads
returns-in-Err-clause-reads c =
    reads_last_fault c.args.dots c.args.side c.args.part.now _ c.if-not-dots.false
    c.in_default.ensures c.in-Err.ensures.value
