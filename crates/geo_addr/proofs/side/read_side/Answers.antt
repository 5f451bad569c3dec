use Rattle.geo_addr.proofs.SideLemmas.{ReadsOn-start, ReadsOn-last, ReadsOn-group, ReadsOn-other}
use Rattle.geo_addr.proofs.side.read_side.Goals as goal

pub members-init : goal.members-init
members-init c =
    ReadsOn-start c.args.dots c.args.text.now _ c.if-is_empty.ensures c.new-side.ensures

pub returns-in_default-clause-reads : goal.returns-in_default-clause-reads
returns-in_default-clause-reads c =
    ReadsOn-last _ _ _ _ _ _ c.members.invariant
    (rw c.in_default.is at c.cut_near.ensures.pieces) c.read_last.ensures.reads

pub returns-in_default-group-clause-reads : goal.returns-in_default-group-clause-reads
returns-in_default-group-clause-reads c =
    ReadsOn-other _ _ _ _ c.in-Some.next.now _ c.members.invariant
    (rw c.in-Some.is at c.cut_near.ensures.pieces) c.in_default-group.ensures

pub members-preserved : goal.members-preserved
members-preserved c =
    ReadsOn-group _ _ _ _ _ _ _ _ c.members.invariant (rw c.in-Some.is at c.cut_near.ensures.pieces)
    c.in-Some-group.ensures.0 c.in-Some-group.ensures.1 c.push.ensures.adds c.push.ensures.small
