-- The middle piece begins between the first one and the end.
use Rattle.std.proofs.Common.{◌+◌, ◌-◌, ◌/◌, arith}
use Rattle.fan_work.proofs.Starts.{starts_ascend}
use Rattle.fan_work.proofs.stretch.halves.Goals as goal

pub overflow_sub-taken : goal.overflow_sub-taken
overflow_sub-taken g c =
    let p = c.args.stretch in
    let r = c.requires.stretch in
    let many = c.requires.many in
    let up = starts_ascend p.pieces p.count p.from (p.from + (p.to - p.from) / 2) (omega arith)
    (omega arith) in
    let middle = c.start_of.ensures in
    let first = c.start_of-2.ensures in
    omega arith

pub split_at-requires : goal.split_at-requires
split_at-requires g c =
    let p = c.args.stretch in
    let r = c.requires.stretch in
    let many = c.requires.many in
    let held = r.held in
    let up = starts_ascend p.pieces p.count (p.from + (p.to - p.from) / 2) p.to (omega arith)
    (omega arith) in
    let middle = c.start_of.ensures in
    let first = c.start_of-2.ensures in
    omega arith

pub returns-clause-left : goal.returns-clause-left
returns-clause-left g c =
    let p = c.args.stretch in
    let r = c.requires.stretch in
    let many = c.requires.many in
    let up = starts_ascend p.pieces p.count p.from (p.from + (p.to - p.from) / 2) (omega arith)
    (omega arith) in
    let long = c.split_at.ensures.front_len in
    let middle = c.start_of.ensures in
    let first = c.start_of-2.ensures in
    record { some = omega arith; within = omega arith; held = omega arith }

pub returns-clause-right : goal.returns-clause-right
returns-clause-right g c =
    let p = c.args.stretch in
    let r = c.requires.stretch in
    let many = c.requires.many in
    let held = r.held in
    let up = starts_ascend p.pieces p.count p.from (p.from + (p.to - p.from) / 2) (omega arith)
    (omega arith) in
    let over = starts_ascend p.pieces p.count (p.from + (p.to - p.from) / 2) p.to (omega arith)
    (omega arith) in
    let long = c.split_at.ensures.back_len in
    let middle = c.start_of.ensures in
    let first = c.start_of-2.ensures in
    record { some = omega arith; within = omega arith; held = omega arith }
