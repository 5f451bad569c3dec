use Rattle.std.proofs.Common.{◌+◌, ◌-◌, refl, arith}
use Rattle.std.proofs.lemmas.Result.{err_from_is_err_and}
use Rattle.mmdb_data.proofs.Leads.{size_fails, size_is, size_narrow}
use Rattle.mmdb_data.proofs.reading.size_at.Goals as goal

pub returns-in_err-more-clause-gives : goal.returns-in_err-more-clause-gives
returns-in_err-more-clause-gives c =
    let p = err_from_is_err_and c.from_residual.result c.from_residual.ensures.1 in
    rw (p.1, p.2) (size_fails c.args.section.now c.args.at c.args.code c.args.offset
    (c.args.code - 28) c.in_err-more.field-0.0 (omega arith) (omega arith) (omega arith)
    c.in_err-more.ensures.gives)

pub returns-clause-gives : goal.returns-clause-gives
returns-clause-gives c =
    let len = c.args.code - 28 in
    let least = c.least_by.ensures in
    size_is c.args.section.now c.args.at c.args.code c.args.offset len c.in_ok-more.field-0
    c.least_by.result (c.args.offset + len) (omega arith) (omega arith) (omega arith) refl
    c.in_ok-more.ensures.gives least.one least.two least.three

pub returns-clause-narrow : goal.returns-clause-narrow
returns-clause-narrow c =
    let least = c.least_by.ensures in
    size_narrow (c.args.code - 28) c.in_ok-more.field-0 c.least_by.result (omega arith)
    (omega arith) c.in_ok-more.ensures.fits least.one least.two least.three
