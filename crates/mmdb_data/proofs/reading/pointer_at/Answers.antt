use Rattle.std.proofs.Common.{◌+◌, ◌/◌, ◌%◌, refl}
use Rattle.std.proofs.lemmas.Result.{err_from_is_err_and}
use Rattle.mmdb_data.proofs.Leads.{pointer_fails, pointer_leads}
use Rattle.mmdb_data.proofs.reading.pointer_at.Goals as goal

pub returns-in_err-low-clause-gives : goal.returns-in_err-low-clause-gives
returns-in_err-low-clause-gives c =
    let p = err_from_is_err_and c.from_residual.result c.from_residual.ensures.1 in
    rw (p.1, p.2) (pointer_fails c.args.section.now c.args.at c.args.control
    (c.args.control % 32 / 8) c.in_err-low.field-0.0 refl c.in_err-low.ensures.gives)

pub returns-clause-gives : goal.returns-clause-gives
returns-clause-gives c =
    let code = c.args.control % 32 / 8 in
    let to = c.leads_to.ensures in
    pointer_leads c.args.section.now c.args.at c.args.control code c.in_ok-low.field-0
    c.leads_to.result (c.args.at + code + 2) refl refl c.in_ok-low.ensures.gives
    to.one to.two to.three to.four
