use Rattle.std.proofs.Common.{◌+◌, ◌∙◌, sym, refl, take, Some, None}
use Rattle.mmdb_file.specs.Adopting.{told_view}
use Rattle.mmdb_file.proofs.AdoptLemmas.{gives_exact, opened_is, to_end}
use Rattle.mmdb_file.proofs.adopted.Mmdb.adopt.Goals as goal

pub returns-in-Ok-Some : goal.returns-in-Ok-Some
returns-in-Ok-Some c =
    gives_exact c.open_with.result _
    (opened_is c.args.bytes.now c.in-Some.offset (Some (told_view c.in-Ok-Some.metadata))
    (take c.in-Some.offset c.args.bytes.now) _
    (sym c.in-Some.ensures.offset) refl (to_end c.args.bytes.now (c.in-Some.offset + 14))
    (rw c.in-Ok-Some.field-0-is at c.in-Ok-Some.ensures)
    ∙ sym c.open_with.ensures)

pub returns-in-Ok-None : goal.returns-in-Ok-None
returns-in-Ok-None c =
    opened_is c.args.bytes.now c.in-Some.offset None (take c.in-Some.offset c.args.bytes.now) _
    (sym c.in-Some.ensures.offset) refl (to_end c.args.bytes.now (c.in-Some.offset + 14))
    (rw c.in-Ok-None.field-0-is at c.in-Ok-None.ensures)
