use Rattle.std.proofs.Common.{◌≡◌, Ok, ap, sym, ◌∙◌}
use Rattle.geo_addr.specs.Ipv4Texts.{ipv4_in}
use Rattle.geo_addr.proofs.FamilyLemmas.{four_reads_four}
use Rattle.geo_addr.proofs.FrontLemmas.{alone_in_text}
use Rattle.geo_addr.proofs.address.read_number.Goals as goal

pub returns-in-Some-default-empty-clause-family : goal.returns-in-Some-default-empty-clause-family
returns-in-Some-default-empty-clause-family c =
    let found = c.in-Some-default-empty in
    sym (four_reads_four c.args.text.now found.number
    (alone_in_text _ _ _ found.ensures found.len_below))

pub returns-in-Some-default-empty-clause-number : goal.returns-in-Some-default-empty-clause-number
returns-in-Some-default-empty-clause-number c =
    let found = c.in-Some-default-empty in
    let reads : Ok found.number ≡ ipv4_in c.args.text.now =
    alone_in_text _ _ _ found.ensures found.len_below in
    rw (four_reads_four c.args.text.now found.number reads) (ap Ok c.from.ensures ∙ reads)
