use Rattle.std.proofs.Common.{◌≡◌, ◌∙◌, ap, arith, Ok}
use Rattle.geo_addr.specs.AddressTexts.{address_in}
use Rattle.geo_addr.specs.Printing.{address_text}
use Rattle.geo_addr.proofs.ReadBack.{address_text-reads, made_of}
use Rattle.geo_addr.proofs.print.addr_text.Goals as goal

pub returns-clause-text : goal.returns-clause-text
returns-clause-text c =
    made_of c.from_string.result _ (λ t. t ≡ address_text c.args.at.0) c.from_string.ensures
    c.in_ok-format.ensures.ok

pub returns-clause-reads_back : goal.returns-clause-reads_back
returns-clause-reads_back c =
    made_of c.from_string.result _ (λ t. address_in t ≡ Ok c.args.at) c.from_string.ensures
    (ap address_in c.in_ok-format.ensures.ok ∙ address_text-reads c.args.at.0 (omega arith))
