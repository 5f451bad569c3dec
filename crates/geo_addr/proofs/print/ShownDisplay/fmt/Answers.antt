use Rattle.geo_addr.specs.Printing.{text4, text6}
use Rattle.geo_addr.proofs.print.ShownDisplay.fmt.Goals as goal

pub returns-then-self-clause-writes : goal.returns-then-self-clause-writes
unfolding text6
returns-then-self-clause-writes g c = λ plain ok.
    rw (c.if-self.true, ← c.six_address.ensures, ← c.hex_groups.ensures)
    (c.write.ensures.writes plain ok)

pub returns-else-self-clause-writes : goal.returns-else-self-clause-writes
unfolding text4
returns-else-self-clause-writes g c = λ plain ok.
    rw (c.if-self.false, ← c.four_address.ensures) (c.write-else-self.ensures.writes plain ok)
