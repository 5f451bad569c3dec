use Rattle.geo_addr.proofs.Cuts.{not_found}
use Rattle.geo_addr.proofs.line.near_offset.Goals as goal

pub returns-in-None-clause-offset : goal.returns-in-None-clause-offset
returns-in-None-clause-offset c = not_found c.args.byte c.args.text.now c.in-None.ensures
