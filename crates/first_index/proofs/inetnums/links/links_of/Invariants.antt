use Rattle.std.proofs.Common.{◌≡◌, length}
use Rattle.first_index.specs.Links.{AreLinks}
use Rattle.first_index.proofs.inetnums.links.links_of.Given as goal

abbrev pub invariant-loop-index : goal.invariant-loop-index
invariant-loop-index l = record
    { made : length l.links.items ≡ l.index; links : AreLinks l.refs l.links.items }
