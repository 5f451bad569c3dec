use Rattle.geo_addr.proofs.BitsLemmas.{OneListOfBits-each}
use Rattle.geo_addr.proofs.bits.one_list_of_bits.Goals as goal

pub returns : goal.returns
returns c = OneListOfBits-each
