use Rattle.mmdb_data.proofs.PackedReads.{packed_back, packed_each}
use Rattle.mmdb_data.proofs.laws.packed_reads_back.Goals as goal

pub returns-clause-last : goal.returns-clause-last
returns-clause-last c = packed_back

pub returns-clause-each : goal.returns-clause-each
returns-clause-each c = packed_each
