use Rattle.std.proofs.Common.{length}
use Rattle.mmdb_data.proofs.member.+nested_len.Given as goal

abbrev pub decreases-nested_len : goal.decreases-nested_len
decreases-nested_len l = length l.around.now
