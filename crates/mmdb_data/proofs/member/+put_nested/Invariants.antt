use Rattle.std.proofs.Common.{length}
use Rattle.mmdb_data.proofs.member.+put_nested.Given as goal

abbrev pub decreases-put_nested : goal.decreases-put_nested
decreases-put_nested l = length l.around.now
