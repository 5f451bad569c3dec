use Rattle.std.proofs.Common.{length, ◌+◌, ◌*◌}
use Rattle.mmdb_data.proofs.packing_members.+nesting.Given as goal

abbrev pub decreases-append_nested : goal.decreases-append_nested
decreases-append_nested l = 3 * length l.around.now + 2

abbrev pub decreases-append_nested_full : goal.decreases-append_nested_full
decreases-append_nested_full l = 3 * length l.around.now + 1

abbrev pub decreases-append_nested_content : goal.decreases-append_nested_content
decreases-append_nested_content l = 3 * length l.around.now
