use Rattle.std.proofs.Common.{◌≡◌, ◌≤◌, length}
use Rattle.mmdb_data.specs.Spelling.{without_zeros as bytes_without_zeros}
use Rattle.mmdb_data.proofs.writing.without_zeros.Given as goal

abbrev pub invariant-loop-rest : goal.invariant-loop-rest
invariant-loop-rest l = (bytes_without_zeros l.rest ≡ bytes_without_zeros l.bytes)
    × (length l.rest ≤ length l.bytes)

abbrev pub decreases-loop-rest : goal.decreases-loop-rest
decreases-loop-rest l = length l.rest
