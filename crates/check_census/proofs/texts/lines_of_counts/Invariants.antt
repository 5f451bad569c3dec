use Rattle.std.proofs.Common.{◌≡◌, ◌++◌, drop, flat_map, string_bytes}
use Rattle.check_census.specs.Texts.{count_line}
use Rattle.check_census.proofs.texts.lines_of_counts.Given as goal

abbrev pub invariant-loop-count : goal.invariant-loop-count
invariant-loop-count l = string_bytes l.lines
    ++ flat_map count_line (drop l.count-index l.counts) ≡ flat_map count_line l.counts
