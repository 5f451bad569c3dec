use Rattle.std.proofs.Common.{◌≡◌, ◌++◌, drop, flat_map, string_bytes}
use Rattle.check_census.specs.Texts.{verdict_line}
use Rattle.check_census.proofs.texts.lines_of_verdicts.Given as goal

abbrev pub invariant-loop-verdict : goal.invariant-loop-verdict
invariant-loop-verdict l = string_bytes l.lines
    ++ flat_map verdict_line (drop l.verdict-index l.verdicts) ≡ flat_map verdict_line l.verdicts
