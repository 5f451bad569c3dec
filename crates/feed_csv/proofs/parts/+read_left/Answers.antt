-- Some parts, and then the rest.
use Rattle.std.proofs.Common.{◌∙◌}
use Rattle.feed_csv.specs.File.{entry_of, fault_of}
use Rattle.line_parts.proofs.GatherLemmas.{more_parts}
use Rattle.feed_csv.proofs.parts.+read_left.Goals as goal

pub returns-clause-entries : goal.returns-clause-entries
returns-clause-entries g t c =
    c.in_ok-read_left.ensures.entries
    ∙ more_parts entry_of c.args.all.now.entries.items _ c.first_parts.result.0.now
    c.first_parts.result.1.now c.args.left.now c.in_ok-read_some.ensures.entries
    c.first_parts.ensures.joined

pub returns-clause-faults : goal.returns-clause-faults
returns-clause-faults g t c =
    c.in_ok-read_left.ensures.faults
    ∙ more_parts fault_of c.args.all.now.faults.items _ c.first_parts.result.0.now
    c.first_parts.result.1.now c.args.left.now c.in_ok-read_some.ensures.faults
    c.first_parts.ensures.joined
