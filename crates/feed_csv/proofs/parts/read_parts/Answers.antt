-- What was found in the parts is what the file says.
use Rattle.std.proofs.Common.{◌++◌, ◌∙◌, ap, filter_map}
use Rattle.geo_addr.specs.Lines.{numbered_lines}
use Rattle.feed_csv.specs.File.{entry_of, fault_of}
use Rattle.feed_csv.specs.Parts.{accepted_of, refused_of}
use Rattle.feed_csv.proofs.parts.read_parts.Goals as goal

pub returns-clause-entries : goal.returns-clause-entries
returns-clause-entries g c =
    c.shrink_to_fit.ensures.items ∙ c.in_ok-read_left.ensures.entries
    ∙ ap (λ t. t ++ accepted_of c.as_slice-2.result.now) c.in_ok-all.ensures.entries
    ∙ ap accepted_of c.as_slice-2.ensures.value
    ∙ ap (filter_map entry_of)
    (c.in_ok-parts.ensures.lines ∙ ap numbered_lines c.as_slice.ensures.value)

pub returns-clause-faults : goal.returns-clause-faults
returns-clause-faults g c =
    c.shrink_to_fit-2.ensures.items ∙ c.in_ok-read_left.ensures.faults
    ∙ ap (λ t. t ++ refused_of c.as_slice-2.result.now) c.in_ok-all.ensures.faults
    ∙ ap refused_of c.as_slice-2.ensures.value
    ∙ ap (filter_map fault_of)
    (c.in_ok-parts.ensures.lines ∙ ap numbered_lines c.as_slice.ensures.value)
