-- What is read of parts is what their lines say.
use Rattle.std.proofs.Common.{◌≡◌, List}
use Rattle.std.specs.List.{AllZip, flat_map}
use Rattle.line_parts.specs.declared.part.LinePart.{LinePart}
use Rattle.line_parts.proofs.GatherLemmas.{by_parts}
use Rattle.feed_csv.specs.File.{entry_of, fault_of}
use Rattle.feed_csv.specs.Parts.{IsPartRead, accepted_of, found_entries, found_faults, refused_of}
use Rattle.feed_csv.specs.declared.read.Gathered.{Gathered}

module _ (parts : List LinePart) (found : List Gathered)
    (read : AllZip IsPartRead parts found) where
  pub accepted_by_parts : flat_map found_entries found ≡ accepted_of parts
  accepted_by_parts =
      by_parts entry_of found_entries IsPartRead parts found (λ p b said. said.0) read

  pub refused_by_parts : flat_map found_faults found ≡ refused_of parts
  refused_by_parts =
      by_parts fault_of found_faults IsPartRead parts found (λ p b said. said.1) read
