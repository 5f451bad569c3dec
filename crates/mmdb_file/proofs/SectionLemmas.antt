-- The section that is written holds its values. Of all proofs, only these and those of `data_of`
-- know how it is packed.
use Rattle.std.proofs.Common.{◌≡◌, ◌<◌, ℕ, List, length, Ok, Err, sym, ◌∙◌, ap, inl, inr}
use Rattle.std.proofs.Common.{[], refl, append-nil}
use Rattle.std.specs.Prelude.{slice_index}
use Rattle.std.proofs.lemmas.Bool.{cases_lt, le-ltb}
use Rattle.mmdb_data.specs.ValueTree.{ValueTree}
use Rattle.mmdb_data.specs.Packing.{packed, packed_offsets}
use Rattle.mmdb_data.specs.Reading.{reads}
use Rattle.mmdb_data.specs.declared.fault.DataCause.TheVariants.{OutOfSection}
use Rattle.mmdb_data.proofs.PackedReads.{packed_each, packed_offsets-le}
use Rattle.mmdb_file.specs.Laws.{WrittenSectionHolds}
use Rattle.mmdb_file.specs.Section.{section_of}

-- a packed section is one with nothing behind it
pub section_holds : WrittenSectionHolds
unfolding section_of
section_holds values readable = record {
  read = λ default k inside.
      ap (λ bytes. reads bytes (slice_index (packed_offsets values) k))
      (sym (append-nil (packed values)))
      ∙ packed_each values default [] readable k inside;
  within = packed_offsets-le values;
}

-- what is read begins in the section
pub reads_within : (section : List ℕ) (start : ℕ) (value : ValueTree)
    → reads section start ≡ Ok value → start < length section
unfolding reads
reads_within section start value is =
    elim (cases_lt start (length section)) [
      | inl inside ↦ inside
      | inr past ↦ absurd (
          let none : reads section start ≡ Err (start, OutOfSection) =
          rw (le-ltb start (length section) past) refl in cc)
    ]
