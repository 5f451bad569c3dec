use Rattle.std.proofs.Common.{◌≡◌, ◌++◌, take, drop, All}
use Rattle.geo_terms.specs.Numbers.{place_at}
use Rattle.mmdb_data.specs.ValueTree.{CanBeReadBack}
use Rattle.mmdb_data.specs.Packing.{nothing_packed, all_in_full, offsets_in, packed_offsets}
use Rattle.mmdb_file.specs.FileImage.{answer_value}
use Rattle.mmdb_file.specs.Writing.{values_of}
use Rattle.mmdb_file.proofs.data.data_of.Given as goal

abbrev pub invariant-loop-number : goal.invariant-loop-number
invariant-loop-number l = record {
  section : all_in_full (values_of l.places (drop l.number-index l.numbers)) l.made.section
      ≡ all_in_full (values_of l.places l.numbers) nothing_packed;
  starts : l.made.starts.items
      ++ offsets_in (values_of l.places (drop l.number-index l.numbers)) l.made.section
      ≡ packed_offsets (values_of l.places l.numbers);
  readable : All (λ k. CanBeReadBack (answer_value (place_at l.places k)))
      (take l.number-index l.numbers);
}
