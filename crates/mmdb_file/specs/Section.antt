-- The data section: the values in order, packed, and where each begins.
use Rattle.std.specs.Prelude.{◌≡◌, ◌<◌, ◌≤◌, ℕ, List, length, slice_index, slice_index_or, Ok}
use Rattle.mmdb_data.specs.ValueTree.{ValueTree}
use Rattle.mmdb_data.specs.Reading.{reads}
use Rattle.mmdb_data.specs.Packing.{packed, packed_offsets}

pub record Section : Type 0 where
  pub bytes : List ℕ
  pub starts : List ℕ

-- a section holds these values, however it writes them: each is read where it begins, and none
-- begins behind the section's end
pub record Holds (section : Section) (values : List ValueTree) : Type 0 where
  pub read : (default : ValueTree) (k : ℕ) → k < length values
      → reads section.bytes (slice_index section.starts k) ≡ Ok (slice_index_or values k default)
  pub within : (k : ℕ) → slice_index section.starts k ≤ length section.bytes

-- the section of these values in this order
unfoldable pub section_of : List ValueTree → Section
section_of values = record { bytes = packed values; starts = packed_offsets values }
