-- What the section of a packer holds, and what every step on it keeps.
use Rattle.mmdb_data.specs.declared.section.Section.{Section}
use Rattle.mmdb_data.specs.Packing.{Packed}

abbrev pub packed_of : Section → Packed
packed_of section = record { bytes = section.bytes.items; full = section.full }
