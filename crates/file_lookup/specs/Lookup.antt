-- What `lookup` prints of an address in a file.
use Rattle.std.specs.Prelude.{◌≡◌, ℕ, List, [], ◌++◌, codes, decimal, Option, Some, None, Result}
use Rattle.std.specs.Prelude.{Ok, Err}
use Rattle.geo_addr.specs.Bits.{bits_of}
use Rattle.mmdb_data.specs.declared.fault.DataCause.{DataCause}
use Rattle.mmdb_data.specs.declared.fault.DataCause.TheVariants as causes
use Rattle.mmdb_data.specs.ValueTree.{ValueTree}
use Rattle.mmdb_file.specs.declared.fault.OpenFault.{OpenFault}
use Rattle.mmdb_file.specs.declared.fault.OpenFault.TheVariants as open_faults
use Rattle.mmdb_file.specs.declared.fault.WalkFault.{WalkFault}
use Rattle.mmdb_file.specs.declared.fault.WalkFault.TheVariants as walk_faults
use Rattle.mmdb_file.specs.Walk.{Barrier, not_opened, not_walked, not_read, walk}
use Rattle.file_lookup.specs.declared.lookup.LookupFault.{LookupFault}
use Rattle.file_lookup.specs.declared.lookup.LookupFault.TheVariants as faults
use Rattle.json_values.specs.Json.{json}

-- the value that an address leads to in a file, or none, or what stands in the way
unfoldable pub looked : List ℕ → ℕ → Result (Option ValueTree) Barrier
looked bytes address = walk bytes (bits_of 128 address)

-- the record as JSON, or `none`, and a line feed
abbrev pub answer_text : Option ValueTree → List ℕ
answer_text None = codes "none\n"
answer_text (Some value) = json value ++ codes "\n"

abbrev pub open_fault : OpenFault → LookupFault
open_fault open_faults.NoMarker = faults.NoMarker
open_fault open_faults.Metadata = faults.Metadata
open_fault open_faults.Version = faults.Version
open_fault open_faults.TreeCut = faults.TreeCut
open_fault open_faults.Memory = faults.Memory

abbrev pub walk_fault : WalkFault → LookupFault
walk_fault walk_faults.NotEnded = faults.NotEnded
walk_fault walk_faults.OutOfSection = faults.OutOfSection

-- what stands in the way, as an answer
abbrev pub fault_of : Barrier → LookupFault
fault_of (not_opened fault) = open_fault fault
fault_of (not_walked fault) = walk_fault fault
fault_of (not_read fault) = faults.Value fault.0 fault.1

abbrev pub answer_of : Result (Option ValueTree) Barrier → Result (List ℕ) LookupFault
answer_of (Ok found) = Ok (answer_text found)
answer_of (Err barrier) = Err (fault_of barrier)

-- what is printed of an address in a file, or the fault in the way
unfoldable pub answer : (bytes : List ℕ) (address : ℕ) → Result (List ℕ) LookupFault
answer bytes address = answer_of (looked bytes address)

-- the defined answer, or want of memory
abbrev pub Gives : Result (List ℕ) LookupFault → Result (List ℕ) LookupFault → Type 0
Gives (Err faults.Memory) defined = Unit {0}
Gives found defined = defined ≡ found

abbrev pub cause_name : DataCause → List ℕ
cause_name causes.Truncated = codes "Truncated"
cause_name causes.Kind = codes "Kind"
cause_name causes.PointerToPointer = codes "PointerToPointer"
cause_name causes.OutOfSection = codes "OutOfSection"
cause_name causes.Utf8 = codes "Utf8"
cause_name causes.Key = codes "Key"
cause_name causes.Deep = codes "Deep"
cause_name causes.Many = codes "Many"
cause_name causes.Size = codes "Size"
cause_name causes.Big = codes "Big"

-- the line that a lookup prints where the file is damaged on the way to an address:
-- the cause, and the offset of a value that cannot be read
unfoldable pub file_line : LookupFault → List ℕ
file_line faults.NoMarker = codes "stop file NoMarker\n"
file_line faults.Metadata = codes "stop file Metadata\n"
file_line faults.Version = codes "stop file Version\n"
file_line faults.TreeCut = codes "stop file TreeCut\n"
file_line faults.NotEnded = codes "stop file NotEnded\n"
file_line faults.OutOfSection = codes "stop file OutOfSection\n"
file_line (faults.Value at cause) =
    codes "stop file " ++ (cause_name cause ++ (codes " " ++ (decimal at ++ codes "\n")))
file_line faults.Memory = []
