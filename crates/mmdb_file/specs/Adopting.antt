-- What adopting a file answers.
use Rattle.std.specs.Prelude.{◌≡◌, Option, Some, None, Result, Ok, Err}
use Rattle.mmdb_file.specs.declared.adopted.Metadata.{Metadata}
use Rattle.mmdb_file.specs.declared.fault.OpenFault.{OpenFault}
use Rattle.mmdb_file.specs.declared.fault.OpenFault.TheVariants.{Memory}
use Rattle.mmdb_file.specs.Walk.{MetadataParts}

-- what was read of the metadata
abbrev pub told_view : Metadata → MetadataParts
told_view read =
    record { nodes = read.nodes; bits = read.bits; major = read.major; ip = read.ip_version }

-- the defined answer, or want of memory
abbrev pub Gives : {B : Type 0} → Result B OpenFault → Result B OpenFault → Type 0
Gives (Err Memory) defined = Unit {0}
Gives answer defined = defined ≡ answer

-- the metadata that is told, or none, or want of memory
abbrev pub Tells : Result (Option Metadata) OpenFault → Option MetadataParts → Type 0
Tells (Ok None) defined = defined ≡ None
Tells (Ok (Some read)) defined = defined ≡ Some (told_view read)
Tells (Err fault) defined = fault ≡ Memory
