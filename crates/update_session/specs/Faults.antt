-- Why a file that is not written is not emitted.
use Rattle.mmdb_file.specs.declared.fault.FileFault as file
use Rattle.mmdb_file.specs.declared.fault.FileFault.TheVariants as file_faults
use Rattle.update_session.specs.declared.fault.EmitFault.{EmitFault}
use Rattle.update_session.specs.declared.fault.EmitFault.TheVariants.{TooLarge, Memory}

abbrev pub emit_fault : file.FileFault → EmitFault
emit_fault file_faults.TooLarge = TooLarge
emit_fault file_faults.Memory = Memory
