-- When a file is a dump, why it is none, and how far it is read.
use Rattle.std.specs.Prelude.{◌≡◌, ℕ, ◌+◌, ◌≤◌, ◌⊎◌, List, length, take, Option, Some, None, Result}
use Rattle.std.specs.Prelude.{Ok, Err}
use Rattle.geo_outside.specs.declared.whole.TheConstants.{PIECE}
use Rattle.geo_terms.specs.SourceForm.{DumpParts}
use Rattle.geo_terms.specs.declared.source.SourceFault.{SourceFault}
use Rattle.geo_terms.specs.declared.source.SourceFault.TheVariants as faults
use Rattle.feed_refs.specs.Dumps.{dump, so_far}
use Rattle.job_run.specs.declared.stop.Cause.{Cause}
use Rattle.job_run.specs.declared.stop.Cause.TheVariants.{Missing, TooLong, TooMany}

-- the cause that a fault of a source is; want of memory is none
abbrev pub fault_cause : SourceFault → Option Cause
fault_cause faults.TooLong = Some TooLong
fault_cause faults.TooMany = Some TooMany
fault_cause faults.Memory = None

abbrev pub refusal : {T : Type 0} → Result T SourceFault → Option Cause
refusal (Ok found) = None
refusal (Err fault) = fault_cause fault

-- why what a name holds is no dump of a slot: there is no file, or it has too many bytes or too
-- many references
abbrev pub no_dump : (slot : List ℕ) → Option (List ℕ) → Option Cause
no_dump slot None = Some Missing
no_dump slot (Some bytes) = refusal (dump slot bytes)

-- what a name holds is this dump
pub record IsDump (slot : List ℕ) (held : Option (List ℕ)) (found : DumpParts) : Type 0 where
  pub bytes : List ℕ
  pub there : held ≡ Some bytes
  pub is : dump slot bytes ≡ Ok found

-- of a file the first bytes were read with which it is not refused, and one more piece at most:
-- none behind the piece with which it has too many bytes or too many references
pub record IsReadNoFurther (slot file : List ℕ) (given given_now : ℕ) : Type 0 where
  pub fine : ℕ
  pub within : fine ≤ length file
  pub unrefused : (fine ≡ 0) ⊎ (refusal (so_far slot (take fine file)) ≡ None)
  pub read : given_now ≤ given + (fine + PIECE)
