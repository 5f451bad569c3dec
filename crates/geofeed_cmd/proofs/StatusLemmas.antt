-- Which stop has a status.
use Rattle.std.proofs.Common.{◌≡◌, ◌≢◌, ◌⊎◌, ◌∙◌, inl, inr, refl, sym, ap}
use Rattle.geofeed_cmd.specs.declared.status.Status.{Status}
use Rattle.geofeed_cmd.specs.declared.status.Status.TheVariants as statuses
use Rattle.job_run.specs.declared.stop.Cause.TheVariants.{Words, Missing, Job, TooLong, TooMany}
use Rattle.job_run.specs.declared.stop.Cause.TheVariants.{NotThere, NoMark, NoFeed, TooLarge, File}
use Rattle.job_run.specs.declared.stop.Stop.{Stop}
use Rattle.job_run.specs.declared.stop.Stop.TheVariants.{Blocked, ReadFailed, PutFailed, SinkFailed}
use Rattle.job_run.specs.declared.stop.Stop.TheVariants.{Memory}
use Rattle.geofeed_cmd.specs.Run.Lines.{status_of}
use Rattle.geofeed_cmd.specs.Run.Stopped.{ComesAs, IsStatusOf}

pub read_status : (why : Stop) → status_of why ≡ statuses.ReadFault → why ≡ ReadFailed
read_status (Blocked Words) is = cc
read_status (Blocked Missing) is = cc
read_status (Blocked (Job fault)) is = cc
read_status (Blocked TooLong) is = cc
read_status (Blocked TooMany) is = cc
read_status (Blocked NotThere) is = cc
read_status (Blocked NoMark) is = cc
read_status (Blocked NoFeed) is = cc
read_status (Blocked TooLarge) is = cc
read_status (Blocked (File fault)) is = cc
read_status ReadFailed is = refl
read_status PutFailed is = cc
read_status SinkFailed is = cc
read_status Memory is = cc

pub missing_status : (why : Stop) → status_of why ≡ statuses.Missing → why ≡ Blocked Missing
missing_status (Blocked Words) is = cc
missing_status (Blocked Missing) is = refl
missing_status (Blocked (Job fault)) is = cc
missing_status (Blocked TooLong) is = cc
missing_status (Blocked TooMany) is = cc
missing_status (Blocked NotThere) is = cc
missing_status (Blocked NoMark) is = cc
missing_status (Blocked NoFeed) is = cc
missing_status (Blocked TooLarge) is = cc
missing_status (Blocked (File fault)) is = cc
missing_status ReadFailed is = cc
missing_status PutFailed is = cc
missing_status SinkFailed is = cc
missing_status Memory is = cc

pub words_status : (why : Stop) → status_of why ≡ statuses.Words → why ≡ Blocked Words
words_status (Blocked Words) is = refl
words_status (Blocked Missing) is = cc
words_status (Blocked (Job fault)) is = cc
words_status (Blocked TooLong) is = cc
words_status (Blocked TooMany) is = cc
words_status (Blocked NotThere) is = cc
words_status (Blocked NoMark) is = cc
words_status (Blocked NoFeed) is = cc
words_status (Blocked TooLarge) is = cc
words_status (Blocked (File fault)) is = cc
words_status ReadFailed is = cc
words_status PutFailed is = cc
words_status SinkFailed is = cc
words_status Memory is = cc

pub write_status : (why : Stop) → status_of why ≡ statuses.WriteFault
    → (why ≡ PutFailed) ⊎ (why ≡ SinkFailed)
write_status (Blocked Words) is = absurd (cc)
write_status (Blocked Missing) is = absurd (cc)
write_status (Blocked (Job fault)) is = absurd (cc)
write_status (Blocked TooLong) is = absurd (cc)
write_status (Blocked TooMany) is = absurd (cc)
write_status (Blocked NotThere) is = absurd (cc)
write_status (Blocked NoMark) is = absurd (cc)
write_status (Blocked NoFeed) is = absurd (cc)
write_status (Blocked TooLarge) is = absurd (cc)
write_status (Blocked (File fault)) is = absurd (cc)
write_status ReadFailed is = absurd (cc)
write_status PutFailed is = inl refl
write_status SinkFailed is = inr refl
write_status Memory is = absurd (cc)

-- no stop is `Done`
pub not_done : (why : Stop) → status_of why ≢ statuses.Done
not_done (Blocked Words) is = cc
not_done (Blocked Missing) is = cc
not_done (Blocked (Job fault)) is = cc
not_done (Blocked TooLong) is = cc
not_done (Blocked TooMany) is = cc
not_done (Blocked NotThere) is = cc
not_done (Blocked NoMark) is = cc
not_done (Blocked NoFeed) is = cc
not_done (Blocked TooLarge) is = cc
not_done (Blocked (File fault)) is = cc
not_done ReadFailed is = cc
not_done PutFailed is = cc
not_done SinkFailed is = cc
not_done Memory is = cc

-- the status of what a stop comes out as
pub status_as : (why out : Stop) (status : Status) → ComesAs why out → status ≡ status_of out
    → IsStatusOf why status
status_as (Blocked cause) out status comes same = elim comes [
  | inl itself ↦ inl (same ∙ ap status_of itself)
  | inr memory ↦ inr (same ∙ ap status_of memory)
]
status_as ReadFailed out status comes same = elim comes [
  | inl itself ↦ inl (same ∙ ap status_of itself)
  | inr memory ↦ inr (same ∙ ap status_of memory)
]
status_as PutFailed out status comes same = inl (same ∙ ap status_of comes)
status_as SinkFailed out status comes same = inl (same ∙ ap status_of comes)
status_as Memory out status comes same = inl (same ∙ ap status_of comes)

-- the same of an answer to a stop, which may be `Memory` in its place
pub read_answer : (why : Stop) (status : Status) → IsStatusOf why status
    → status ≡ statuses.ReadFault → why ≡ ReadFailed
read_answer why status its is = elim its [
  | inl same ↦ read_status why (sym same ∙ is)
  | inr memory ↦ absurd (let a = memory in let b = is in cc)
]

pub missing_answer : (why : Stop) (status : Status) → IsStatusOf why status
    → status ≡ statuses.Missing → why ≡ Blocked Missing
missing_answer why status its is = elim its [
  | inl same ↦ missing_status why (sym same ∙ is)
  | inr memory ↦ absurd (let a = memory in let b = is in cc)
]

pub words_answer : (why : Stop) (status : Status) → IsStatusOf why status
    → status ≡ statuses.Words → why ≡ Blocked Words
words_answer why status its is = elim its [
  | inl same ↦ words_status why (sym same ∙ is)
  | inr memory ↦ absurd (let a = memory in let b = is in cc)
]

pub write_answer : (why : Stop) (status : Status) → IsStatusOf why status
    → status ≡ statuses.WriteFault → (why ≡ PutFailed) ⊎ (why ≡ SinkFailed)
write_answer why status its is = elim its [
  | inl same ↦ write_status why (sym same ∙ is)
  | inr memory ↦ absurd (let a = memory in let b = is in cc)
]

pub done_answer : (why : Stop) (status : Status) → IsStatusOf why status → status ≢ statuses.Done
done_answer why status its is = elim its [
  | inl same ↦ not_done why (sym same ∙ is)
  | inr memory ↦ (let a = memory in let b = is in cc)
]

pub ruleset status_causes = (
  read_status,
  missing_status,
  words_status,
  write_status,
  read_answer,
  missing_answer,
  words_answer,
  write_answer,
)
