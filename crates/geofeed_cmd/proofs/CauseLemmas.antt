-- Each answer that is no fault has its cause, and a cause has no other answer.
use Rattle.std.proofs.Common.{◌≡◌, ◌≤◌, ◌<◌, ℕ, suc, ◌⊎◌, inl, inr, Bool, true, false, nat_lt, List}
use Rattle.std.proofs.Common.{[], ◌∷◌}
use Rattle.std.proofs.Common.{length, take, refl, sym, ◌∙◌, ap, subst, rules}
use Rattle.std.specs.Prelude.{Option, Some, None, Result, Ok, Err}
use Rattle.std.specs.FinMap as map
use Rattle.geo_outside.specs.Files.{Told}
use Rattle.job_lines.specs.declared.job.Job.{Job}
use Rattle.job_lines.specs.declared.fault.JobFault.{JobFault}
use Rattle.job_lines.specs.Job.{job}
use Rattle.file_lookup.specs.declared.lookup.LookupFault.{LookupFault}
use Rattle.file_lookup.specs.Lookup.{answer}
use Rattle.job_lines.specs.Commands.{Command, build, lookup, explain, gen, publish, check}
use Rattle.job_lines.specs.Commands.{census}
use Rattle.job_run.specs.declared.stop.Cause.{Cause}
use Rattle.job_run.specs.declared.stop.Cause.TheVariants as causes
use Rattle.job_run.specs.Acts.{Move, shows, blocked, after}
use Rattle.job_run.specs.Course.{Outcome, ended, stopped, unless, course, IsAt}
use Rattle.job_run.specs.Sources.{unreadable}
use Rattle.job_run.specs.World.{World, printing}
use Rattle.job_run.proofs.ActLemmas.{readable, unreadable-long, unreadable-none}
use Rattle.job_run.proofs.CourseLemmas.{course_blocked, course_free}
use Rattle.geofeed_cmd.specs.Commands.Generate.{gen_moves, gen_start}
use Rattle.geofeed_cmd.specs.declared.status.Status.{Status}
use Rattle.geofeed_cmd.specs.declared.status.Status.TheVariants as statuses
use Rattle.geofeed_cmd.specs.Run.Answers.{Prevails, IsAnswer}
use Rattle.geofeed_cmd.specs.Run.Causes.{IsFree, IsAbsent, IsNoJob, IsBlockedFor, IsOverLimit}
use Rattle.geofeed_cmd.specs.Run.Causes.{IsDamaged, Causes}
use Rattle.geofeed_cmd.specs.Run.Ending.{ending, ending_by, ending_of}
use Rattle.geofeed_cmd.specs.Run.Lines.{cause_status}
use Rattle.geofeed_cmd.specs.Run.Plans.{Plan, accepted, alone, answer_plan, answered_in, file_first}
use Rattle.geofeed_cmd.specs.Run.Plans.{held_job, is_command, job_of, job_plan, longest_file}
use Rattle.geofeed_cmd.specs.Run.Plans.{lookup_plan, moves_for, plan_of, plan_on, planned, start_of}
use Rattle.geofeed_cmd.specs.Run.Plans.{unless_unreadable}
use Rattle.geofeed_cmd.proofs.FitLemmas.{AreFit, AreOfMove, IsOfMove, fit_at, fit_for}
use Rattle.geofeed_cmd.proofs.FitLemmas.{fit_generated, fit_shown}

-- where a run stopped
record StoppedAt (moves : List Move) (start : World) (move : Move) (why : Cause)
    (world : World) : Type 0 where
  at : ℕ
  there : IsAt moves start at move world
  cause : blocked move world ≡ Some why

stopped-at : (moves : List Move) (start : World) (move : Move) (why : Cause) (world : World)
    → course moves start ≡ stopped move why world → StoppedAt moves start move why world
stopped-at [] start move why world stop = absurd (cc)
stopped-at (first ∷ rest) start move why world stop =
    let go : (b : Option Cause) → blocked first start ≡ b
    → unless b first start (course rest (after first start)) ≡ stopped move why world
    → StoppedAt (first ∷ rest) start move why world =
    λ b. elim b as (λ (b : Option Cause). blocked first start ≡ b
    → unless b first start (course rest (after first start)) ≡ stopped move why world
    → StoppedAt (first ∷ rest) start move why world) [
      | None ↦ λ free led.
          let later = stopped-at rest (after first start) move why world led in
          record {
            at = suc later.at;
            there = record {
              done =
                  ap (λ b. unless b first start (course (take later.at rest) (after first start)))
                  free ∙ later.there.done;
              next = later.there.next;
            };
            cause = later.cause;
          }
      | Some other ↦ λ blocks led.
          let here : stopped first other start ≡ stopped move why world = led in
          let this : first ≡ move = cc in
          let now : start ≡ world = cc in
          let because : other ≡ why = cc in
          record { at = 0; there = record { done = ap ended now; next = ap Some this }; cause = cc }
    ] in
    go (blocked first start) refl stop

-- a plan whose run stops has a blocked move
blocked-for : (command : Option Command) (first : Told) (moves : List Move) (start : World)
    → plan_of first command ≡ planned moves start
    → (move : Move) (why : Cause) (world : World) → course moves start ≡ stopped move why world
    → IsBlockedFor why command first
blocked-for command first moves start plan move why world stop =
    let found = stopped-at moves start move why world stop in
    record {
      move = move;
      world = world;
      there = record {
        moves = moves;
        start = start;
        count = found.at;
        plan = plan;
        there = found.there;
      };
      cause = found.cause;
    }

-- a run that ends has no blocked move
free-plan : (command : Option Command) (first : Told) (moves : List Move) (start last : World)
    → plan_of first command ≡ planned moves start → course moves start ≡ ended last
    → IsFree command first
free-plan command first moves start last plan all =
    record {
      moves = moves;
      start = start;
      plan = plan;
      free = λ count move world there. course_free moves start last count move world all there;
    }

of-stop : (why : Cause) (command : Option Command) (first : Told) → IsOfMove why
    → IsBlockedFor why command first
    → Causes (cause_status why) command first
of-stop causes.Words command first its found = absurd its
of-stop causes.Missing command first its found = inr found
of-stop (causes.Job fault) command first its found = absurd its
of-stop causes.TooLong command first its found = inr (inl found)
of-stop causes.TooMany command first its found = inr (inr found)
of-stop causes.NotThere command first its found = found
of-stop causes.NoMark command first its found = found
of-stop causes.NoFeed command first its found = found
of-stop causes.TooLarge command first its found = found
of-stop (causes.File fault) command first its found = absurd its

abbrev IsCaused : Option Command → (first : Told) → Plan → Type 0
IsCaused command first plan = Causes (ending_by first plan).status command first

of-plan : (command : Option Command) (first : Told) (moves : List Move) (start : World)
    → AreFit moves
    → plan_of first command ≡ planned moves start → IsCaused command first (planned moves start)
of-plan command first moves start fit plan =
    let go : (out : Outcome) → course moves start ≡ out
    → Causes (ending_of out).status command first =
    λ out. elim out
    as (λ (out : Outcome). course moves start ≡ out → Causes (ending_of out).status command first) [
      | ended last ↦ λ all. free-plan command first moves start last plan all
      | stopped move why world ↦ λ stop.
          let found = blocked-for command first moves start plan move why world stop in
          let at = stopped-at moves start move why world stop in
          of-stop why command first
          (subst AreOfMove at.cause (fit_at moves at.at move fit at.there.next world)) found
    ] in
    go (course moves start) refl

-- a command whose plan is that of its job
module _ (known : Command) (first : Told) (name : List ℕ) (its : job_of known ≡ Some name)
    (reads : file_first known ≡ Some name)
    (plan : plan_of first (Some known) ≡ plan_on known first name) where
  of-job : (bytes : List ℕ) (read : Result Job JobFault) → map.get first.held name ≡ Some bytes
      → job bytes ≡ read
      → IsCaused (Some known) first (job_plan known first name (accepted read))
  of-job bytes (Err fault) held is = record {
    known = known;
    name = name;
    bytes = bytes;
    fault = fault;
    commanded = refl;
    its = its;
    held = held;
    refusal = is;
  }
  of-job bytes (Ok j) held is =
      of-plan (Some known) first (moves_for known j.steps) (start_of first j)
      (fit_for known j.steps)
      (plan ∙ ap (λ f. job_plan known first name (held_job f)) held
      ∙ ap (λ r. job_plan known first name (accepted r)) is)

  of-file : (file : Option (List ℕ)) → map.get first.held name ≡ file
      → IsCaused (Some known) first (job_plan known first name (held_job file))
  of-file None held =
      inl (record { known = known; name = name; commanded = refl; named = reads; absent = held })
  of-file (Some bytes) held = of-job bytes (job bytes) held refl

  on-caused : IsCaused (Some known) first (plan_of first (Some known))
  on-caused =
      subst (IsCaused (Some known) first) (sym plan) (of-file (map.get first.held name) refl)

of-answer : (first : Told) (name : List ℕ) (address : ℕ)
    (bytes : List ℕ) (found : Result (List ℕ) LookupFault) → map.get first.held name ≡ Some bytes
    → length bytes ≤ longest_file → answer bytes address ≡ found
    → plan_of first (Some (lookup name address)) ≡ answer_plan first name found
    → IsCaused (Some (lookup name address)) first (answer_plan first name found)
of-answer first name address bytes (Err fault) held within is plan =
    record {
      name = name;
      address = address;
      bytes = bytes;
      fault = fault;
      commanded = refl;
      held = held;
      within = within;
      damage = is;
    }
of-answer first name address bytes (Ok text) held within is plan =
    of-plan (Some (lookup name address)) first (shows (printing text) ∷ []) (alone first)
    (fit_shown text) plan

abbrev unless_held : (first : Told) (name : List ℕ) (address : ℕ)
    → Option (List ℕ) → Option Cause → Plan
unless_held first name address file why =
    unless_unreadable why name (answered_in address first name file)

of-bytes : (first : Told) (name : List ℕ) (address : ℕ) (bytes : List ℕ)
    → map.get first.held name ≡ Some bytes
    → IsCaused (Some (lookup name address)) first (lookup_plan first name address (Some bytes))
of-bytes first name address bytes held = go (nat_lt longest_file (length bytes)) refl
  where
    held_plan : (why : Option Cause) → unreadable longest_file (Some bytes) ≡ why → plan_of first
        (Some (lookup name address)) ≡ unless_held first name address (Some bytes) why
    held_plan why is =
        ap (lookup_plan first name address) held
        ∙ ap (unless_held first name address (Some bytes)) is

    go : (b : Bool) → nat_lt longest_file (length bytes) ≡ b
        → IsCaused (Some (lookup name address)) first (lookup_plan first name address (Some bytes))
    go true is =
        let long : longest_file < length bytes = search (rules, is) in
        subst (IsCaused (Some (lookup name address)) first)
        (sym (ap (unless_held first name address (Some bytes))
        (unreadable-long longest_file (Some bytes) long)))
        (inl (record {
          name = name;
          address = address;
          bytes = bytes;
          commanded = refl;
          held = held;
          long = long;
        }))
    go false is =
        let within : length bytes ≤ longest_file = search (rules, is) in
        let fits = readable longest_file bytes within in
        subst (IsCaused (Some (lookup name address)) first)
        (sym (ap (unless_held first name address (Some bytes)) fits))
        (of-answer first name address bytes (answer bytes address) held within refl
        (held_plan None fits))

of-looked : (first : Told) (name : List ℕ) (address : ℕ) (file : Option (List ℕ))
    → map.get first.held name ≡ file
    → IsCaused (Some (lookup name address)) first (lookup_plan first name address file)
of-looked first name address None held =
    subst (IsCaused (Some (lookup name address)) first)
    (sym (ap (unless_held first name address None) (unreadable-none longest_file None refl)))
    (inl (record {
      known = lookup name address;
      name = name;
      commanded = refl;
      named = refl;
      absent = held;
    }))
of-looked first name address (Some bytes) held = of-bytes first name address bytes held

-- the status of an ending has its cause
ending_caused : (command : Option Command) (first : Told)
    → Causes (ending first command).status command first
ending_caused None first = refl
ending_caused (Some (build name)) first = on-caused (build name) first name refl refl refl
ending_caused (Some (lookup name address)) first =
    of-looked first name address (map.get first.held name) refl
ending_caused (Some (explain name address)) first =
    on-caused (explain name address) first name refl refl refl
ending_caused (Some (gen lines file)) first =
    of-plan (Some (gen lines file)) first (gen_moves lines file) (gen_start first)
    (fit_generated lines file) refl
ending_caused (Some (publish name block file)) first =
    on-caused (publish name block file) first name refl refl refl
ending_caused (Some (check name url)) first = on-caused (check name url) first name refl refl refl
ending_caused (Some (census name)) first = on-caused (census name) first name refl refl refl

-- an answer prevails, or it has its cause
pub caused : (command : Option Command) (first : Told) (status : Status)
    → IsAnswer command first status → Prevails command first status ⊎ Causes status command first
caused command first status answer =
    elim answer [
      | inl same ↦ inr (subst (λ s. Causes s command first) same (ending_caused command first))
      | inr prevails ↦ inl prevails
    ]

blocked-status : (why : Cause) (command : Option Command) (first : Told)
    → IsBlockedFor why command first → (ending first command).status ≡ cause_status why
blocked-status why command first found =
    ap (λ e. e.status)
    (ap (ending_by first) found.there.plan ∙ ap ending_of (course_blocked found.there.moves
    found.there.start found.there.count found.move found.world why found.there.there found.cause))

ends-free : (moves : List Move) (start : World)
    → ((count : ℕ) (move : Move) (world : World) → IsAt moves start count move world
    → blocked move world ≡ None) → (last : World) × (course moves start ≡ ended last)
ends-free [] start free = (start, refl)
ends-free (first ∷ rest) start free =
    let here : blocked first start ≡ None =
    free 0 first start (record { done = refl; next = refl }) in
    let later = ends-free rest (after first start)
    (λ count move world there. free (suc count) move world (record {
      done =
          ap (λ b. unless b first start (course (take count rest) (after first start))) here
          ∙ there.done;
      next = there.next;
    })) in
    (later.0, ap (λ b. unless b first start (course rest (after first start))) here ∙ later.1)

free-status : (command : Option Command) (first : Told) → IsFree command first
    → (ending first command).status ≡ statuses.Done
free-status command first free =
    ap (λ e. e.status)
    (ap (ending_by first) free.plan ∙ ap ending_of (ends-free free.moves free.start free.free).1)

-- the plan of a command that does a job
abbrev status_by : (first : Told) → Plan → Status
status_by first plan = (ending_by first plan).status

abbrev known_status : Command → (first : Told) → Status
known_status known first = (ending first (Some known)).status

absent-job : (known : Command) (name other : List ℕ) (first : Told) → other ≡ name
    → map.get first.held name ≡ None
    → status_by first (plan_on known first other) ≡ statuses.Missing
absent-job known name other first same absent =
    ap (λ n. status_by first (plan_on known first n)) same
    ∙ ap (λ f. status_by first (job_plan known first name (held_job f))) absent

absent-known : (known : Command) (name : List ℕ) (first : Told) → file_first known ≡ Some name
    → map.get first.held name ≡ None → known_status known first ≡ statuses.Missing
absent-known (build other) name first named absent =
    absent-job (build other) name other first (cc) absent
absent-known (lookup other address) name first named absent =
    let same : other ≡ name = cc in
    ap (λ n. status_by first (lookup_plan first n address (map.get first.held n))) same
    ∙ ap (λ f. status_by first (lookup_plan first name address f)) absent
    ∙ ap (λ why. status_by first (unless_held first name address None why))
    (unreadable-none longest_file None refl)
absent-known (explain other address) name first named absent =
    absent-job (explain other address) name other first (cc) absent
absent-known (gen lines file) name first named absent = absurd (cc)
absent-known (publish other block file) name first named absent =
    absent-job (publish other block file) name other first (cc) absent
absent-known (check other url) name first named absent =
    absent-job (check other url) name other first (cc) absent
absent-known (census other) name first named absent =
    absent-job (census other) name other first (cc) absent

absent-status : (command : Option Command) (first : Told) → IsAbsent command first
    → (ending first command).status ≡ statuses.Missing
absent-status command first absent =
    ap (λ c. (ending first c).status) absent.commanded
    ∙ absent-known absent.known absent.name first absent.named absent.absent

refused-job : (known : Command) (name other bytes : List ℕ) (fault : JobFault) (first : Told)
    → other ≡ name
    → map.get first.held name ≡ Some bytes → job bytes ≡ Err fault
    → status_by first (plan_on known first other) ≡ statuses.Job
refused-job known name other bytes fault first same held refusal =
    ap (λ n. status_by first (plan_on known first n)) same
    ∙ ap (λ f. status_by first (job_plan known first name (held_job f))) held
    ∙ ap (λ r. status_by first (job_plan known first name (accepted r))) refusal

refused-known : (known : Command) (name bytes : List ℕ) (fault : JobFault) (first : Told)
    → job_of known ≡ Some name
    → map.get first.held name ≡ Some bytes → job bytes ≡ Err fault
    → known_status known first ≡ statuses.Job
refused-known (build other) name bytes fault first its held refusal =
    refused-job (build other) name other bytes fault first (cc) held refusal
refused-known (lookup other address) name bytes fault first its held refusal = absurd (cc)
refused-known (explain other address) name bytes fault first its held refusal =
    refused-job (explain other address) name other bytes fault first (cc) held refusal
refused-known (gen lines file) name bytes fault first its held refusal = absurd (cc)
refused-known (publish other block file) name bytes fault first its held refusal =
    refused-job (publish other block file) name other bytes fault first (cc) held refusal
refused-known (check other url) name bytes fault first its held refusal =
    refused-job (check other url) name other bytes fault first (cc) held refusal
refused-known (census other) name bytes fault first its held refusal =
    refused-job (census other) name other bytes fault first (cc) held refusal

refused-status : (command : Option Command) (first : Told) → IsNoJob command first
    → (ending first command).status ≡ statuses.Job
refused-status command first none =
    ap (λ c. (ending first c).status) none.commanded
    ∙ refused-known none.known none.name none.bytes none.fault first none.its none.held none.refusal

words-status : (command : Option Command) (first : Told) → is_command command ≡ false
    → (ending first command).status ≡ statuses.Words
words-status None first none = refl
words-status (Some (build name)) first none = absurd (cc)
words-status (Some (lookup name address)) first none = absurd (cc)
words-status (Some (explain name address)) first none = absurd (cc)
words-status (Some (gen lines file)) first none = absurd (cc)
words-status (Some (publish name block file)) first none = absurd (cc)
words-status (Some (check name url)) first none = absurd (cc)
words-status (Some (census name)) first none = absurd (cc)

over-status : (command : Option Command) (first : Told) → IsOverLimit command first
    → (ending first command).status ≡ statuses.Source
over-status command first over =
    ap (λ c. (ending first c).status) over.commanded
    ∙ ap (λ f. (ending_by first (lookup_plan first over.name over.address f)).status) over.held
    ∙ ap (λ why.
    (ending_by first (unless_held first over.name over.address (Some over.bytes) why)).status)
    (unreadable-long longest_file (Some over.bytes) over.long)

damaged-status : (command : Option Command) (first : Told) → IsDamaged command first
    → (ending first command).status ≡ statuses.File
damaged-status command first damaged =
    ap (λ c. (ending first c).status) damaged.commanded
    ∙ ap (λ f. (ending_by first (lookup_plan first damaged.name damaged.address f)).status)
    damaged.held
    ∙ ap (λ why. (ending_by first
    (unless_held first damaged.name damaged.address (Some damaged.bytes) why)).status)
    (readable longest_file damaged.bytes damaged.within)
    ∙ ap (λ r. (ending_by first (answer_plan first damaged.name r)).status) damaged.damage

cause-status : (status : Status) (command : Option Command) (first : Told)
    → Causes status command first → (ending first command).status ≡ status
cause-status statuses.Done command first cause = free-status command first cause
cause-status statuses.Memory command first cause = absurd cause
cause-status statuses.Words command first cause = words-status command first cause
cause-status statuses.ReadFault command first cause = absurd cause
cause-status statuses.Missing command first cause =
    elim cause [
      | inl absent ↦ absent-status command first absent
      | inr found ↦ blocked-status causes.Missing command first found
    ]
cause-status statuses.WriteFault command first cause = absurd cause
cause-status statuses.Job command first cause = refused-status command first cause
cause-status statuses.Source command first cause =
    elim cause [
      | inl over ↦ over-status command first over
      | inr blocks ↦ elim blocks [
        | inl long ↦ blocked-status causes.TooLong command first long
        | inr many ↦ blocked-status causes.TooMany command first many
      ]
    ]
cause-status statuses.TooLarge command first cause =
    blocked-status causes.TooLarge command first cause
cause-status statuses.File command first cause = damaged-status command first cause
cause-status statuses.Drop command first cause = blocked-status causes.NotThere command first cause
cause-status statuses.Mark command first cause = blocked-status causes.NoMark command first cause
cause-status statuses.Absent command first cause = blocked-status causes.NoFeed command first cause

-- where the cause of a status stands, the answer is that status or one that prevails
pub certain : (command : Option Command) (first : Told) (answer : Status)
    → IsAnswer command first answer
    → (status : Status) → Causes status command first
    → (answer ≡ status) ⊎ Prevails command first answer
certain command first answer is status cause =
    elim is [
      | inl same ↦ inl (sym same ∙ cause-status status command first cause)
      | inr prevails ↦ inr prevails
    ]
