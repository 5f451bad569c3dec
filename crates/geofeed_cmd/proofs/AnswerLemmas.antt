-- How a command's answer follows from where it stopped.
use Rattle.std.proofs.Common.{◌≡◌, ℕ, ◌+◌, ◌≤◌, ◌<◌, ◌⊎◌, Bool, true, false, nat_lt, inl, inr, List}
use Rattle.std.proofs.Common.{[], length, refl, sym, ◌∙◌, ap, subst, arith, rules}
use Rattle.std.specs.Prelude.{Option, Some, None, Err, IsSomeAnd, if◌then◌else◌}
use Rattle.std.specs.Str.{is_utf8}
use Rattle.geo_addr.specs.Lines.{numbered_lines}
use Rattle.geo_outside.specs.Count.{Rose}
use Rattle.geo_outside.specs.Files.{Told}
use Rattle.update_session.specs.Kept.{Held}
use Rattle.job_lines.specs.declared.fault.JobFault.TheVariants as job_faults
use Rattle.job_lines.specs.declared.job.Step.{Step}
use Rattle.job_lines.specs.Job.{job, job_of as job_of_draft, draft_from}
use Rattle.job_lines.specs.Drafts.{no_lines}
use Rattle.job_lines.specs.Commands.{Command}
use Rattle.job_lines.specs.Commands as commands
use Rattle.job_run.specs.declared.stop.Cause.{Cause}
use Rattle.job_run.specs.declared.stop.Cause.TheVariants as causes
use Rattle.job_run.specs.declared.stop.Stop.{Stop}
use Rattle.job_run.specs.declared.stop.Stop.TheVariants as stops
use Rattle.job_run.specs.Acts.{Move, looks, counts, does, sets, shows, effect, line_of, step_of}
use Rattle.job_run.specs.Course.{stopped, IsAt}
use Rattle.job_run.specs.Seen.{Seen, seen}
use Rattle.job_run.specs.Sources.{file_named}
use Rattle.job_run.specs.Stops.{Halts, IsBlocked, IsHindered, IsUncounted, DoesAll, StopsAt}
use Rattle.job_run.specs.World.{World}
use Rattle.job_run.proofs.CourseLemmas.{course_blocked}
use Rattle.job_run.proofs.RunLemmas.{named_move}
use Rattle.geofeed_cmd.specs.declared.status.Status.{Status}
use Rattle.geofeed_cmd.specs.declared.status.Status.TheVariants as statuses
use Rattle.geofeed_cmd.specs.Run.Answers.{ComesTo, IsDone, Leaves, Comes, read, write, memory}
use Rattle.geofeed_cmd.specs.Run.Answers.{spent, IsAnswer, IsUnchanged}
use Rattle.geofeed_cmd.specs.Run.Closes.{EndsWith}
use Rattle.geofeed_cmd.specs.Run.Ending.{ending, ending_by, ending_of}
use Rattle.geofeed_cmd.specs.Run.Lines.{status_of, cause_status, stop_line}
use Rattle.geofeed_cmd.specs.Run.Plans.{Reaches, accepted, file_first, held_job, is_command}
use Rattle.geofeed_cmd.specs.Run.Plans.{job_plan, plan_of, planned, refused}
use Rattle.geofeed_cmd.specs.Run.Stopped.{ClosesAt, IsStopped}
use Rattle.geofeed_cmd.proofs.CloseLemmas.{append-nil, fails_as, hindered_as, leaves, no-line}
use Rattle.geofeed_cmd.proofs.CloseLemmas.{prints-nothing, put_as, sink_as}

-- an answer that comes to the ending
comes-ended : (cause : Cause) (command : Option Command) (first : Told) (old new : Seen)
    (puts puts_now : ℕ) → ComesTo (ending first command) (cause_status cause) old new
    → Comes (cause_status cause) command first old new puts puts_now
comes-ended causes.Words command first old new puts puts_now comes = comes
comes-ended causes.Missing command first old new puts puts_now comes = comes
comes-ended (causes.Job fault) command first old new puts puts_now comes = comes
comes-ended causes.TooLong command first old new puts puts_now comes = comes
comes-ended causes.TooMany command first old new puts puts_now comes = comes
comes-ended causes.NotThere command first old new puts puts_now comes = comes
comes-ended causes.NoMark command first old new puts puts_now comes = comes
comes-ended causes.NoFeed command first old new puts puts_now comes = comes
comes-ended causes.TooLarge command first old new puts puts_now comes = inl comes
comes-ended (causes.File fault) command first old new puts puts_now comes = comes

module _ (command : Option Command) (first : Told) (moves : List Move) (start : World)
    (old new : Seen) (puts puts_now : ℕ) (plan : plan_of first command ≡ planned moves start) where
  reached : (at : ℕ) (move : Move) (world : World) → IsAt moves start at move world
      → Reaches command first move world
  reached at move world there =
      record { moves = moves; start = start; count = at; plan = plan; there = there }

  comes-blocked : (why : Cause) (at : ℕ) (move : Move) (world : World)
      → IsAt moves start at move world → IsBlocked why move world new.told
      → Leaves (stops.Blocked why) move world old new
      → new.steps ≤ old.steps + (effect move world).session.spent
      → ComesTo (ending first command) (cause_status why) old new
  comes-blocked why at move world there stop printed steps =
      let e : ending_of (stopped move why world) ≡ ending first command =
      sym (ap (ending_by first) plan
      ∙ ap ending_of (course_blocked moves start at move world why there stop.cause)) in
      subst (λ end. ComesTo end (cause_status why) old new) e
      (record { same = refl; files = stop.files; printed = printed; steps = steps })

  comes-uncounted : (why : Cause) (at : ℕ) (move : Move) (world : World)
      → IsAt moves start at move world → IsUncounted why move world new.told
      → Leaves (stops.Blocked why) move world old new
      → new.steps ≤ old.steps + (effect move world).session.spent
      → Comes (cause_status why) command first old new puts puts_now
  comes-uncounted why at move world there stop printed steps =
      subst (λ c. Comes (cause_status c) command first old new puts puts_now) (sym stop.large)
      (inr (record {
        at = record {
          move = move;
          world = world;
          there = reached at move world there;
          files = inr (record { large = refl; spent = stop.spent; files = stop.files });
          printed = subst (λ c. Leaves (stops.Blocked c) move world old new) stop.large printed;
          steps = steps;
        };
        spent = stop.spent;
      }))

  -- the answer of a stop, by its cause
  pub by_cause : (why : Stop) (at : ℕ) (move : Move) (world : World)
      → IsAt moves start at move world → Halts why move world new.told
      → Leaves why move world old new → new.steps ≤ old.steps + (effect move world).session.spent
      → (why ≡ stops.PutFailed → Rose puts puts_now)
      → (why ≡ stops.SinkFailed → Rose old.print_faults new.print_faults)
      → Comes (status_of why) command first old new puts puts_now
  by_cause (stops.Blocked why) at move world there files left steps put sink =
      elim files [
        | inl stop ↦ comes-ended why command first old new puts puts_now
            (comes-blocked why at move world there stop left steps)
        | inr many ↦ comes-uncounted why at move world there many left steps
      ]
  by_cause stops.ReadFailed at move world there files left steps put sink =
      inr (record {
        move = move;
        world = world;
        there = reached at move world there;
        files = files;
        printed = left;
        steps = steps;
      })
  by_cause stops.PutFailed at move world there files left steps put sink =
      inl (record {
        rose = put refl;
        at = record {
          move = move;
          world = world;
          there = reached at move world there;
          files = files;
          printed = left;
          steps = steps;
        };
      })
  by_cause stops.SinkFailed at move world there files left steps put sink =
      inr (record {
        rose = sink refl;
        at = record {
          move = move;
          world = world;
          there = reached at move world there;
          files = files;
          printed = left;
          steps = steps;
        };
      })
  by_cause stops.Memory at move world there files left steps put sink =
      inr (record {
        move = move;
        world = world;
        there = reached at move world there;
        files = files;
        printed = left;
        steps = steps;
      })

-- the answer of a command is that of its ending, or the ending yields to it
pub answered : (status : Status) (command : Option Command) (first : Told)
    (old new : Seen) (puts puts_now : ℕ) → Comes status command first old new puts puts_now
    → IsAnswer command first status
answered statuses.Done command first old new puts puts_now done =
    inl (ap (λ e. e.status) (ap (ending_by first) done.plan ∙ ap ending_of done.all))
answered statuses.Memory command first old new puts puts_now comes = inr memory
answered statuses.Words command first old new puts puts_now comes = inl comes.same
answered statuses.ReadFault command first old new puts puts_now comes = inr read
answered statuses.Missing command first old new puts puts_now comes = inl comes.same
answered statuses.WriteFault command first old new puts puts_now comes = inr write
answered statuses.Job command first old new puts puts_now comes = inl comes.same
answered statuses.Source command first old new puts puts_now comes = inl comes.same
answered statuses.TooLarge command first old new puts puts_now comes =
    elim comes [
      | inl ended ↦ inl ended.same
      | inr large ↦ inr (spent (record {
        move = large.at.move;
        world = large.at.world;
        there = large.at.there;
        spent = large.spent;
      }))
    ]
answered statuses.File command first old new puts puts_now comes = inl comes.same
answered statuses.Drop command first old new puts puts_now comes = inl comes.same
answered statuses.Mark command first old new puts puts_now comes = inl comes.same
answered statuses.Absent command first old new puts puts_now comes = inl comes.same

-- a count of puts that failed that was lower before
pub comes_earlier : (status : Status) (command : Option Command) (first : Told) (old new : Seen)
    (earlier puts puts_now : ℕ) → earlier ≤ puts
    → Comes status command first old new puts puts_now
    → Comes status command first old new earlier puts_now
comes_earlier statuses.Done command first old new earlier puts puts_now rises comes = comes
comes_earlier statuses.Memory command first old new earlier puts puts_now rises comes = comes
comes_earlier statuses.Words command first old new earlier puts puts_now rises comes = comes
comes_earlier statuses.ReadFault command first old new earlier puts puts_now rises comes = comes
comes_earlier statuses.Missing command first old new earlier puts puts_now rises comes = comes
comes_earlier statuses.WriteFault command first old new earlier puts puts_now rises comes =
    elim comes [
      | inl unput ↦ inl (record {
        rose = let rose : Rose puts puts_now = unput.rose in omega arith;
        at = unput.at;
      })
      | inr unprinted ↦ inr unprinted
    ]
comes_earlier statuses.Job command first old new earlier puts puts_now rises comes = comes
comes_earlier statuses.Source command first old new earlier puts puts_now rises comes = comes
comes_earlier statuses.TooLarge command first old new earlier puts puts_now rises comes = comes
comes_earlier statuses.File command first old new earlier puts puts_now rises comes = comes
comes_earlier statuses.Drop command first old new earlier puts puts_now rises comes = comes
comes_earlier statuses.Mark command first old new earlier puts puts_now rises comes = comes
comes_earlier statuses.Absent command first old new earlier puts puts_now rises comes = comes

-- a move that a command reaches is one of the moves of its plan
pub at_planned : (command : Option Command) (first : Told) (moves : List Move) (start : World)
    → plan_of first command ≡ planned moves start
    → (move : Move) (world : World) (reach : Reaches command first move world)
    → IsAt moves start reach.count move world
at_planned command first moves start plan move world reach =
    let e : planned reach.moves reach.start ≡ planned moves start = sym reach.plan ∙ plan in
    let done = reach.there.done in
    let next = reach.there.next in
    record { done = cc; next = cc }

-- all moves were made
pub comes_done : (command : Option Command) (first : Told) (moves : List Move)
    (start : World) (old new : Seen) (session : Held) → plan_of first command ≡ planned moves start
    → start.session.spent ≡ 0
    → DoesAll moves start session old new → IsDone command first old new
comes_done command first moves start old new session plan unspent all = record {
  moves = moves;
  start = start;
  last = all.world;
  plan = plan;
  all = all.done;
  files = all.stands.tells;
  printed = all.printed;
  steps =
      let steps : new.steps + start.session.spent ≤ old.steps + all.world.session.spent =
      all.steps in omega (arith, unspent);
  published =
      λ move world reach. all.published reach.count move world
      (at_planned command first moves start plan move world reach);
}

-- a move that belongs to a step has its line
move-line : (move : Move) (step : Step) → step_of move ≡ Some step → step.line ≡ line_of move
move-line (looks other) step its =
    let same : other ≡ step = cc in
    ap (λ (s : Step). s.line) (sym same)
move-line (counts other) step its =
    let same : other ≡ step = cc in
    ap (λ (s : Step). s.line) (sym same)
move-line (does other) step its =
    let same : other ≡ step = cc in
    ap (λ (s : Step). s.line) (sym same)
move-line (sets change) step its = absurd (cc)
move-line (shows last) step its = absurd (cc)

-- one of the steps of a job was not done, and a line was printed behind
pub comes_stop : (command : Option Command) (first : Told) (result : Status) (list : List Step)
    (moves all : List Move) (start : World)
    (old mid : Seen) (written : Option (List ℕ)) (faults : ℕ)
    → plan_of first command ≡ planned all start → start.session.spent ≡ 0
    → ((count : ℕ) (move : Move) (world : World) → IsAt moves start count move world
    → IsAt all start count move world)
    → (why : Stop) (at : ℕ) (stop : StopsAt why at moves list start old mid)
    → IsStopped why result mid.written written mid.print_faults faults
    stop.step.line (file_named stop.step.act) → old.print_faults ≤ mid.print_faults
    → (puts puts_now : ℕ) → (why ≡ stops.PutFailed → Rose puts puts_now)
    → (why ≡ stops.SinkFailed → Rose old.print_faults faults)
    → Comes result command first old (seen mid.told written faults mid.steps) puts puts_now
comes_stop command first result list moves all start old mid written faults plan unspent lift why at
    stop closed rises puts puts_now put sink =
    let out = closed.out in
    let line = stop_line out stop.step.line (file_named stop.step.act) in
    let is : line ≡ stop_line out (line_of stop.move) (effect stop.move stop.world).name =
    ap (λ n. stop_line out n (file_named stop.step.act)) (move-line stop.move stop.step stop.its)
    ∙ ap (stop_line out (line_of stop.move))
    (sym (named_move stop.move stop.step stop.world stop.its)) in
    let steps : mid.steps ≤ old.steps + (effect stop.move stop.world).session.spent =
    let paid = stop.spent in omega (arith, unspent, paid) in
    let now = seen mid.told written faults mid.steps in
    let fails =
    fails_as why out closed.comes stop.move stop.world stop.world.text old mid stop.fails in
    subst (λ s. Comes s command first old now puts puts_now) (sym closed.same)
    (by_cause command first all start old now puts puts_now plan out stop.count stop.move stop.world
    (lift stop.count stop.move stop.world stop.there) fails.files
    (leaves out stop.move stop.world old now mid.written mid.print_faults line is fails.printed
    closed.closes rises)
    steps (λ failed. put (put_as why out closed.comes failed))
    (λ failed. sink (sink_as why out closed.comes failed)))

-- a command that is refused before its first move
comes-refused : (command : Option Command) (first : Told) (cause : Cause) (name : List ℕ)
    (old new : Seen) → plan_of first command ≡ refused cause name → new.told ≡ Some first
    → EndsWith old new [] (stop_line (stops.Blocked cause) 0 name) → new.steps ≤ old.steps
    → ComesTo (ending first command) (cause_status cause) old new
comes-refused command first cause name old new plan files closed steps =
    subst (λ end. ComesTo end (cause_status cause) old new) (sym (ap (ending_by first) plan))
    (record {
      same = refl;
      files = files;
      printed = closed;
      steps = let e : new.steps ≤ old.steps + 0 = omega arith in e;
    })

-- nothing was done, and no line was printed
unchanged-unsaid : (first : Told) (line : ℕ) (name : List ℕ) (old new : Seen)
    → new.told ≡ Some first
    → EndsWith old new [] (stop_line stops.Memory line name) → new.steps ≤ old.steps
    → IsUnchanged first old new
unchanged-unsaid first line name old new files closed steps = record {
  files = files;
  printed =
      prints-nothing old.written new.written old.print_faults new.print_faults []
      (subst (EndsWith old new []) (no-line line name).1 closed);
  steps = steps;
}

-- a command that stops before its first move
comes-hindered : (known : Command) (name : List ℕ) (first : Told) (old new : Seen)
    (puts puts_now : ℕ) → file_first known ≡ Some name
    → (out : Stop) → IsHindered out (λ cause. plan_of first (Some known) ≡ refused cause name)
    → new.told ≡ Some first
    → ClosesAt out old.written new.written old.print_faults new.print_faults (stop_line out 0 name)
    → new.steps ≤ old.steps
    → Comes (status_of out) (Some known) first old new puts puts_now
comes-hindered known name first old new puts puts_now named
    (stops.Blocked cause) stop files closed steps =
    comes-ended cause (Some known) first old new puts puts_now
    (comes-refused (Some known) first cause name old new stop files closed steps)
comes-hindered known name first old new puts puts_now named stops.ReadFailed stop files
    closed steps =
    inl (record {
      known = known;
      name = name;
      commanded = refl;
      named = named;
      files = files;
      printed = closed;
      steps = steps;
    })
comes-hindered known name first old new puts puts_now named stops.PutFailed stop files closed
    steps = absurd stop
comes-hindered known name first old new puts puts_now named stops.SinkFailed stop files closed
    steps = absurd stop
comes-hindered known name first old new puts puts_now named stops.Memory stop files closed steps =
    inl (unchanged-unsaid first 0 name old new files closed steps)

pub comes_hindered : (known : Command) (name : List ℕ) (first : Told) (result : Status)
    (old new : Seen) (puts puts_now : ℕ) → file_first known ≡ Some name
    → (why : Stop) → IsHindered why (λ cause. plan_of first (Some known) ≡ refused cause name)
    → new.told ≡ Some first
    → IsStopped why result old.written new.written old.print_faults new.print_faults 0 name
    → new.steps ≤ old.steps
    → Comes result (Some known) first old new puts puts_now
comes_hindered known name first result old new puts puts_now named why stop files closed steps =
    subst (λ s. Comes s (Some known) first old new puts puts_now) (sym closed.same)
    (comes-hindered known name first old new puts puts_now named closed.out
    (hindered_as why closed.out closed.comes
    (λ cause. plan_of first (Some known) ≡ refused cause name) stop) files closed.closes steps)

-- nothing was done for want of memory
pub comes_unchanged : (command : Option Command) (first : Told) (old new : Seen) (puts puts_now : ℕ)
    → new.told ≡ Some first → new.written ≡ old.written → new.steps ≡ old.steps
    → Comes statuses.Memory command first old new puts puts_now
comes_unchanged command first old new puts puts_now files written steps = inl (record {
  files = files;
  printed = λ before was. written ∙ was ∙ ap Some (sym (append-nil before));
  steps = omega (arith, steps);
})

-- words that are no command
no-plan : (command : Option Command) (first : Told) → is_command command ≡ false
    → plan_of first command ≡ refused causes.Words []
no-plan None first none = refl
no-plan (Some (commands.build name)) first none = absurd (cc)
no-plan (Some (commands.lookup name address)) first none = absurd (cc)
no-plan (Some (commands.explain name address)) first none = absurd (cc)
no-plan (Some (commands.gen lines file)) first none = absurd (cc)
no-plan (Some (commands.publish name block file)) first none = absurd (cc)
no-plan (Some (commands.check name url)) first none = absurd (cc)
no-plan (Some (commands.census name)) first none = absurd (cc)

comes-words : (command : Option Command) (first : Told) (old new : Seen) (puts puts_now : ℕ)
    → is_command command ≡ false → new.told ≡ Some first → new.steps ≤ old.steps → (out : Stop)
    → (out ≡ stops.Blocked causes.Words) ⊎ (out ≡ stops.Memory)
    → ClosesAt out old.written new.written old.print_faults new.print_faults (stop_line out 0 [])
    → Comes (status_of out) command first old new puts puts_now
comes-words command first old new puts puts_now none files steps out its = elim its [
  | inl same ↦ subst (λ w. ClosesAt w old.written new.written old.print_faults new.print_faults
      (stop_line w 0 []) → Comes (status_of w) command first old new puts puts_now) (sym same)
      (λ closed. comes-refused command first causes.Words [] old new
      (no-plan command first none) files closed steps)
  | inr lacking ↦ subst (λ w. ClosesAt w old.written new.written old.print_faults new.print_faults
      (stop_line w 0 []) → Comes (status_of w) command first old new puts puts_now) (sym lacking)
      (λ closed. inl (unchanged-unsaid first 0 [] old new files closed steps))
]

pub comes_words : (command : Option Command) (first : Told) (result : Status) (old new : Seen)
    (puts puts_now : ℕ) → is_command command ≡ false → new.told ≡ Some first
    → IsStopped (stops.Blocked causes.Words) result old.written new.written
    old.print_faults new.print_faults 0 []
    → new.steps ≤ old.steps
    → Comes result command first old new puts puts_now
comes_words command first result old new puts puts_now none files closed steps =
    subst (λ s. Comes s command first old new puts puts_now) (sym closed.same)
    (comes-words command first old new puts puts_now none files steps closed.out closed.comes
    closed.closes)

if-true : {A : Type 0} (b : Bool) (x y : A) → b ≡ true → (if b then x else y) ≡ x
if-true true x y h = refl
if-true false x y h = cc

too-long : (bytes : List ℕ) → 1048576 < length bytes → job bytes ≡ Err job_faults.TooLong
unfolding job
too-long bytes long =
    if-true (nat_lt 1048576 (length bytes)) (Err job_faults.TooLong)
    (if is_utf8 bytes then job_of_draft (draft_from (numbered_lines bytes) no_lines)
    else Err job_faults.Utf8)
    (search rules)

-- a job of too many bytes
pub held-too-long : (file : Option (List ℕ)) → IsSomeAnd file (λ bytes. 1048576 < length bytes)
    → held_job file ≡ Err (causes.Job job_faults.TooLong)
held-too-long None long = absurd long
held-too-long (Some bytes) long = ap accepted (too-long bytes long)

-- a job that is there, or is not, as the plan of a command
pub hindered_job : (known : Command) (first : Told) (name : List ℕ) (why : Stop)
    (file : Option (List ℕ))
    → IsHindered why (λ cause. held_job file ≡ Err cause)
    → IsHindered why (λ cause. job_plan known first name (held_job file) ≡ refused cause name)
hindered_job known first name (stops.Blocked cause) file stop = ap (job_plan known first name) stop
hindered_job known first name stops.ReadFailed file stop = stop
hindered_job known first name stops.PutFailed file stop = stop
hindered_job known first name stops.SinkFailed file stop = stop
hindered_job known first name stops.Memory file stop = stop
