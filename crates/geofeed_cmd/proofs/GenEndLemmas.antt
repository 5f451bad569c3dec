-- What the moves of the generated job leave, and how the command `gen` ends.
use Rattle.std.proofs.Common.{◌≡◌, ℕ, zero, suc, ◌+◌, ◌≤◌, ◌⊎◌, inl, inr, true, false, List, []}
use Rattle.std.proofs.Common.{◌∷◌, take, refl, sym, ◌∙◌, ap, subst, arith}
use Rattle.std.specs.Prelude.{Err, IfErr, Ok, Option, Result, Some, None}
use Rattle.geo_outside.specs.Count.{Rose}
use Rattle.geo_outside.specs.Files.{Told}
use Rattle.source_changes.specs.Changes.{SetDump, SetFeed}
use Rattle.update_session.specs.Calls.{HasChanged, HasEmitted, HasGrown, IsSpent}
use Rattle.update_session.specs.Kept.{Held}
use Rattle.update_session.specs.Standing.{Standing, StandingStays, Stands, emitted}
use Rattle.update_session.specs.State.{is_too_large}
use Rattle.update_session.specs.Touch.{bound}
use Rattle.job_lines.specs.Commands.{Command, gen}
use Rattle.job_run.specs.declared.stop.Cause.{Cause}
use Rattle.job_run.specs.declared.stop.Cause.TheVariants.{TooLarge}
use Rattle.job_run.specs.declared.stop.Stop.{Stop}
use Rattle.job_run.specs.declared.stop.Stop.TheVariants.{Blocked, PutFailed, SinkFailed, Memory}
use Rattle.job_run.specs.Acts.{Move, after, blocked, does, effect, line_of, sets}
use Rattle.job_run.specs.Course.{course, ended, unless, IsAt}
use Rattle.job_run.specs.Published.{Publishes}
use Rattle.job_run.specs.Seen.{Seen, Prints, seen}
use Rattle.job_run.specs.Stops.{Does, Fails, IsPaid}
use Rattle.job_run.specs.World.{World}
use Rattle.job_run.proofs.ActLemmas.{prints_none}
use Rattle.generated_job.specs.Job.{first_set, second_set, the_dump, the_feed}
use Rattle.generated_job.specs.Laws.{IsEmittable}
use Rattle.geofeed_cmd.specs.declared.status.Status.{Status}
use Rattle.geofeed_cmd.specs.declared.status.Status.TheVariants as statuses
use Rattle.geofeed_cmd.specs.Commands.Generate.{emit_step, gen_moves, gen_start}
use Rattle.geofeed_cmd.specs.Run.Answers.{Comes, EndsGenerated, IsDone}
use Rattle.geofeed_cmd.specs.Run.Ending.{ending, ending_of}
use Rattle.geofeed_cmd.specs.Run.Ends.{Generates}
use Rattle.geofeed_cmd.specs.Run.Generated.{IsOutside, StopsGenerated}
use Rattle.geofeed_cmd.specs.Run.Lines.{status_of, stop_line}
use Rattle.geofeed_cmd.specs.Run.Plans.{is_command, reads_folder}
use Rattle.geofeed_cmd.specs.Run.Stopped.{ClosesAt, ComesAs, IsStopped}
use Rattle.geofeed_cmd.proofs.AnswerLemmas.{at_planned, by_cause}
use Rattle.geofeed_cmd.proofs.CloseLemmas.{leaves}
use Rattle.geofeed_cmd.proofs.GenFreeLemmas.{at_first, at_second, first_free, gen_course}
use Rattle.geofeed_cmd.proofs.GenFreeLemmas.{wrote_first, wrote_second}
use Rattle.geofeed_cmd.proofs.LastLemmas.{prints_more, tail_more}

-- what the outside is in the way of comes out as itself
pub outside_same : (why out : Stop) → IsOutside why → ComesAs why out → out ≡ why
outside_same why out (inl is) comes =
    let h : ComesAs PutFailed out = subst (λ (w : Stop). ComesAs w out) is comes in h ∙ sym is
outside_same why out (inr (inl is)) comes =
    let h : ComesAs SinkFailed out = subst (λ (w : Stop). ComesAs w out) is comes in h ∙ sym is
outside_same why out (inr (inr is)) comes =
    let h : ComesAs Memory out = subst (λ (w : Stop). ComesAs w out) is comes in h ∙ sym is

-- ---- what every move of a list publishes

abbrev AllPublish : List Move → World → Type 0
AllPublish [] world = Unit {0}
AllPublish (move ∷ moves) world =
    ((blocked move world ≡ None) × Publishes move world.session.state)
    × AllPublish moves (after move world)

published_in : (moves : List Move) (start : World) → AllPublish moves start
    → (count : ℕ) (move : Move) (world : World) → IsAt moves start count move world
    → Publishes move world.session.state
published_in [] start all count move world there = absurd (let next = there.next in cc)
published_in (first ∷ moves) start all zero move world there =
    let same : first ≡ move = let next = there.next in cc in
    let now : start ≡ world = let done = there.done in cc in
    subst (λ (m : Move). Publishes m world.session.state) same
    (subst (λ (w : World). Publishes first w.session.state) now all.0.1)
published_in (first ∷ moves) start all (suc count) move world there =
    let led : course (take count moves) (after first start) ≡ ended world =
    subst (λ (b : Option Cause).
    unless b first start (course (take count moves) (after first start)) ≡ ended world) all.0.0
    there.done in
    published_in moves (after first start) all.1 count move world
    (record { done = led; next = there.next })

-- ---- the session

-- where an emit can be made, it is not answered as too large
pub possible : StandingStays → (w : Standing) → IsEmittable w → (session : Held) → Stands session w
    → (is_too_large session.state ≡ true) ⊎ IsSpent session → ⊥
possible stays w emittable session stands (inl large) =
    let same = ap is_too_large stands.state in
    let fits = emittable.fits in cc
possible stays w emittable session stands (inr spent) =
    emittable.numbered (stays.same_end session w stands spent)

-- where the session stands behind the first emit, and with the second feed; and what both emits
-- cost
module _ (stays : StandingStays) (lines : ℕ) (one : Held) (at_one : Stands one (first_set lines))
  where
    pub wrote : (two : Held) → HasGrown one two → HasEmitted one two
        → Stands two (emitted (first_set lines))
    wrote two grown done = stays.emits one two (first_set lines) at_one grown done

    pub set_again : (two three : Held) → HasGrown one two → HasEmitted one two
        → HasChanged (SetFeed (the_feed true lines)) two three → Stands three (second_set lines)
    set_again two three grown done has =
        stays.changes (SetFeed (the_feed true lines)) two three (emitted (first_set lines))
        (wrote two grown done) has

    pub spent_less : (steps steps' : ℕ) → steps' ≤ steps + bound one.touched one.state.sources
        → steps' ≤ steps + (emitted (second_set lines)).spent
    spent_less steps steps' paid =
        let cost = stays.same_cost one (first_set lines) at_one in omega (arith, cost, paid)

    pub spent_twice : (three : Held) → Stands three (second_set lines) → (steps mid steps' : ℕ)
        → mid ≤ steps + bound one.touched one.state.sources
        → steps' ≤ mid + bound three.touched three.state.sources
        → steps' ≤ steps + (emitted (second_set lines)).spent
    spent_twice three at_three steps mid steps' paid later =
        let cost = stays.same_cost one (first_set lines) at_one in
        let again = stays.same_cost three (second_set lines) at_three in
        omega (arith, cost, again, paid, later)

-- an emit that is not too large stops for the outside alone
pub outside_alone : (why : Stop)
    → (why ≡ Blocked TooLarge) ⊎ ((why ≡ PutFailed) ⊎ ((why ≡ SinkFailed) ⊎ (why ≡ Memory)))
    → (why ≡ Blocked TooLarge → ⊥) → IsOutside why
outside_alone why (inl large) fits = absurd (fits large)
outside_alone why (inr more) fits = more

pub with_outside : StandingStays → (w : Standing) → IsEmittable w → (session : Held)
    → Stands session w → {X : Type 0} (result : Result X Stop) (P Q : Stop → Type 0)
    → IfErr result (λ why. (why ≡ Blocked TooLarge)
    ⊎ ((why ≡ PutFailed) ⊎ ((why ≡ SinkFailed) ⊎ (why ≡ Memory))))
    → (result ≡ Err (Blocked TooLarge)
    → (is_too_large session.state ≡ true) ⊎ IsSpent session)
    → IfErr result P → ((why : Stop) → IsOutside why → P why → Q why) → IfErr result Q
with_outside stays w emittable session stands (Ok done) P Q causes large holds give = tt
with_outside stays w emittable session stands (Err why) P Q causes large holds give =
    give why (outside_alone why causes
    (λ is. possible stays w emittable session stands (large (ap Err is)))) holds

-- its stop line is the same at each line of a job
same_line : (why : Stop) (line : ℕ) (file : List ℕ) → IsOutside why
    → stop_line why 0 file ≡ stop_line why line file
unfolding stop_line
same_line why line file (inl is) =
    subst (λ (w : Stop). stop_line w 0 file ≡ stop_line w line file) (sym is) refl
same_line why line file (inr (inl is)) =
    subst (λ (w : Stop). stop_line w 0 file ≡ stop_line w line file) (sym is) refl
same_line why line file (inr (inr is)) =
    subst (λ (w : Stop). stop_line w 0 file ≡ stop_line w line file) (sym is) refl

memory_line : (file : List ℕ) → stop_line Memory 0 file ≡ stop_line Memory 0 []
unfolding stop_line
memory_line file = refl

-- ---- the worlds

module _ (lines : ℕ) (few : lines ≤ 1000000) (file : List ℕ) (first : Told) where
  abbrev pub before : World
  before = at_first lines few file first

  abbrev pub behind : World
  behind = wrote_first lines few file first

  abbrev pub again : World
  again = at_second lines few file first

  at-0 : IsAt (gen_moves lines file) (gen_start first) 0 (sets (SetDump the_dump)) (gen_start first)
  unfolding gen_moves
  at-0 = record { done = refl; next = refl }

  at-3 : IsAt (gen_moves lines file) (gen_start first) 3 (does (emit_step 5 file)) before
  unfolding gen_moves
  at-3 = record { done = refl; next = refl }

  at-4 : IsAt (gen_moves lines file) (gen_start first) 4 (sets (SetFeed (the_feed true lines)))
      behind
  unfolding gen_moves
  at-4 = record {
    done = ap (λ (b : Option Cause). unless b (does (emit_step 5 file)) before (ended behind))
        (first_free lines few file first);
    next = refl;
  }

  at-5 : IsAt (gen_moves lines file) (gen_start first) 5 (does (emit_step 7 file)) again
  unfolding gen_moves
  at-5 = record {
    done = ap (λ (b : Option Cause). unless b (does (emit_step 5 file)) before (ended again))
        (first_free lines few file first);
    next = refl;
  }

  -- a move stops for want of memory, or for the outside
  unset : (count : ℕ) (move : Move) (world : World) (old new : Seen)
      → IsAt (gen_moves lines file) (gen_start first) count move world
      → line_of move ≡ 0 → (effect move world).name ≡ [] → new.told ≡ Some world.told
      → Prints old.written new.written world.text
      → new.steps ≤ old.steps + (effect move world).session.spent
      → StopsGenerated Memory lines file first old new
  unset count move world old new there line name told printed steps = record {
    count = count;
    move = move;
    world = world;
    there = there;
    fails = record { files = inl told; printed = printed };
    line = memory_line file ∙ ap (λ (n : ℕ). stop_line Memory n []) (sym line)
        ∙ ap (stop_line Memory (line_of move)) (sym name);
    steps = steps;
  }

  -- the first sources were not set
  pub stops_first : (now : Seen) (why : Stop) → why ≡ Memory → now.told ≡ Some first
      → StopsGenerated why lines file first now now
  stops_first now why is told =
      subst (λ (w : Stop). StopsGenerated w lines file first now now) (sym is)
      (unset 0 (sets (SetDump the_dump)) (gen_start first) now now at-0 refl refl told
      (prints_none now.written now.written refl) (omega arith))

  -- the first emit was not made
  pub stops_emit : (old new : Seen) (why : Stop) → IsOutside why
      → IsPaid (effect (does (emit_step 5 file)) before) before old.steps new.steps
      → Fails why (does (emit_step 5 file)) before [] old new
      → StopsGenerated why lines file first old new
  stops_emit old new why outside paid fails = record {
    count = 3;
    move = does (emit_step 5 file);
    world = before;
    there = at-3;
    fails = fails;
    line = same_line why 5 file outside;
    steps = omega (arith, paid);
  }

  module _ (session : Held) (old mid : Seen)
      (paid : IsPaid (effect (does (emit_step 5 file)) before) before old.steps mid.steps)
      (made : Does (does (emit_step 5 file)) before session old mid) where
    -- the second feed was not set
    pub stops_second : (why : Stop) → why ≡ Memory
        → StopsGenerated why lines file first old mid
    stops_second why is =
        subst (λ (w : Stop). StopsGenerated w lines file first old mid) (sym is)
        (unset 4 (sets (SetFeed (the_feed true lines))) behind old mid at-4 refl refl made.now.tells
        made.printed (omega (arith, paid)))

    printed_again : Prints old.written mid.written again.text
    printed_again =
        prints_more old.written mid.written mid.written behind.text [] made.printed
        (prints_none mid.written mid.written refl)

    -- the second emit was not made
    pub stops_again : (new : Seen) (why : Stop) → IsOutside why
        → IsPaid (effect (does (emit_step 7 file)) again) again mid.steps new.steps
        → Fails why (does (emit_step 7 file)) again [] mid new
        → StopsGenerated why lines file first old new
    stops_again new why outside later fails = record {
      count = 5;
      move = does (emit_step 7 file);
      world = again;
      there = at-5;
      fails = record {
        files = fails.files;
        printed = tail_more why old.written mid.written new.written again.text
            (effect (does (emit_step 7 file)) again).text printed_again fails.printed;
      };
      line = same_line why 7 file outside;
      steps = omega (arith, paid, later);
    }

    -- all was made
    pub comes_generated : (session' : Held) (new : Seen)
        → IsPaid (effect (does (emit_step 7 file)) again) again mid.steps new.steps
        → Does (does (emit_step 7 file)) again session' mid new
        → IsDone (Some (gen lines file)) first old new
    unfolding gen_moves
    comes_generated session' new later last = record {
      moves = gen_moves lines file;
      start = gen_start first;
      last = wrote_second lines few file first;
      plan = refl;
      all = gen_course lines few file first;
      files = last.now.tells;
      printed = prints_more old.written mid.written new.written again.text
          (effect (does (emit_step 7 file)) again).text printed_again last.printed;
      steps = omega (arith, paid, later);
      published = λ move world reach.
          published_in (gen_moves lines file) (gen_start first) all_publish reach.count move world
          (at_planned (Some (gen lines file)) first (gen_moves lines file) (gen_start first) refl
          move world reach);
    }
      where
        all_publish : AllPublish (gen_moves lines file) (gen_start first)
        all_publish = (
          (refl, tt),
          (
            (refl, tt),
            (
              (refl, tt),
              (
                (made.free, made.published),
                (
                  (refl, tt),
                  ((last.free, last.published), tt),
                ),
              ),
            ),
          ),
        )

  -- the answer at a stop
  pub comes_stopped : (result : Status) (old new : Seen) (why : Stop)
      (written : Option (List ℕ)) (faults : ℕ) → IsOutside why
      → StopsGenerated why lines file first old new
      → IsStopped why result new.written written new.print_faults faults 0 file
      → old.print_faults ≤ new.print_faults
      → (puts puts_now : ℕ) → (why ≡ PutFailed → Rose puts puts_now)
      → (why ≡ SinkFailed → Rose old.print_faults faults)
      → Comes result (Some (gen lines file)) first old
      (seen new.told written faults new.steps) puts puts_now
  comes_stopped result old new why written faults outside stop closed rises puts puts_now put
      sink =
      let now = seen new.told written faults new.steps in
      let same = outside_same why closed.out outside closed.comes in
      let closes = subst (λ (w : Stop). ClosesAt w new.written written new.print_faults faults
      (stop_line w 0 file)) same closed.closes in
      subst (λ (s : Status). Comes s (Some (gen lines file)) first old now puts puts_now)
      (sym (closed.same ∙ ap status_of same))
      (by_cause (Some (gen lines file)) first (gen_moves lines file) (gen_start first) old now puts
      puts_now refl why stop.count stop.move stop.world stop.there stop.fails.files
      (leaves why stop.move stop.world old now new.written new.print_faults (stop_line why 0 file)
      stop.line stop.fails.printed closes rises) stop.steps put sink)

  -- so many steps may be taken, whatever the folder tells
  pub spent_in_all : (ending first (Some (gen lines file))).spent
      ≡ (emitted (second_set lines)).spent
  spent_in_all = ap (λ o. (ending_of o).spent) (gen_course lines few file first)

-- how it ends at a stop
pub ends_outside : (why : Stop) → IsOutside why → EndsGenerated (status_of why)
ends_outside why (inl is) = subst (λ (w : Stop). EndsGenerated (status_of w)) (sym is) tt
ends_outside why (inr (inl is)) = subst (λ (w : Stop). EndsGenerated (status_of w)) (sym is) tt
ends_outside why (inr (inr is)) = subst (λ (w : Stop). EndsGenerated (status_of w)) (sym is) tt

-- it is none that comes of words or of reads
pub outside_signs : (why : Stop) → IsOutside why → (status_of why ≡ statuses.Words → ⊥)
    × ((status_of why ≡ statuses.ReadFault → ⊥) × (status_of why ≡ statuses.Missing → ⊥))
outside_signs why (inl is) =
    subst (λ (w : Stop). (status_of w ≡ statuses.Words → ⊥)
    × ((status_of w ≡ statuses.ReadFault → ⊥) × (status_of w ≡ statuses.Missing → ⊥)))
    (sym is) ((λ e. cc), ((λ e. cc), (λ e. cc)))
outside_signs why (inr (inl is)) =
    subst (λ (w : Stop). (status_of w ≡ statuses.Words → ⊥)
    × ((status_of w ≡ statuses.ReadFault → ⊥) × (status_of w ≡ statuses.Missing → ⊥)))
    (sym is) ((λ e. cc), ((λ e. cc), (λ e. cc)))
outside_signs why (inr (inr is)) =
    subst (λ (w : Stop). (status_of w ≡ statuses.Words → ⊥)
    × ((status_of w ≡ statuses.ReadFault → ⊥) × (status_of w ≡ statuses.Missing → ⊥)))
    (sym is) ((λ e. cc), ((λ e. cc), (λ e. cc)))

-- ---- other commands

-- a command that reads files is not `gen`
pub none_generated : (result : Status) (command : Option Command) (old new : Seen)
    → reads_folder command ≡ true → Generates result command old new
none_generated result command old new reads = record {
  ends = λ lines file is. absurd (clash lines file is);
  bounded = λ lines file any is. absurd (clash lines file is);
}
  where
    clash : (lines : ℕ) (file : List ℕ) → command ≡ Some (gen lines file) → ⊥
    clash lines file is = let e = ap reads_folder is in cc

-- nor are words that are no command
pub no_words_generated : (result : Status) (command : Option Command) (old new : Seen)
    → is_command command ≡ false → Generates result command old new
no_words_generated result command old new none = record {
  ends = λ lines file is. absurd (clash lines file is);
  bounded = λ lines file any is. absurd (clash lines file is);
}
  where
    clash : (lines : ℕ) (file : List ℕ) → command ≡ Some (gen lines file) → ⊥
    clash lines file is = let e = ap is_command is in cc
