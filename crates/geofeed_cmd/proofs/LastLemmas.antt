-- How a command's answer follows from its last move, behind the sources of its job.
use Rattle.std.proofs.Common.{◌≡◌, ℕ, zero, suc, ◌+◌, ◌≤◌, ◌⊎◌, inl, inr, List, [], ◌∷◌, ◌++◌}
use Rattle.std.proofs.Common.{length, take, refl, sym, ◌≢◌}
use Rattle.std.proofs.Common.{◌∙◌, ap, subst, arith, append_assoc}
use Rattle.std.proofs.lemmas.List.{take-append-le}
use Rattle.std.proofs.lemmas.Option.{slice_get_within}
use Rattle.std.proofs.Math.Seq.{take-append_seam}
use Rattle.std.specs.Prelude.{Option, Some, slice_get, Result, Ok, Err, IfErr}
use Rattle.geo_outside.specs.Count.{Rose}
use Rattle.geo_outside.specs.Files.{Told}
use Rattle.trie_core.proofs.StoreLemmas.{slice_get-append, slice_get_last}
use Rattle.update_session.specs.Kept.{Held}
use Rattle.job_lines.specs.Commands.{Command}
use Rattle.job_run.specs.declared.stop.Cause.{Cause}
use Rattle.job_run.specs.declared.stop.Cause.TheVariants as causes
use Rattle.job_run.specs.declared.stop.Stop.{Stop}
use Rattle.job_run.specs.declared.stop.Stop.TheVariants as stops
use Rattle.job_run.specs.Acts.{Move, shows, after, effect, line_of}
use Rattle.job_run.specs.Course.{course, ended, unless, go_on, IsAt}
use Rattle.job_run.specs.Published.{Publishes}
use Rattle.job_run.specs.Seen.{Seen, seen, Prints}
use Rattle.job_run.specs.Stops.{Does, DoesAll, Fails, Halts, IsIn, IsPaid, Tail}
use Rattle.job_run.specs.World.{World, printing}
use Rattle.job_run.proofs.CourseLemmas.{course-append}
use Rattle.geofeed_cmd.specs.Run.Answers.{Comes, IsDone}
use Rattle.geofeed_cmd.specs.declared.status.Status.{Status}
use Rattle.geofeed_cmd.specs.Run.Lines.{stop_line}
use Rattle.geofeed_cmd.specs.Run.Plans.{plan_of, planned}
use Rattle.geofeed_cmd.specs.Run.Stopped.{IsStopped}
use Rattle.geofeed_cmd.proofs.AnswerLemmas.{at_planned, by_cause}
use Rattle.geofeed_cmd.proofs.CloseLemmas.{append-nil, fails_as, leaves, put_as, sink_as}

-- a move of a list is one of the list with more behind it
pub at_longer : (moves more : List Move) (start : World) (count : ℕ) (move : Move) (world : World)
    → IsAt moves start count move world → IsAt (moves ++ more) start count move world
at_longer moves more start count move world there =
    let within = slice_get_within moves count move there.next in
    let same = take-append-le count moves more (omega arith) in
    record {
      done = ap (λ (ms : List Move). course ms start) same ∙ there.done;
      next = slice_get-append moves more count move there.next;
    }

-- the move behind a list
pub at_last : (moves : List Move) (last : Move) (start world : World)
    → course moves start ≡ ended world → IsAt (moves ++ last ∷ []) start (length moves) last world
at_last moves last start world done = record {
  done = ap (λ (ms : List Move). course ms start) (take-append_seam moves (last ∷ [])) ∙ done;
  next = slice_get_last moves last;
}

pub prints_more : (old mid new : Option (List ℕ)) (text more : List ℕ)
    → Prints old mid text → Prints mid new more → Prints old new (text ++ more)
prints_more old mid new text more first then before was =
    then (before ++ text) (first before was) ∙ ap Some (append_assoc before text more)

pub prints_still : (old mid new : Option (List ℕ)) (text : List ℕ)
    → Prints old mid text → Prints mid new [] → Prints old new text
prints_still old mid new text first then before was =
    then (before ++ text) (first before was) ∙ ap Some (append-nil (before ++ text))

pub tail_more : (why : Stop) (old mid new : Option (List ℕ)) (text part : List ℕ)
    → Prints old mid text → Tail why [] part mid new → Tail why text part old new
tail_more (stops.Blocked cause) old mid new text part first tail =
    prints_still old mid new text first tail
tail_more stops.ReadFailed old mid new text part first tail =
    prints_still old mid new text first tail
tail_more stops.PutFailed old mid new text part first tail =
    prints_still old mid new text first tail
tail_more stops.SinkFailed old mid new text part first tail = λ before was.
    let p = tail (before ++ text) (first before was) in
    (p.0, p.1 ∙ ap Some (append_assoc before text (take p.0 part)))
tail_more stops.Memory old mid new text part first tail = prints_still old mid new text first tail

-- a position in a list with one member more: it is one of the list's, or the last
pub data Position (moves : List Move) (last : Move) (count : ℕ) (move : Move) : Type 0 where
  among : slice_get moves count ≡ Some move
      → take count (moves ++ last ∷ []) ≡ take count moves → Position moves last count move
  at_end : last ≡ move → take count (moves ++ last ∷ []) ≡ moves → Position moves last count move

position_in : (moves : List Move) (last : Move) (count : ℕ) (move : Move)
    → slice_get (moves ++ last ∷ []) count ≡ Some move → Position moves last count move
position_in [] last zero move next = at_end (cc) refl
position_in [] last (suc count) move next = absurd (cc)
position_in (first ∷ rest) last zero move next = among next refl
position_in (first ∷ rest) last (suc count) move next =
    elim (position_in rest last count move next) [
      | among here same ↦ among here (ap (λ (ms : List Move). first ∷ ms) same)
      | at_end is same ↦ at_end is (ap (λ (ms : List Move). first ∷ ms) same)
    ]

module _ (command : Option Command) (first : Told) (moves : List Move) (last : Move) (start : World)
    (plan : plan_of first command ≡ planned (moves ++ last ∷ []) start)
    (unspent : start.session.spent ≡ 0)
    (session : Held) (old mid : Seen) (all : DoesAll moves start session old mid) where
  -- the last move was made
  pub comes_last : (session' : Held) (new : Seen)
      → IsPaid (effect last all.world) all.world mid.steps new.steps
      → Does last all.world session' mid new → IsDone command first old new
  comes_last session' new paid made = record {
    moves = moves ++ last ∷ [];
    start = start;
    last = after last all.world;
    plan = plan;
    all = course-append moves (last ∷ []) start ∙ ap (λ o. go_on o (last ∷ [])) all.done
        ∙ ap (λ b. unless b last all.world (ended (after last all.world))) made.free;
    files = made.now.tells;
    printed =
        prints_more old.written mid.written new.written all.world.text (effect last all.world).text
        all.printed made.printed;
    steps = (let p = all.steps in omega (arith, p, paid, unspent));
    published = λ move world reach.
        let there = at_planned command first (moves ++ last ∷ []) start plan move world reach in
        elim (position_in moves last reach.count move there.next) [
          | among here same ↦ all.published reach.count move world
              (record {
                done = ap (λ (ms : List Move). course ms start) (sym same) ∙ there.done;
                next = here;
              })
          | at_end is same ↦
              let both : ended all.world ≡ ended world =
              sym all.done ∙ ap (λ (ms : List Move). course ms start) (sym same) ∙ there.done in
              let one : all.world ≡ world = cc in
              subst (λ (m : Move). Publishes m world.session.state) is
              (subst (λ (w : World). Publishes last w.session.state) one made.published)
        ];
  }

  -- the last move was not made, and a line was printed behind
  pub comes_unmade : (why : Stop) (result : Status) (new : Seen) (written : Option (List ℕ))
      (faults : ℕ) (name : List ℕ) → line_of last ≡ 0 → name ≡ (effect last all.world).name
      → IsPaid (effect last all.world) all.world mid.steps new.steps
      → Fails why last all.world [] mid new
      → IsStopped why result new.written written new.print_faults faults 0 name
      → old.print_faults ≤ new.print_faults
      → (puts puts_now : ℕ) → (why ≡ stops.PutFailed → Rose puts puts_now)
      → (why ≡ stops.SinkFailed → Rose old.print_faults faults)
      → Comes result command first old
      (seen new.told written faults new.steps) puts puts_now
  comes_unmade why result new written faults name lineless named paid fails closed rises puts
      puts_now put sink =
      let now = seen new.told written faults new.steps in
      let out = closed.out in
      let is : stop_line out 0 name ≡ stop_line out (line_of last) (effect last all.world).name =
      ap (λ n. stop_line out n name) (sym lineless) ∙ ap (stop_line out (line_of last)) named in
      let stop = fails_as why out closed.comes last all.world [] mid new fails in
      let printed =
      tail_more out old.written mid.written new.written all.world.text (effect last all.world).text
      all.printed stop.printed in
      let steps : now.steps ≤ old.steps + (effect last all.world).session.spent =
      let p = all.steps in omega (arith, p, paid, unspent) in
      subst (λ s. Comes s command first old now puts puts_now) (sym closed.same)
      (by_cause command first (moves ++ last ∷ []) start old now puts puts_now plan out
      (length moves) last all.world
      (at_last moves last start all.world all.done) stop.files
      (leaves out last all.world old now new.written new.print_faults (stop_line out 0 name) is
      printed closed.closes rises)
      steps (λ failed. put (put_as why out closed.comes failed))
      (λ failed. sink (sink_as why out closed.comes failed)))

-- a last move that only prints
module _ (text : World → List ℕ) (world : World) (session : Held) (old new : Seen)
    (here : IsIn old.told session world) (same : new.told ≡ old.told) where
  abbrev shown : Move
  shown = shows (λ w. printing (text w) w)

  pub does_shown : Prints old.written new.written (text world) → Does shown world session old new
  does_shown printed = record {
    free = refl;
    now = record { tells = same ∙ here.tells; stands = here.stands };
    printed = printed;
    published = tt;
  }

  pub fails_shown : (why : Stop) → (why ≡ stops.SinkFailed) ⊎ (why ≡ stops.Memory)
      → Tail why [] (text world) old.written new.written → Fails why shown world [] old new
  fails_shown why causes tail = record {
    files = elim causes [
      | inl failed ↦ subst (λ w. Halts w shown world new.told) (sym failed)
          (record { prints = tt; free = refl; files = same ∙ here.tells })
      | inr out ↦
          subst (λ w. Halts w shown world new.told) (sym out) (inl (same ∙ here.tells))
    ];
    printed = tail;
  }

-- a last move that stops for one of these causes reads nothing
pub reads_nothing : (cause : Cause) → cause ≢ causes.Missing → cause ≢ causes.Words → (why : Stop)
    → (why ≡ stops.Blocked cause)
    ⊎ ((why ≡ stops.PutFailed) ⊎ ((why ≡ stops.SinkFailed) ⊎ (why ≡ stops.Memory)))
    → (why ≢ stops.ReadFailed) × (why ≢ stops.Blocked causes.Missing)
    × (why ≢ stops.Blocked causes.Words)
reads_nothing cause there words why (inl blocks) =
    ((λ is. cc), (λ is. there (cc)), (λ is. words (cc)))
reads_nothing cause there words why (inr (inl put)) = ((λ is. cc), (λ is. cc), (λ is. cc))
reads_nothing cause there words why (inr (inr (inl sink))) =
    ((λ is. cc), (λ is. cc), (λ is. cc))
reads_nothing cause there words why (inr (inr (inr memory))) =
    ((λ is. cc), (λ is. cc), (λ is. cc))

-- a last move that puts nothing stops for one of these
abbrev pub Unput : Cause → Stop → Type 0
Unput cause why =
    (why ≡ stops.Blocked cause) ⊎ ((why ≡ stops.SinkFailed) ⊎ (why ≡ stops.Memory))

pub reads_unput : (cause : Cause) → cause ≢ causes.Missing → cause ≢ causes.Words → (why : Stop)
    → Unput cause why
    → (why ≢ stops.ReadFailed) × (why ≢ stops.Blocked causes.Missing)
    × (why ≢ stops.Blocked causes.Words)
reads_unput cause there words why (inl blocks) =
    reads_nothing cause there words why (inl blocks)
reads_unput cause there words why (inr more) =
    reads_nothing cause there words why (inr (inr more))

pub not_put : (cause : Cause) (result : Result (Unit {0}) Stop) → IfErr result (Unput cause)
    → result ≢ Err stops.PutFailed
not_put cause (Ok done) causes is = cc
not_put cause (Err why) (inl blocks) is = cc
not_put cause (Err why) (inr (inl sink)) is = cc
not_put cause (Err why) (inr (inr memory)) is = cc
