-- The moves of a job, part by part.
use Rattle.std.proofs.Common.{◌≡◌, ℕ, zero, suc, ◌+◌, ◌⊎◌, inl, inr, List, [], ◌∷◌, ◌++◌}
use Rattle.std.proofs.Common.{length, take, Option, Some, refl, sym, ◌∙◌, ap, subst, arith}
use Rattle.std.proofs.Common.{append_assoc}
use Rattle.std.specs.Prelude.{slice_get}
use Rattle.update_session.specs.Kept.{Held}
use Rattle.job_lines.specs.declared.act.Act.{Act}
use Rattle.job_lines.specs.declared.act.Act.TheVariants as acts
use Rattle.job_lines.specs.declared.job.Step.{Step}
use Rattle.job_run.specs.declared.stop.Stop.{Stop}
use Rattle.job_run.specs.declared.stop.Stop.TheVariants.{Blocked, ReadFailed, PutFailed, SinkFailed}
use Rattle.job_run.specs.declared.stop.Stop.TheVariants.{Memory}
use Rattle.job_run.specs.Acts.{Move, looks, counts, does, sets, shows, act_effect, after}
use Rattle.job_run.specs.Acts.{effect, step_of}
use Rattle.job_run.specs.Course.{Outcome, course, ended, go_on, unless, IsAt}
use Rattle.job_run.specs.Parts.{DoesPart, FailsAt, FailsPart}
use Rattle.job_run.specs.Published.{Publishes}
use Rattle.job_run.specs.Seen.{Seen, Prints}
use Rattle.job_run.specs.Sources.{file_named}
use Rattle.job_run.specs.Stops.{Does, DoesAll, Fails, IsIn, IsPaid, StopsAt, Tail}
use Rattle.job_run.specs.World.{World}
use Rattle.job_run.proofs.ActLemmas.{append_nil, prints_none}
use Rattle.job_run.proofs.CourseLemmas.{course-append}

-- the name of a move is that of its step's act
name_of_act : (act : Act) (world : World) → (act_effect act world).name ≡ file_named act
name_of_act (acts.Rpsl slot file) world = refl
name_of_act (acts.Stats slot file) world = refl
name_of_act (acts.Feed url file) world = refl
name_of_act (acts.Overrides file) world = refl
name_of_act (acts.Drop source) world = refl
name_of_act (acts.Emit file) world = refl
name_of_act acts.Report world = refl
name_of_act (acts.Mark name) world = refl
name_of_act (acts.Back name) world = refl
name_of_act acts.Compact world = refl

pub named_move : (move : Move) (step : Step) (world : World) → step_of move ≡ Some step
    → (effect move world).name ≡ file_named step.act
named_move (looks step) other world is = let e : step ≡ other = cc in
    ap (λ (s : Step). file_named s.act) e
named_move (counts step) other world is = let e : step ≡ other = cc in
    ap (λ (s : Step). file_named s.act) e
named_move (does step) other world is = let e : step ≡ other = cc in
    name_of_act step.act world ∙ ap (λ (s : Step). file_named s.act) e
named_move (sets change) other world is = absurd (cc)
named_move (shows last) other world is = absurd (cc)

-- a text is printed behind a text
pub prints_more : (old mid new : Option (List ℕ)) (text more : List ℕ) → Prints old mid text
    → Prints mid new more → Prints old new (text ++ more)
prints_more old mid new text more first then before was = then
    (before ++ text) (first before was) ∙ ap Some (append_assoc before text more)

prints_still : (old mid new : Option (List ℕ)) (text : List ℕ) → Prints old mid text
    → Prints mid new [] → Prints old new text
prints_still old mid new text first then before was = then
    (before ++ text) (first before was) ∙ ap Some (append_nil (before ++ text))

pub tail_more : (why : Stop) (old mid new : Option (List ℕ)) (text more part : List ℕ)
    → Prints old mid text → Tail why more part mid new → Tail why (text ++ more) part old new
tail_more (Blocked cause) old mid new text more part first tail =
    prints_more old mid new text more first tail
tail_more ReadFailed old mid new text more part first tail =
    prints_more old mid new text more first tail
tail_more PutFailed old mid new text more part first tail =
    prints_more old mid new text more first tail
tail_more SinkFailed old mid new text more part first tail = λ before was.
    let p = tail (before ++ text) (first before was) in (
      p.0,
      p.1 ∙ ap Some (append_assoc before text (more ++ take p.0 part)
          ∙ ap (λ (t : List ℕ). before ++ t) (sym (append_assoc text more (take p.0 part)))),
    )
tail_more Memory old mid new text more part first tail =
    prints_more old mid new text more first tail

-- an index in two lists: it is one of the first, or one of the second
get_either : (moves more : List Move) (count : ℕ) (move : Move)
    → slice_get (moves ++ more) count ≡ Some move
    → ((slice_get moves count ≡ Some move) × (take count (moves ++ more) ≡ take count moves))
    ⊎ ((k : ℕ) × (slice_get more k ≡ Some move)
    × (take count (moves ++ more) ≡ moves ++ take k more))
get_either [] more count move next = inr (count, next, refl)
get_either (first ∷ rest) more zero move next = inl (next, refl)
get_either (first ∷ rest) more (suc count) move next = elim (get_either rest more count move next) [
  | inl here ↦ inl (here.0, ap (λ (ms : List Move). first ∷ ms) here.1)
  | inr there ↦ inr (there.0, there.1, ap (λ (ms : List Move). first ∷ ms) there.2)
]

-- an index in the second of two lists, or in the first, is one in both together
get_after : (moves more : List Move) (k : ℕ)
    → (slice_get (moves ++ more) (length moves + k) ≡ slice_get more k)
    × (take (length moves + k) (moves ++ more) ≡ moves ++ take k more)
get_after [] more k = let e : 0 + k ≡ k = omega arith in
    (ap (slice_get more) e, ap (λ (n : ℕ). take n more) e)
get_after (first ∷ rest) more k =
    let p = get_after rest more k in
    let e : suc (length rest) + k ≡ suc (length rest + k) = omega arith in (
      ap (slice_get (first ∷ (rest ++ more))) e ∙ p.0,
      ap (λ (n : ℕ). take n (first ∷ (rest ++ more))) e ∙ ap (λ (ms : List Move). first ∷ ms) p.1,
    )

get_before : (moves more : List Move) (count : ℕ) (move : Move)
    → slice_get moves count ≡ Some move
    → (slice_get (moves ++ more) count ≡ Some move)
    × (take count (moves ++ more) ≡ take count moves)
get_before [] more count move next = absurd (cc)
get_before (first ∷ rest) more zero move next = (next, refl)
get_before (first ∷ rest) more (suc count) move next = let p =
    get_before rest more count move next in (p.0, ap (λ (ms : List Move). first ∷ ms) p.1)

-- two lists, one behind the other
course_both : (moves more : List Move) (start mid : World) → course moves start ≡ ended mid
    → course (moves ++ more) start ≡ course more mid
course_both moves more start mid done =
    course-append moves more start ∙ ap (λ (o : Outcome). go_on o more) done

ended_same : (a b : World) → ended a ≡ ended b → a ≡ b
ended_same a b is = cc

published_both : (moves more : List Move) (start mid : World) → course moves start ≡ ended mid
    → ((count : ℕ) (move : Move) (then : World) → IsAt moves start count move then
    → Publishes move then.session.state)
    → ((count : ℕ) (move : Move) (then : World) → IsAt more mid count move then
    → Publishes move then.session.state)
    → (count : ℕ) (move : Move) (then : World) → IsAt (moves ++ more) start count move then
    → Publishes move then.session.state
published_both moves more start mid done first second count move then there =
    elim (get_either moves more count move there.next) [
      | inl here ↦ first count move then
          (record {
            done = ap (λ (ms : List Move). course ms start) (sym here.1) ∙ there.done;
            next =
                here.0;
          })
      | inr later ↦ second later.0 move then (record {
        done = sym (course_both moves (take later.0 more) start mid done)
            ∙ ap (λ (ms : List Move). course ms start) (sym later.2) ∙ there.done;
        next = later.1;
      })
    ]

at_later : (moves more : List Move) (start mid : World) → course moves start ≡ ended mid
    → (count : ℕ) (move : Move) (then : World) → IsAt more mid count move then
    → IsAt (moves ++ more) start (length moves + count) move then
at_later moves more start mid done count move then there =
    let p = get_after moves more count in
    record {
      done = ap (λ (ms : List Move). course ms start) p.1
          ∙ course_both moves (take count more) start mid done ∙ there.done;
      next = p.0 ∙ there.next;
    }

at_before : (moves more : List Move) (start : World) (count : ℕ) (move : Move) (then : World)
    → IsAt moves start count move then → IsAt (moves ++ more) start count move then
at_before moves more start count move then there =
    let p = get_before moves more count move there.next in
    record { done = ap (λ (ms : List Move). course ms start) p.1 ∙ there.done; next = p.0 }

-- parts: none, one move, and one part behind another
pub part_none : (world : World) (session : Held) (now : Seen)
    → IsIn now.told session world → DoesPart [] world session now now
part_none world session now here = record {
  then = world;
  done = refl;
  stands = record { tells = here.tells; stands = here.stands };
  text = [];
  grown = sym (append_nil world.text);
  printed = prints_none now.written now.written refl;
  paid = omega arith;
  published = λ count move then there. absurd (let next = there.next in cc);
}

pub part_one : (move : Move) (world : World) (session : Held) (old new : Seen)
    → Does move world session old new → IsPaid (effect move world) world old.steps new.steps
    → DoesPart (move ∷ []) world session old new
part_one move world session old new made paid = record {
  then = after move world;
  done = ap (λ b. unless b move world (ended (after move world))) made.free;
  stands = made.now;
  text = (effect move world).text;
  grown = refl;
  printed = made.printed;
  paid = paid;
  published = λ count other then there. by count other then there;
}
  where
    by : (count : ℕ) (other : Move) (then : World) → IsAt (move ∷ []) world count other then
        → Publishes other then.session.state
    by zero other then there =
        let same : move ≡ other = (let next = there.next in cc) in
        let here : world ≡ then = ended_same world then there.done in
        subst (λ (m : Move). Publishes m then.session.state) same
        (subst (λ (w : World). Publishes move w.session.state) here made.published)
    by (suc count) other then there = absurd (let next = there.next in cc)

pub part_more : (moves more : List Move) (world : World) (session session' : Held)
    (old mid new : Seen) → (first : DoesPart moves world session old mid)
    → DoesPart more first.then session' mid new → DoesPart (moves ++ more) world session' old new
part_more moves more world session session' old mid new first second = record {
  then = second.then;
  done = course_both moves more world first.then first.done ∙ second.done;
  stands = record {
    tells = second.stands.tells;
    stands = second.stands.stands;
  };
  text = first.text ++ second.text;
  grown = second.grown ∙ ap (λ (t : List ℕ). t ++ second.text) first.grown
      ∙ append_assoc world.text first.text second.text;
  printed = prints_more old.written mid.written new.written first.text second.text first.printed
      second.printed;
  paid = (let p = first.paid in let q = second.paid in omega (arith, p, q));
  published = published_both moves more world first.then first.done first.published
      second.published;
}

-- a part that fails: at its one move, behind other moves, and before other moves
pub fails_one : (why : Stop) (move : Move) (step : Step) (world : World) (old new : Seen)
    → step_of move ≡ Some step → Fails why move world [] old new
    → IsPaid (effect move world) world old.steps new.steps
    → FailsPart why (move ∷ []) step world old new
fails_one why move step world old new its fails paid = record {
  count = 0;
  move = move;
  then = world;
  there = record { done = refl; next = refl };
  its = its;
  text = [];
  grown = sym (append_nil world.text);
  fails = fails;
  paid = paid;
}

pub fails_later : (why : Stop) (moves more : List Move) (step : Step) (world : World)
    (session : Held) (old mid new : Seen) → (first : DoesPart moves world session old mid)
    → FailsPart why more step first.then mid new → FailsPart why (moves ++ more) step world old new
fails_later why moves more step world session old mid new first second = record {
  count = length moves + second.count;
  move = second.move;
  then = second.then;
  there = at_later moves more world first.then first.done second.count second.move second.then
      second.there;
  its = second.its;
  text = first.text ++ second.text;
  grown = second.grown ∙ ap (λ (t : List ℕ). t ++ second.text) first.grown
      ∙ append_assoc world.text first.text second.text;
  fails = record {
    files = second.fails.files;
    printed = tail_more why old.written mid.written new.written first.text second.text
        (effect second.move second.then).text first.printed second.fails.printed;
  };
  paid = (let p = first.paid in let q = second.paid in omega (arith, p, q));
}

pub fails_before : (why : Stop) (moves more : List Move) (step : Step) (world : World)
    (old new : Seen) → FailsPart why moves step world old new
    → FailsPart why (moves ++ more) step world old new
fails_before why moves more step world old new part = record {
  count = part.count;
  move = part.move;
  then = part.then;
  there = at_before moves more world part.count part.move part.then part.there;
  its = part.its;
  text = part.text;
  grown = part.grown;
  fails = part.fails;
  paid = part.paid;
}

-- the whole of a job, from where nothing was printed
pub all_of : (moves : List Move) (start : World) (session : Held) (old new : Seen) → start.text ≡ []
    → DoesPart moves start session old new → DoesAll moves start session old new
all_of moves start session old new blank part = record {
  world = part.then;
  done = part.done;
  stands = part.stands;
  printed = subst (Prints old.written new.written)
      (sym (part.grown ∙ ap (λ (t : List ℕ). t ++ part.text) blank)) part.printed;
  steps = part.paid;
  published = part.published;
}

pub stop_of : (why : Stop) (moves : List Move) (steps : List Step) (at : ℕ) (start : World)
    (old new : Seen) → start.text ≡ [] → FailsAt why moves steps at start old new
    → StopsAt why at moves steps start old new
stop_of why moves steps at start old new blank failed =
    let part = failed.part in
    let same : part.text ≡ part.then.text =
    sym (part.grown ∙ ap (λ (t : List ℕ). t ++ part.text) blank) in
    record {
      step = failed.step;
      named = failed.named;
      count = part.count;
      move = part.move;
      world = part.then;
      there = part.there;
      its = part.its;
      fails = subst (λ (t : List ℕ). Fails why part.move part.then t old new) same part.fails;
      spent = part.paid;
    }

-- all moves of a list, and one more behind them
pub does_more : (moves : List Move) (start : World) (session session' : Held) (old mid new : Seen)
    (all : DoesAll moves start session old mid) (move : Move)
    → IsPaid (effect move all.world) all.world mid.steps new.steps
    → Does move all.world session' mid new → DoesAll (moves ++ move ∷ []) start session' old new
unfolding part_one
does_more moves start session session' old mid new all move paid made =
    let one = part_one move all.world session' mid new made paid in
    record {
      world = one.then;
      done = course_both moves (move ∷ []) start all.world all.done ∙ one.done;
      stands = record {
        tells = one.stands.tells;
        stands = one.stands.stands;
      };
      printed = prints_more old.written mid.written new.written all.world.text
          (effect move all.world).text all.printed made.printed;
      steps = (let p = all.steps in let q = one.paid in omega (arith, p, q));
      published = published_both moves
          (move ∷ []) start all.world all.done all.published one.published;
    }
