-- Reading a dump piece by piece: what was fed are the first bytes of the file, and a fault in them
-- is one of the whole.
use Rattle.std.proofs.Common.{◌≡◌, ℕ, ◌+◌, ◌<◌, ◌≤◌, ◌⊎◌, inl, inr, Bool, true, false, cond, List}
use Rattle.std.proofs.Common.{[], ◌++◌, length, take, drop, Option, Some, None, Ok, Err, refl, sym}
use Rattle.std.proofs.Common.{ap, subst, ◌∙◌, arith, length-append}
use Rattle.std.proofs.lemmas.List.{length-take, take-append-drop}
use Rattle.std.proofs.lemmas.Result.{MatchResult-weaker}
use Rattle.std.specs.FinMap as map
use Rattle.std.specs.Prelude.{IfErr, IfOk, IsSome, Result, nat_lt}
use Rattle.std.proofs.lemmas.Bool.Decides.{nat_tests}
use Rattle.geo_outside.specs.Files.{IsReadFrom, Told}
use Rattle.geo_outside.specs.declared.whole.TheConstants.{PIECE}
use Rattle.geo_outside.proofs.Reading.{AreFirst, first_all, first_more}
use Rattle.geo_terms.specs.SourceForm.{DumpParts}
use Rattle.geo_terms.specs.declared.source.SourceFault.{SourceFault}
use Rattle.geo_terms.specs.declared.source.SourceFault.TheVariants as faults
use Rattle.feed_refs.specs.Dumps.{dump, longest, most, so_far, whole_references}
use Rattle.feed_refs.specs.Readings.{Reading, reading}
use Rattle.feed_refs.proofs.ReadingLemmas.{end_fault, fault_stays}
use Rattle.job_run.specs.declared.stop.Cause.{Cause}
use Rattle.job_run.specs.declared.stop.Cause.TheVariants.{Missing}
use Rattle.job_run.specs.declared.stop.Stop.{Stop}
use Rattle.job_run.specs.declared.stop.Stop.TheVariants.{Blocked, ReadFailed, PutFailed, SinkFailed}
use Rattle.job_run.specs.declared.stop.Stop.TheVariants.{Memory}
use Rattle.job_run.specs.Dumps.{IsDump, IsReadNoFurther, no_dump, refusal}
use Rattle.job_run.specs.Stops.{IsHindered}

-- a reader was fed so many bytes, the first of the file, and found no fault in them
pub record HasRead (slot : List ℕ) (told : Option Told) (name : List ℕ) (reader : Reading)
    (fed : ℕ) : Type 0 where
  pub text : List ℕ
  pub count : fed ≡ length text
  pub is : reader ≡ reading slot text
  pub fine : (fed ≡ 0) ⊎ (refusal (so_far slot text) ≡ None)
  pub first : (w : Told) → told ≡ Some w → AreFirst (map.get w.held name) text

pub none_first : (held : Option (List ℕ)) → AreFirst held []
none_first None = refl
none_first (Some file) = refl

pub begun_read : (slot : List ℕ) (told : Option Told) (name : List ℕ) (reader : Reading)
    → reader ≡ reading slot [] → HasRead slot told name reader 0
begun_read slot told name reader is =
    record {
      text = [];
      count = refl;
      is = is;
      fine = inl refl;
      first =
          λ w told. none_first (map.get w.held name);
    }

pub at_slot : (slot text : List ℕ) (r : Reading) → r ≡ reading slot text → r ≡ reading r.slot text
at_slot slot text r is = is ∙ ap (λ s. reading s text) (sym (ap (λ q. q.slot) is))

slot_is : (slot text : List ℕ) (r : Reading) → r ≡ reading slot text → r.slot ≡ slot
slot_is slot text r is = ap (λ q. q.slot) is

-- the bytes of a file that were read so far, with one piece more
more_first : (slot : List ℕ) (told : Option Told) (name : List ℕ) (reader : Reading) (fed n : ℕ)
    (into piece : List ℕ) (h : HasRead slot told name reader fed) → n ≤ length into
    → piece ≡ take n into
    → (w : Told) → told ≡ Some w → IsSome (map.get w.held name)
    → ((file : List ℕ) → map.get w.held name ≡ Some file → IsReadFrom file fed into n)
    → AreFirst (map.get w.held name) (h.text ++ piece)
more_first slot told name reader fed n into piece h room is w e some read =
    first_more (map.get w.held name) h.text into (h.text ++ piece) fed n h.count room some read
    (ap (λ p. h.text ++ p) is) (h.first w e)

pub more_read : (slot : List ℕ) (told : Option Told) (name : List ℕ) (old new : Reading) (fed n : ℕ)
    (into piece : List ℕ)
    → HasRead slot told name old fed → n ≤ length into → piece ≡ take n into → length piece ≡ n
    → ((w : Told) → told ≡ Some w → IsSome (map.get w.held name))
    → ((w : Told) → told ≡ Some w → (file : List ℕ) → map.get w.held name ≡ Some file
    → IsReadFrom file fed into n)
    → ((text : List ℕ) → old ≡ reading old.slot text
    → (new ≡ reading old.slot (text ++ piece))
    × (refusal (so_far old.slot (text ++ piece)) ≡ None))
    → HasRead slot told name new (fed + n)
more_read slot told name old new fed n into piece h room is long some read takes =
    let taken = takes h.text (at_slot slot h.text old h.is) in
    let here = slot_is slot h.text old h.is in
    let count = h.count in
    record {
      text = h.text ++ piece;
      count = omega (arith, count, long, length-append h.text piece);
      is = taken.0 ∙ ap (λ s. reading s (h.text ++ piece)) here;
      fine = inr (ap (λ s. refusal (so_far s (h.text ++ piece))) (sym here) ∙ taken.1);
      first = λ w e. more_first slot told name old fed n into piece h room is w e (some w e)
          (read w e);
    }

-- a cause for which something is hindered is one for which something else is
pub hindered_more : (why : Stop) (P Q : Cause → Type 0) → ((cause : Cause) → P cause → Q cause)
    → IsHindered why P → IsHindered why Q
hindered_more (Blocked cause) P Q more h = more cause h
hindered_more ReadFailed P Q more h = h
hindered_more PutFailed P Q more h = h
hindered_more SinkFailed P Q more h = h
hindered_more Memory P Q more h = h

-- a fault in the first bytes of a file is one of the whole
whole_fault : (slot more : List ℕ) (held : Option (List ℕ)) (cause : Cause) → IsSome held
    → AreFirst held more → refusal (so_far slot more) ≡ Some cause → no_dump slot held ≡ Some cause
whole_fault slot more None cause some first refused = absurd (cc)
whole_fault slot more (Some file) cause some first refused =
    let whole : more ++ drop (length more) file ≡ file =
    ap (λ t. t ++ drop (length more) file) first ∙ take-append-drop (length more) file in
    let go : (r : Result (Unit {0}) SourceFault) → so_far slot more ≡ r → refusal r ≡ Some cause
    → refusal (dump slot file) ≡ Some cause =
    λ r. elim r as (λ (t : Result (Unit {0}) SourceFault). so_far slot more ≡ t
    → refusal t ≡ Some cause → refusal (dump slot file) ≡ Some cause) [
      | Ok fine ↦ λ is h. absurd (cc)
      | Err fault ↦ λ is h.
          ap (λ d. refusal d) (ap (λ t. dump slot t) (sym whole)
          ∙ end_fault slot (more ++ drop (length more) file) fault
          (fault_stays slot more (drop (length more) file) fault is)) ∙ h
    ] in
    go (so_far slot more) refl refused

pub piece_refused : (slot : List ℕ) (told : Option Told) (name : List ℕ) (reader : Reading)
    (fed n : ℕ) (into piece : List ℕ) (why : Stop) → (h : HasRead slot told name reader fed)
    → n ≤ length into → piece ≡ take n into
    → (w : Told) → told ≡ Some w → IsSome (map.get w.held name)
    → ((file : List ℕ) → map.get w.held name ≡ Some file → IsReadFrom file fed into n)
    → ((text : List ℕ) → reader ≡ reading reader.slot text
    → IsHindered why (λ cause. refusal (so_far reader.slot (text ++ piece)) ≡ Some cause))
    → IsHindered why (λ cause. no_dump slot (map.get w.held name) ≡ Some cause)
piece_refused slot told name reader fed n into piece why h room is w e some read refused =
    let here = slot_is slot h.text reader h.is in
    hindered_more why _ _ (λ cause q. whole_fault slot (h.text ++ piece)
    (map.get w.held name) cause some
    (more_first slot told name reader fed n into piece h room is w e some read)
    (ap (λ s. refusal (so_far s (h.text ++ piece))) (sym here) ∙ q))
    (refused h.text (at_slot slot h.text reader h.is))

-- the end of a file: all of it was read
all_read : (slot : List ℕ) (told : Option Told) (name : List ℕ) (reader : Reading) (fed n : ℕ)
    (into : List ℕ) (h : HasRead slot told name reader fed) → n ≡ 0
    → (w : Told) → told ≡ Some w → IsSome (map.get w.held name)
    → ((file : List ℕ) → map.get w.held name ≡ Some file → IsReadFrom file fed into n)
    → map.get w.held name ≡ Some h.text
all_read slot told name reader fed n into h none w e some read =
    first_all (map.get w.held name) h.text into fed n h.count none some read (h.first w e)

pub whole_found : (slot : List ℕ) (told : Option Told) (name : List ℕ) (reader : Reading)
    (fed n : ℕ) (into : List ℕ) (r : Result DumpParts Stop) → HasRead slot told name reader fed
    → n ≡ 0
    → (w : Told) → told ≡ Some w → IsSome (map.get w.held name)
    → ((file : List ℕ) → map.get w.held name ≡ Some file → IsReadFrom file fed into n)
    → ((text : List ℕ) → reader ≡ reading reader.slot text
    → IfOk r (λ found. dump reader.slot text ≡ Ok found))
    → IfOk r (IsDump slot (map.get w.held name))
whole_found slot told name reader fed n into r h none w e some read found =
    let here = slot_is slot h.text reader h.is in
    MatchResult-weaker r (found h.text (at_slot slot h.text reader h.is))
    (λ d is. record {
      bytes = h.text;
      there =
          all_read slot told name reader fed n into h none w e some read;
      is =
          ap (λ s. dump s h.text) (sym here) ∙ is;
    }) (λ _ x. x)

pub whole_refused : (slot : List ℕ) (told : Option Told) (name : List ℕ) (reader : Reading)
    (fed n : ℕ) (into : List ℕ) (r : Result DumpParts Stop) → HasRead slot told name reader fed
    → n ≡ 0
    → (w : Told) → told ≡ Some w → IsSome (map.get w.held name)
    → ((file : List ℕ) → map.get w.held name ≡ Some file → IsReadFrom file fed into n)
    → ((text : List ℕ) → reader ≡ reading reader.slot text
    → IfErr r (λ why. IsHindered why (λ cause. refusal (dump reader.slot text) ≡ Some cause)))
    → IfErr r (λ why. IsHindered why (λ cause. no_dump slot (map.get w.held name) ≡ Some cause))
whole_refused slot told name reader fed n into r h none w e some read refused =
    let here = slot_is slot h.text reader h.is in
    MatchResult-weaker r (refused h.text (at_slot slot h.text reader h.is)) (λ _ x. x)
    (λ why. hindered_more why _ _ (λ cause q.
    ap (λ held. no_dump slot held) (all_read slot told name reader fed n into h none w e some read)
    ∙ (ap (λ s. refusal (dump s h.text)) (sym here) ∙ q)))

-- no more was read than the bytes that a reader was fed, and one piece
pub none_further : (slot file : List ℕ) (given given_now : ℕ) → given_now ≤ given
    → IsReadNoFurther slot file given given_now
none_further slot file given given_now none =
    record { fine = 0; within = omega arith; unrefused = inl refl; read = omega (arith, none) }

pub no_further : (slot : List ℕ) (told : Option Told) (name : List ℕ) (reader : Reading) (fed : ℕ)
    → HasRead slot told name reader fed → (given given_now : ℕ) → given_now ≤ given + (fed + PIECE)
    → (w : Told) (file : List ℕ) → told ≡ Some w → map.get w.held name ≡ Some file
    → IsReadNoFurther slot file given given_now
no_further slot told name reader fed h given given_now read w file e is =
    let first : h.text ≡ take (length h.text) file =
    subst (λ held. AreFirst held h.text) is (h.first w e) in
    let count = h.count in
    record {
      fine = length h.text;
      within = omega (arith, ap length first, length-take (length h.text) file);
      unrefused = elim h.fine [
        | inl none ↦ inl (sym count ∙ none)
        | inr fine ↦ inr (ap (λ t. refusal (so_far slot t)) (sym first) ∙ fine)
      ];
      read = omega (arith, count, read);
    }

-- a file that is not there
pub read_hindered : (slot : List ℕ) (held : Option (List ℕ)) (why : Stop)
    → (why ≡ ReadFailed) ⊎ (why ≡ Blocked Missing) → (why ≡ Blocked Missing → held ≡ None)
    → IsHindered why (λ cause. no_dump slot held ≡ Some cause)
read_hindered slot held why causes absent =
    elim causes [
      | inl failed ↦ subst (λ s. IsHindered s (λ cause. no_dump slot held ≡ Some cause))
          (sym failed) tt
      | inr missing ↦ subst (λ s. IsHindered s (λ cause. no_dump slot held ≡ Some cause))
          (sym missing) (ap (λ h. no_dump slot h) (absent missing))
    ]

-- no dump of more bytes than a dump may have is fine
abbrev judged_by : Bool → Bool → Result (Unit {0}) SourceFault
judged_by many long = cond many (Err faults.TooMany) (cond long (Err faults.TooLong) (Ok tt))

judged_long : (many long : Bool) → long ≡ true → refusal (judged_by many long) ≡ None → ⊥
judged_long true long over fine = absurd (cc)
judged_long false true over fine = absurd (cc)
judged_long false false over fine = absurd (cc)

over : (most n : ℕ) → most < n → nat_lt most n ≡ true
over most n less = grind (arith, nat_tests)

pub long_refused : (slot text : List ℕ) → longest < length text → refusal (so_far slot text) ≡ None
    → ⊥
unfolding so_far
long_refused slot text long fine =
    judged_long (nat_lt most (length (whole_references slot text))) (nat_lt longest (length text))
    (over longest (length text) long) fine

pub not_long : (slot : List ℕ) (told : Option Told) (name : List ℕ) (reader : Reading) (fed : ℕ)
    → HasRead slot told name reader fed → longest < fed → ⊥
not_long slot told name reader fed h long =
    elim h.fine [
      | inl none ↦ absurd (omega (arith, none, long))
      | inr fine ↦ long_refused slot h.text (let count = h.count in omega (arith, count, long)) fine
    ]
