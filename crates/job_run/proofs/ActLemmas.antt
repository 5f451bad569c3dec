-- What one step does, and why it stops.
use Rattle.std.proofs.Common.{◌≡◌, ℕ, ◌+◌, ◌^◌, ◌<◌, ◌≤◌, ◌⊎◌, inl, inr, Bool, true, false, cond}
use Rattle.std.proofs.Common.{ltb, leb, List, [], ◌∷◌, ◌++◌, length, Option, Some, None, Result, Ok}
use Rattle.std.proofs.Common.{Err, refl, sym, ◌∙◌, ap, subst, arith}
use Rattle.std.specs.Prelude.{IfErr, OnOk, IsSomeAnd, option_map, option_and_then}
use Rattle.std.proofs.lemmas.Bool.{lt-ltb, le-ltb, leb-true, leb-false}
use Rattle.geo_terms.specs.Report.{report}
use Rattle.mmdb_file.specs.FileImage.{fresh}
use Rattle.mmdb_tree.specs.Nodes.{smallest, record_size}
use Rattle.mmdb_tree.specs.declared.bits.Bits.{Bits}
use Rattle.mmdb_tree.specs.declared.bits.Bits.TheVariants.{B24, B28, B32}
use Rattle.source_changes.specs.Changes.{Change}
use Rattle.update_session.specs.Kept.{Held}
use Rattle.update_session.specs.Standing.{Standing, Stands, StandingStays}
use Rattle.update_session.specs.State.{State, FileValue, file_of, is_too_large, node_count}
use Rattle.update_session.specs.State.{section_length}
use Rattle.job_lines.specs.declared.act.Act.{Act}
use Rattle.job_lines.specs.declared.act.Act.TheVariants.{Drop, Emit, Report}
use Rattle.geo_terms.specs.declared.note.Origin.{Origin}
use Rattle.job_lines.specs.declared.job.Step.{Step}
use Rattle.job_run.specs.declared.stop.Cause.{Cause}
use Rattle.job_run.specs.declared.stop.Cause.TheVariants.{Missing, NotThere, TooLong, TooMany}
use Rattle.job_run.specs.declared.stop.Stop.{Stop}
use Rattle.job_run.specs.declared.stop.Stop.TheVariants.{Blocked, ReadFailed, PutFailed, SinkFailed}
use Rattle.job_run.specs.declared.stop.Stop.TheVariants.{Memory}
use Rattle.job_run.specs.Acts.{act_effect, does, effect, report_text, set_effect}
use Rattle.job_run.specs.Seen.{Seen, Prints}
use Rattle.job_run.specs.Sources.{IsDropped, IsSet, change_by, crowded, file_named, is_there}
use Rattle.job_run.specs.Sources.{no_source, sourced, uncounted, unreadable, unusable}
use Rattle.job_run.specs.Stops.{Does, Fails, Halts, IsHindered, IsIn, IsPaid, Tail}
use Rattle.job_run.specs.World.{World, Effect, file_in, made}

-- whether a file can be read whole
pub unreadable-none : (limit : ℕ) (held : Option (List ℕ)) → held ≡ None
    → unreadable limit held ≡ Some Missing
unfolding unreadable
unreadable-none limit held none = ap (unreadable limit) none

pub unreadable-long : (limit : ℕ) (held : Option (List ℕ))
    → IsSomeAnd held (λ file. limit < length file) → unreadable limit held ≡ Some TooLong
unfolding unreadable
unreadable-long limit None long = absurd long
unreadable-long limit (Some file) long =
    ap (λ b. cond b (Some TooLong) None) (lt-ltb limit (length file) long)

pub readable : (limit : ℕ) (file : List ℕ) → length file ≤ limit
    → unreadable limit (Some file) ≡ None
unfolding unreadable
readable limit file fits = ap (λ b. cond b (Some TooLong) None) (le-ltb limit (length file) fits)

pub held_long : (limit : ℕ) (held : Option (List ℕ)) (file : List ℕ) → held ≡ Some file
    → limit < length file → unreadable limit held ≡ Some TooLong
held_long limit held file is long =
    ap (unreadable limit) is ∙ unreadable-long limit (Some file) long

-- whether bytes have too many statements
pub crowded-many : (room statements : ℕ) → room < statements
    → crowded room statements ≡ Some TooMany
unfolding crowded
crowded-many room statements many =
    ap (λ b. cond b (Some TooMany) None) (lt-ltb room statements many)

pub crowded-few : (room statements : ℕ) → statements ≤ room → crowded room statements ≡ None
unfolding crowded
crowded-few room statements few = ap (λ b. cond b (Some TooMany) None) (le-ltb room statements few)

-- so whether a file is a source
pub unusable-unread : (limit room : ℕ) (statements : List ℕ → ℕ) (held : Option (List ℕ))
    (cause : Cause) → unreadable limit held ≡ Some cause
    → unusable limit room statements held ≡ Some cause
unusable-unread limit room statements held cause is =
    ap (λ why. uncounted why room statements held) is

pub unusable-read : (limit room : ℕ) (statements : List ℕ → ℕ) (file : List ℕ)
    → unreadable limit (Some file) ≡ None
    → unusable limit room statements (Some file) ≡ crowded room (statements file)
unusable-read limit room statements file is =
    ap (λ why. uncounted why room statements (Some file)) is

pub le_from : (a b : ℕ) → (b < a → ⊥) → a ≤ b
le_from a b never = by (leb a b) refl
  where
    by : (t : Bool) → leb a b ≡ t → a ≤ b
    by true is = leb-true a b is
    by false is = absurd (never (leb-false a b is))

-- a file with few bytes and few statements, or with too many
pub usable : (limit room : ℕ) (statements : List ℕ → ℕ) (file : List ℕ) → (limit < length file → ⊥)
    → statements file ≤ room → unusable limit room statements (Some file) ≡ None
usable limit room statements file short few =
    unusable-read limit room statements file
    (readable limit file (le_from (length file) limit short))
    ∙ crowded-few room (statements file) few

pub too_many : (limit room : ℕ) (statements : List ℕ → ℕ) (file : List ℕ)
    → (limit < length file → ⊥) → room < statements file
    → unusable limit room statements (Some file) ≡ Some TooMany
too_many limit room statements file short many =
    unusable-read limit room statements file
    (readable limit file (le_from (length file) limit short))
    ∙ crowded-many room (statements file) many

pub too_long : (limit room : ℕ) (statements : List ℕ → ℕ) (file : List ℕ) → limit < length file
    → unusable limit room statements (Some file) ≡ Some TooLong
too_long limit room statements file long =
    unusable-unread limit room statements (Some file) TooLong
    (unreadable-long limit (Some file) long)

-- a file that is not there is no source
pub lacks : {A : Type 0} (limit room : ℕ) (statements : List ℕ → ℕ) (held : Option (List ℕ))
    → A ⊎ (held ≡ None) → A ⊎ (unusable limit room statements held ≡ Some Missing)
lacks limit room statements held (inl rose) = inl rose
lacks limit room statements held (inr none) =
    inr (unusable-unread limit room statements held Missing (unreadable-none limit held none))

-- a stop for one cause is one for another that follows
pub hindered : (why : Stop) (P Q : Cause → Type 0) → IsHindered why P
    → ((cause : Cause) → P cause → Q cause) → IsHindered why Q
hindered (Blocked cause) P Q stop give = give cause stop
hindered ReadFailed P Q stop give = tt
hindered PutFailed P Q stop give = stop
hindered SinkFailed P Q stop give = stop
hindered Memory P Q stop give = tt

-- the bytes of an emitted file are those of a fresh build
made_of : (sizes : Option Bits) (bytes : Option (List ℕ)) (nodes section : ℕ) (file : FileValue)
    → option_and_then (λ bits. option_map
    (λ bytes. record { bytes = bytes; nodes = nodes; section = section; bits = record_size bits })
    bytes) sizes ≡ Some file → bytes ≡ Some file.bytes
made_of None bytes nodes section file is = absurd (let e : None ≡ Some file = is in cc)
made_of (Some bits) None nodes section file is = absurd (let e : None ≡ Some file = is in cc)
made_of (Some bits) (Some bytes) nodes section file is =
    let made : FileValue = record
    { bytes = bytes; nodes = nodes; section = section; bits = record_size bits } in
    let e : Some made ≡ Some file = is in
    let same : made ≡ file = cc in
    ap (λ (f : FileValue). Some f.bytes) same

pub fresh_is : (state : State) (file : FileValue) → file_of state ≡ Some file
    → fresh state.sources state.epoch state.name ≡ Some file.bytes
unfolding file_of
fresh_is state file is =
    made_of (smallest (node_count state + 16 + section_length state))
    (fresh state.sources state.epoch state.name) (node_count state)
    (section_length state) file is

-- a file that there is is not too large
sized : (sizes : Option Bits) (make : Bits → Option FileValue) (file : FileValue)
    → option_and_then make sizes ≡ Some file → sizes ≡ None → ⊥
sized None make file is none = (let e : None ≡ Some file = is in cc)
sized (Some bits) make file is none = cc

none_holds : (n : ℕ) → 2 ^ 32 ≤ n → smallest n ≡ None
none_holds n past =
    ap (λ b. cond b (Some B24) (cond (ltb n (2 ^ 28)) (Some B28)
    (cond (ltb n (2 ^ 32)) (Some B32) None))) (le-ltb n (2 ^ 24) (omega arith))
    ∙ ap (λ b. cond b (Some B28) (cond (ltb n (2 ^ 32)) (Some B32) None))
    (le-ltb n (2 ^ 28) (omega arith))
    ∙ ap (λ b. cond b (Some B32) None) (le-ltb n (2 ^ 32) past)

held_below : (n : ℕ) → (smallest n ≡ None → ⊥) → leb (2 ^ 32) n ≡ false
held_below n some = by (leb (2 ^ 32) n) refl
  where
    by : (b : Bool) → leb (2 ^ 32) n ≡ b → leb (2 ^ 32) n ≡ false
    by true is = absurd (some (none_holds n (leb-true (2 ^ 32) n is)))
    by false is = is

pub not_too_large : (state : State) (file : FileValue) → file_of state ≡ Some file
    → is_too_large state ≡ false
unfolding file_of is_too_large
not_too_large state file is =
    held_below (node_count state + 16 + section_length state)
    (sized (smallest (node_count state + 16 + section_length state)) _ file is)

pub append_nil : (xs : List ℕ) → xs ++ [] ≡ xs
append_nil [] = refl
append_nil (x ∷ xs) = ap (λ ys. x ∷ ys) (append_nil xs)

-- nothing was printed
pub prints_none : (old new : Option (List ℕ)) → new ≡ old → Prints old new []
prints_none old new same before was = same ∙ was ∙ ap Some (sym (append_nil before))

-- what holds of why a result is none, for each cause
pub for_err : (result : Result Unit Stop) (P Q : Stop → Type 0) → IfErr result P
    → ((why : Stop) → P why → Q why) → IfErr result Q
for_err (Ok done) P Q cause give = tt
for_err (Err why) P Q cause give = give why cause

pub for_both : (result : Result Unit Stop) (P Q R : Stop → Type 0) → IfErr result P → IfErr result Q
    → ((why : Stop) → P why → Q why → R why) → IfErr result R
for_both (Ok done) P Q R p q give = tt
for_both (Err why) P Q R p q give = give why p q

pub for_cause : (result : Result Unit Stop) (cause : Cause) (P : Type 0)
    → (result ≡ Err (Blocked cause) → P) → IfErr result (λ why. why ≡ Blocked cause → P)
for_cause (Ok done) cause P gives = tt
for_cause (Err why) cause P gives = λ is. gives (ap Err is)

-- what holds of why a result is none, beside that it is so
pub with_why : (result : Result Unit Stop) (P : Stop → Type 0) → IfErr result P
    → IfErr result (λ why. (result ≡ Err why) × P why)
with_why (Ok done) P cause = tt
with_why (Err why) P cause = (refl, cause)

pub both_ok : (result : Result Unit Stop) (P Q : Type 0) → OnOk result P → OnOk result Q
    → OnOk result (P × Q)
both_ok (Ok done) P Q p q = (p, q)
both_ok (Err why) P Q p q = tt

-- what follows where a step was done
pub for_ok : (result : Result Unit Stop) (P Q : Type 0) → OnOk result P → (P → Q) → OnOk result Q
for_ok (Ok done) P Q holds give = give holds
for_ok (Err why) P Q holds give = tt

-- the step of this line with another act
abbrev pub at_line : Step → Act → Step
at_line step act = record { line = step.line; act = act }

-- a change takes no step
pub sourced_spent : (change : Option Change) (w : Standing) → (sourced change w).spent ≡ w.spent
sourced_spent None w = refl
sourced_spent (Some change) w = refl

-- an act that reads a file and sets its source
module _ (stays : StandingStays) (step : Step) (world : World) (act : Act) (session : Held)
    (is : step.act ≡ act) (sets : act_effect act world ≡ set_effect act world)
    (old new : Seen) (here : IsIn old.told session world) (same : new.told ≡ old.told) where
  set_here : (session' : Held) → (held : Option (List ℕ)) → IsSet act held session session'
      → Stands session' (sourced (change_by act held) world.session)
  set_here session' held set =
      subst (λ (c : Option Change). Stands session' (sourced c world.session)) (sym set.is)
      (stays.changes set.change session session' world.session here.stands set.has)

  pub does_set : (session' : Held) → ((name : List ℕ) → act ≡ Emit name → ⊥)
      → old.written ≡ new.written
      → IsSet act (file_in world (file_named act)) session session'
      → Does (does step) world session' old new
  does_set session' quiet silent set =
      subst (λ (a : Act). Does (does (at_line step a)) world session' old new) (sym is) (record {
        free = ap (λ (e : Effect). e.blocked) sets ∙ set.usable;
        now = subst (λ (e : Effect). IsIn new.told session' (made e world)) (sym sets)
            (record {
              tells = same ∙ here.tells;
              stands =
                  set_here session' (file_in world (file_named act)) set;
            });
        printed = subst (λ (e : Effect). Prints old.written new.written e.text) (sym sets)
            (prints_none old.written new.written (sym silent));
        published = λ other emits. absurd (quiet other emits);
      })

  halts_set : (why : Stop) → IsHindered why
      (λ cause. no_source act (file_in world (file_named act)) ≡ Some cause)
      → Halts why (does (at_line step act)) world new.told
  halts_set (Blocked cause) stop =
      inl (record { cause = ap (λ (e : Effect). e.blocked) sets ∙ stop; files = same ∙ here.tells })
  halts_set ReadFailed stop = record
      { reading = ap (λ (e : Effect). e.files) sets; files = same ∙ here.tells }
  halts_set PutFailed stop = absurd stop
  halts_set SinkFailed stop = absurd stop
  halts_set Memory stop = inl (same ∙ here.tells)

  tail_set : (why : Stop) (P : Cause → Type 0) (part : List ℕ) → new.written ≡ old.written
      → IsHindered why P → Tail why [] part old.written new.written
  tail_set (Blocked cause) P part silent stop = prints_none old.written new.written silent
  tail_set ReadFailed P part silent stop = prints_none old.written new.written silent
  tail_set PutFailed P part silent stop = absurd stop
  tail_set SinkFailed P part silent stop = absurd stop
  tail_set Memory P part silent stop = prints_none old.written new.written silent

  pub fails_set : (why : Stop) → old.written ≡ new.written
      → IsHindered why (λ cause. no_source act (file_in world (file_named act)) ≡ Some cause)
      → Fails why (does step) world [] old new
  fails_set why silent stop =
      subst (λ (a : Act). Fails why (does (at_line step a)) world [] old new) (sym is)
      (record {
        files = halts_set why stop;
        printed =
            tail_set why _ (act_effect act world).text (sym silent) stop;
      })

  pub paid_set : (steps : ℕ) → IsPaid (effect (does step) world) world steps steps
  paid_set steps =
      let spent = sourced_spent (change_by act (file_in world (file_named act))) world.session in
      subst (λ (a : Act). IsPaid (effect (does (at_line step a)) world) world steps steps) (sym is)
      (subst (λ (e : Effect). IsPaid e world steps steps) (sym sets) (omega (arith, spent)))

-- a source that is dropped
module _ (stays : StandingStays) (step : Step) (world : World) (source : Origin) (session : Held)
    (is : step.act ≡ Drop source) (old new : Seen)
    (here : IsIn old.told session world) (same : new.told ≡ old.told)
    (silent : new.written ≡ old.written) where
  there_here : (b : Bool) → is_there source session.state.sources ≡ b
      → cond b None (Some NotThere) ≡ cond (is_there source world.session.state.sources) None
      (Some NotThere)
  there_here b is_so =
      ap (λ t. cond t None (Some NotThere)) (sym is_so)
      ∙ ap (λ (s : State). cond (is_there source s.sources) None (Some NotThere))
      here.stands.state

  pub does_drop : (session' : Held) → IsDropped source session session'
      → Does (does step) world session' old new
  does_drop session' dropped =
      subst (λ (a : Act). Does (does (at_line step a)) world session' old new) (sym is) (record {
        free = sym (there_here true dropped.there);
        now = record {
          tells = same ∙ here.tells;
          stands =
              stays.changes _ session session' world.session here.stands dropped.has;
        };
        printed = prints_none old.written new.written silent;
        published = λ other emits. absurd (let e : Drop source ≡ Emit other = emits in cc);
      })

  pub fails_drop : (why : Stop) → (why ≡ Blocked NotThere) ⊎ (why ≡ Memory)
      → (why ≡ Blocked NotThere → is_there source session.state.sources ≡ false)
      → Fails why (does step) world [] old new
  fails_drop why causes absent =
      subst (λ (a : Act). Fails why (does (at_line step a)) world [] old new) (sym is)
      (elim causes [
        | inl none ↦ subst (λ (w : Stop). Fails w
            (does (at_line step (Drop source))) world [] old new) (sym none) (record {
              files = inl (record {
                cause = sym (there_here false (absent none));
                files =
                    same ∙ here.tells;
              });
              printed = prints_none old.written new.written silent;
            })
        | inr out ↦ subst (λ (w : Stop). Fails w
            (does (at_line step (Drop source))) world [] old new) (sym out) (record {
              files = inl (same ∙ here.tells);
              printed = prints_none old.written new.written silent;
            })
      ])

  pub paid_drop : (steps : ℕ) → IsPaid (effect (does step) world) world steps steps
  paid_drop steps =
      subst (λ (a : Act). IsPaid (effect (does (at_line step a)) world) world steps steps) (sym is)
      (let e : steps + world.session.spent ≤ steps + world.session.spent = omega arith in e)

-- a report
module _ (step : Step) (world : World) (session : Held) (is : step.act ≡ Report)
    (old new : Seen) (here : IsIn old.told session world)
    (same : new.told ≡ old.told) where
  pub does_report : Prints old.written new.written (report_text (report session.state.sources))
      → Does (does step) world session old new
  does_report printed =
      subst (λ (a : Act). Does (does (at_line step a)) world session old new) (sym is) (record {
        free = refl;
        now = record { tells = same ∙ here.tells; stands = here.stands };
        printed = subst (λ (s : State). Prints old.written new.written
            (report_text (report s.sources))) here.stands.state printed;
        published = λ other emits. absurd (let e : Report ≡ Emit other = emits in cc);
      })

  pub fails_report : (why : Stop) → (why ≡ SinkFailed) ⊎ (why ≡ Memory)
      → Tail why [] (report_text (report session.state.sources)) old.written new.written
      → Fails why (does step) world [] old new
  fails_report why causes tail =
      subst (λ (a : Act). Fails why (does (at_line step a)) world [] old new) (sym is) (record {
        files = elim causes [
          | inl failed ↦ subst (λ (w : Stop). Halts w (does (at_line step Report)) world new.told)
              (sym failed) (record { prints = tt; free = refl; files = same ∙ here.tells })
          | inr out ↦ subst (λ (w : Stop). Halts w (does (at_line step Report)) world new.told)
              (sym out) (inl (same ∙ here.tells))
        ];
        printed = subst (λ (s : State). Tail why []
            (report_text (report s.sources)) old.written new.written) here.stands.state tail;
      })

  pub paid_report : (steps : ℕ) → IsPaid (effect (does step) world) world steps steps
  paid_report steps =
      subst (λ (a : Act). IsPaid (effect (does (at_line step a)) world) world steps steps) (sym is)
      (let e : steps + world.session.spent ≤ steps + world.session.spent = omega arith in e)
