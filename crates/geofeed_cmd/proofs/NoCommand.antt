-- The answer to words that are no command.
use Rattle.std.proofs.Common.{◌≡◌, ◌≢◌, ◌⊎◌, ◌∙◌, ℕ, ◌≤◌, List, [], false, inl, inr, refl, sym, ap}
use Rattle.std.proofs.Common.{arith}
use Rattle.std.specs.Prelude.{Option}
use Rattle.geo_outside.specs.declared.folder.Folder as folders
use Rattle.geo_outside.specs.declared.sink.Sink as sinks
use Rattle.job_lines.specs.Commands.{Command}
use Rattle.job_run.specs.declared.stop.Cause.TheVariants as causes
use Rattle.job_run.specs.declared.stop.Stop.TheVariants as stops
use Rattle.job_run.specs.Seen.{seen}
use Rattle.geofeed_cmd.specs.declared.status.Status.{Status}
use Rattle.geofeed_cmd.specs.declared.status.Status.TheVariants as statuses
use Rattle.geofeed_cmd.specs.Run.Ends.{Concludes, around}
use Rattle.geofeed_cmd.specs.Run.Lines.{status_of}
use Rattle.geofeed_cmd.specs.Run.Plans.{is_command}
use Rattle.geofeed_cmd.specs.Run.Stopped.{IsStopped}
use Rattle.geofeed_cmd.proofs.AnswerLemmas.{comes_words}
use Rattle.geofeed_cmd.proofs.GenEndLemmas.{no_words_generated}

-- the answer is that the words are no command, or that memory ran out
words-or-memory : (result : Status) (old new : Option (List ℕ)) (faults faults_now : ℕ)
    → IsStopped (stops.Blocked causes.Words) result old new faults faults_now 0 []
    → (result ≡ statuses.Words) ⊎ (result ≡ statuses.Memory)
words-or-memory result old new faults faults_now closed = elim closed.comes [
  | inl same ↦ inl (closed.same ∙ ap status_of same)
  | inr memory ↦ inr (closed.same ∙ ap status_of memory)
]

-- and no other
no-other : (result other : Status) → (result ≡ statuses.Words) ⊎ (result ≡ statuses.Memory)
    → other ≢ statuses.Words → other ≢ statuses.Memory → result ≢ other
no-other result other its words memory is = elim its [
  | inl a ↦ words (sym is ∙ a)
  | inr b ↦ memory (sym is ∙ b)
]

-- the stop line was printed, and nothing else was done
pub concludes_words : {F O : Type 0} (f : folders.Ghosts F) (o : sinks.Ghosts O)
    (command : Option Command) (result : Status) (folder : F) (out out' : O) (steps : ℕ)
    → is_command command ≡ false
    → IsStopped (stops.Blocked causes.Words) result (o.written out) (o.written out') (o.faults out)
    (o.faults out') 0 []
    → Concludes result command (around f o folder out steps) (around f o folder out' steps)
concludes_words f o command result folder out out' steps none closed =
    let old = seen (f.told folder) (o.written out) (o.faults out) steps in
    let new = seen (f.told folder) (o.written out') (o.faults out') steps in
    let puts = f.put_faults folder in
    let same : steps ≤ steps = omega arith in
    let its =
    words-or-memory result (o.written out) (o.written out') (o.faults out) (o.faults out') closed in
    let not_read = no-other result statuses.ReadFault its (λ e. cc) (λ e. cc) in
    let not_missing = no-other result statuses.Missing its (λ e. cc) (λ e. cc) in
    let not_write = no-other result statuses.WriteFault its (λ e. cc) (λ e. cc) in
    record {
      comes = λ first told.
          comes_words command first result old new puts puts none told closed same;
      published = λ first told done.
          absurd (no-other result statuses.Done its (λ e. cc) (λ e. cc) done);
      generates = no_words_generated _ _ _ _ none;
      ends = record {
        words = λ is. none;
        none = λ not. its;
        untouched = λ not. refl;
        unput = λ not. refl;
        still = λ not. refl;
        given = λ first told. omega arith;
        read = λ is. absurd (not_read is);
        missing = λ is. absurd (not_missing is);
        unread = λ not. (not_read, omega arith);
        write = λ is. absurd (not_write is);
        unprinted = λ not is. absurd (not_write is);
      };
    }
