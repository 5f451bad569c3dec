-- The answer of `gen` from that of its moves.
use Rattle.std.proofs.Common.{inl, inr, refl, sym, ◌∙◌, ap, arith, subst}
use Rattle.std.specs.Prelude.{Some}
use Rattle.geo_outside.specs.Count.{Rose}
use Rattle.job_lines.specs.Commands.{gen}
use Rattle.job_run.specs.Seen.{seen}
use Rattle.geofeed_cmd.specs.Run.Answers.{EndsGenerated}
use Rattle.geofeed_cmd.specs.Run.Lines.{status_of}
use Rattle.geofeed_cmd.proofs.AnswerLemmas.{comes_unchanged}
use Rattle.geofeed_cmd.proofs.GenEndLemmas.{comes_stopped, ends_outside, outside_same}
use Rattle.geofeed_cmd.proofs.GenEndLemmas.{outside_signs, spent_in_all}
use Rattle.geofeed_cmd.proofs.StatusLemmas.{write_status}
use Rattle.geofeed_cmd.proofs.commands.generate.generate.Goals as goal

pub returns-in-Err : goal.returns-in-Err
returns-in-Err g c =
    record {
      leaves = record {
        comes = λ first told.
            comes_unchanged (Some (gen c.args.lines c.args.name.now)) first _ _
            (g.F.Folder.put_faults c.args.folder.now) (g.F.Folder.put_faults c.args.folder.now)
            told refl refl;
        published = λ first told done. tt;
        generates = record {
          ends = λ lines file is. tt;
          bounded = λ lines file any is. omega arith;
        };
        ends = record {
          words = λ is. absurd (cc);
          none = λ none. absurd (cc);
          untouched = λ none. absurd (cc);
          unput = λ none. absurd (cc);
          still = λ none. absurd (cc);
          given = λ first told. omega arith;
          read = λ is. absurd (cc);
          missing = λ is. absurd (cc);
          unread = λ none. ((λ is. absurd (cc)), omega arith);
          write = λ is. absurd (cc);
          unprinted = λ none. absurd (cc);
        };
      };
    }

pub returns-in-Ok-made : goal.returns-in-Ok-made
returns-in-Ok-made g c =
    let given = c.write_twice-made.ensures.given in
    let spent = c.write_twice-made.ensures.spent in
    record {
      leaves = record {
        comes = λ first told. c.in-Ok-made.ensures.done first told;
        published = λ first told done. tt;
        generates = record {
          ends = λ lines file is. tt;
          bounded = λ lines file any is.
              omega (
                arith,
                spent,
                spent_in_all c.args.lines c.requires.few c.args.name.now any,
              );
        };
        ends = record {
          words = λ is. absurd (cc);
          none = λ none. absurd (cc);
          untouched = λ none. absurd (cc);
          unput = λ none. absurd (cc);
          still = λ none. absurd (cc);
          given = λ first told. omega (arith, given);
          read = λ is. absurd (cc);
          missing = λ is. absurd (cc);
          unread = λ none. ((λ is. absurd (cc)), given);
          write = λ is. absurd (cc);
          unprinted = λ none. absurd (cc);
        };
      };
    }

pub returns-in-Err-made : goal.returns-in-Err-made
returns-in-Err-made g c =
    let F = g.F.Folder in
    let O = g.O.Sink in
    let why = c.in-Err-made.why in
    let outside = c.in-Err-made.ensures.outside in
    let signs = outside_signs why outside in
    let stopped = c.stop_at.ensures.stopped in
    let is =
    sym (stopped.same ∙ ap status_of (outside_same why stopped.out outside stopped.comes)) in
    let given = c.write_twice-made.ensures.given in
    let spent = c.write_twice-made.ensures.spent in
    let faults = c.write_twice-made.ensures.faults in
    let later = c.stop_at.ensures.faults in
    record {
      leaves = record {
        comes = λ first told.
            comes_stopped c.args.lines c.requires.few c.args.name.now first c.stop_at.result _
            (seen (F.told c.write_twice-made.new.folder) (O.written c.write_twice-made.new.out)
            (O.faults c.write_twice-made.new.out) c.write_twice-made.new.steps) why
            (O.written c.stop_at.new.out) (O.faults c.stop_at.new.out) outside
            (c.in-Err-made.ensures.stopped first told) stopped faults _ _
            (λ put. c.write_twice-made.ensures.put_failed (cc))
            (λ sink. let rose : Rose (O.faults c.args.out.now)
            (O.faults c.write_twice-made.new.out) =
            c.write_twice-made.ensures.sink_failed (cc) in omega arith);
        published = λ first told done. tt;
        generates = record {
          ends = λ lines file known. subst EndsGenerated is (ends_outside why outside);
          bounded = λ lines file any known.
              omega (
                arith,
                spent,
                spent_in_all c.args.lines c.requires.few c.args.name.now any,
              );
        };
        ends = record {
          words = λ words. absurd (signs.0 (is ∙ words));
          none = λ none. absurd (cc);
          untouched = λ none. absurd (cc);
          unput = λ none. absurd (cc);
          still = λ none. absurd (cc);
          given = λ first told. omega (arith, given);
          read = λ read. absurd (signs.1.0 (is ∙ read));
          missing = λ missing. absurd (signs.1.1 (is ∙ missing));
          unread = λ none. ((λ read. signs.1.0 (is ∙ read)), given);
          write = λ write. elim (write_status why (is ∙ write)) [
            | inl put ↦ inl (c.write_twice-made.ensures.put_failed (cc))
            | inr sink ↦ inr
                (let rose : Rose (O.faults c.args.out.now) (O.faults c.write_twice-made.new.out) =
                c.write_twice-made.ensures.sink_failed (cc) in omega arith)
          ];
          unprinted = λ none. absurd (cc);
        };
      };
    }
