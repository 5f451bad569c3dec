-- The answer of `lookup` from that of its parts.
use Rattle.std.proofs.Common.{◌∙◌, List, ℕ, ◌∷◌, [], ap, arith, refl, rules, sym}
use Rattle.std.specs.Prelude.{Some}
use Rattle.job_lines.specs.Commands.{lookup}
use Rattle.job_run.specs.Acts.{shows}
use Rattle.geofeed_cmd.specs.Run.Plans.{alone, planned}
use Rattle.job_run.specs.Seen.{seen}
use Rattle.job_run.specs.World.{printing}
use Rattle.geofeed_cmd.proofs.AnswerLemmas.{comes_hindered}
use Rattle.geofeed_cmd.proofs.GenEndLemmas.{none_generated}
use Rattle.geofeed_cmd.proofs.LookupAnswers.{comes-shown, comes-unshown}
use Rattle.geofeed_cmd.proofs.StatusLemmas.{status_causes}
use Rattle.geofeed_cmd.proofs.commands.lookup.lookup.Goals as goal

pub returns-in-Ok-print : goal.returns-in-Ok-print
returns-in-Ok-print g c = record {
  leaves = λ steps. record {
    comes = λ first told.
        let plan = c.in-Ok.ensures.answer first told
        ∙ ap (λ (t : List ℕ). planned (shows (printing t) ∷ []) (alone first))
        (sym c.as_str.ensures) in
        comes-shown (Some (lookup c.args.name.now c.args.at.0)) c.as_str.result.now first
        (seen (g.F.Folder.told c.args.folder.now) (g.O.Sink.written c.args.out.now)
        (g.O.Sink.faults c.args.out.now) steps)
        (seen (g.F.Folder.told c.answer_in.new.folder) (g.O.Sink.written c.print.new.out)
        (g.O.Sink.faults c.print.new.out) steps)
        (g.F.Folder.put_faults c.args.folder.now) (g.F.Folder.put_faults c.answer_in.new.folder)
        plan (c.answer_in.ensures.same ∙ told) (omega arith) c.in-Ok-print.ensures.printed;
    published = λ first told done. tt;
    generates = none_generated _ _ _ _ refl;
    ends = search (rules, status_causes);
  };
}

pub returns-in-Ok : goal.returns-in-Ok
returns-in-Ok g c = record {
  leaves = λ steps. record {
    comes = λ first told.
        let plan = c.in-Ok.ensures.answer first told
        ∙ ap (λ (t : List ℕ). planned (shows (printing t) ∷ []) (alone first))
        (sym c.as_str.ensures) in
        rw c.status_of.ensures
        (comes-unshown (Some (lookup c.args.name.now c.args.at.0)) c.as_str.result.now first
        (seen (g.F.Folder.told c.args.folder.now) (g.O.Sink.written c.args.out.now)
        (g.O.Sink.faults c.args.out.now) steps)
        (seen (g.F.Folder.told c.answer_in.new.folder) (g.O.Sink.written c.print.new.out)
        (g.O.Sink.faults c.print.new.out) steps)
        (g.F.Folder.put_faults c.args.folder.now) (g.F.Folder.put_faults c.answer_in.new.folder)
        plan (c.answer_in.ensures.same ∙ told) (omega arith)
        c.in-Err-print.why c.in-Err-print.ensures.causes c.in-Err-print.ensures.tail
        (λ failed. c.in-Err-print.ensures.sink_failed (cc)));
    published = λ first told done. tt;
    generates = none_generated _ _ _ _ refl;
    ends = search (rules, status_causes);
  };
}

pub returns : goal.returns
returns g c = record {
  leaves = λ steps. record {
    comes = λ first told.
        comes_hindered (lookup c.args.name.now c.args.at.0) c.args.name.now first c.stop_at.result
        (seen (g.F.Folder.told c.args.folder.now) (g.O.Sink.written c.args.out.now)
        (g.O.Sink.faults c.args.out.now) steps)
        (seen (g.F.Folder.told c.answer_in.new.folder) (g.O.Sink.written c.stop_at.new.out)
        (g.O.Sink.faults c.stop_at.new.out) steps)
        _ _ refl c.in-Err.why (c.in-Err.ensures.none first told)
        (c.answer_in.ensures.same ∙ told) c.stop_at.ensures.stopped (omega arith);
    published = λ first told done. tt;
    generates = none_generated _ _ _ _ refl;
    ends = search (rules, status_causes);
  };
}
