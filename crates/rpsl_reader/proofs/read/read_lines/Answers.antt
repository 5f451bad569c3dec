use Rattle.std.proofs.Common.{◌≡◌, ◌∷◌, ◌++◌, length, length-append, sym, ap, ◌∙◌, arith}
use Rattle.rpsl_reader.specs.Changes.{open_group}
use Rattle.rpsl_reader.proofs.Cuts.{all_before, cut_is}
use Rattle.rpsl_reader.proofs.PieceLemmas.{end_found, end_state, step_found, step_state}
use Rattle.rpsl_reader.proofs.read.read_lines.Goals as goal

pub returns-in_default-clause-found : goal.returns-in_default-clause-found
returns-in_default-clause-found c =
    end_found c.args.selection.now c.each.lines c.each.line.now c.text_of.result.now
    (open_group c.each.gathered)
    (open_group c.take.new.self) c.each.left.now c.each.found.items c.take.new.found.items
    c.text_of.ensures c.in_ok-take.ensures.group c.in_ok-take.ensures.found
    (all_before c.each.left.now c.cut_line.result.0.now c.cut_line.result.1 10
    c.cut_line.ensures.joined c.in_default.is c.cut_line.ensures.free)
    ∙ c.each.invariant.found

pub returns-in_default-clause-state : goal.returns-in_default-clause-state
returns-in_default-clause-state c =
    sym c.each.invariant.state
    ∙ end_state c.each.lines c.each.line.now c.text_of.result.now (open_group c.each.gathered)
    (open_group c.take.new.self) c.each.left.now c.text_of.ensures c.in_ok-take.ensures.group
    (all_before c.each.left.now c.cut_line.result.0.now c.cut_line.result.1 10
    c.cut_line.ensures.joined c.in_default.is c.cut_line.ensures.free)

pub each-preserved : goal.each-preserved
each-preserved c =
    let cut : c.each.left.now ≡ c.cut_line.result.0.now ++ 10 ∷ c.in-Some.after.now =
    cut_is c.each.left.now c.cut_line.result.0.now c.cut_line.result.1 c.in-Some.after 10
    c.cut_line.ensures.joined c.in-Some.is in
    record {
      held = c.in_ok-take.ensures.held ∙ c.each.invariant.held;
      found =
          step_found c.args.selection.now c.each.lines c.each.line.now c.text_of.result.now
          (open_group c.each.gathered) (open_group c.take.new.self) c.each.left.now
          c.cut_line.result.0.now c.in-Some.after.now c.each.found.items c.take.new.found.items
          c.text_of.ensures c.in_ok-take.ensures.group c.in_ok-take.ensures.found cut
          c.cut_line.ensures.free
          ∙ c.each.invariant.found;
      state =
          step_state c.each.lines c.each.line.now c.text_of.result.now (open_group c.each.gathered)
          (open_group c.take.new.self) c.each.left.now c.cut_line.result.0.now c.in-Some.after.now
          c.text_of.ensures c.in_ok-take.ensures.group cut c.cut_line.ensures.free
          ∙ c.each.invariant.state;
      counts = omega (
        arith,
        c.each.invariant.counts,
        ap length cut,
        length-append c.cut_line.result.0.now (10 ∷ c.in-Some.after.now),
      );
    }
