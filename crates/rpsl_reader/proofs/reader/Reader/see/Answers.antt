use Rattle.std.proofs.Common.{ap, sym, ◌∙◌}
use Rattle.rpsl_reader.specs.Selections.{wanted}
use Rattle.rpsl_reader.proofs.Cuts.{all_before}
use Rattle.rpsl_reader.proofs.PieceLemmas.{given-tail}
use Rattle.rpsl_reader.proofs.Wanted.{wanted_nil}
use Rattle.rpsl_reader.proofs.reader.Reader.see.Goals as goal

pub returns-in-None-clause-items : goal.returns-in-None-clause-items
returns-in-None-clause-items c =
    ap (λ s. s.items) c.new.ensures
    ∙ sym (ap (wanted c.args.selection.now) (given-tail c.args.self.now.state.lines
    c.args.self.now.state.pending c.args.self.now.state.group c.args.piece.now
    (all_before c.args.piece.now c.cut_at.result.0.now c.cut_at.result.1 10 c.cut_at.ensures.joined
    c.in-None.is c.cut_at.ensures.free))
    ∙ wanted_nil c.args.selection.now)
