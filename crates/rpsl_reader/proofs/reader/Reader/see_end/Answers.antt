use Rattle.std.proofs.Common.{◌++◌, ◌∷◌, ap, ◌∙◌}
use Rattle.rpsl_reader.specs.Changes.{open_group}
use Rattle.rpsl_reader.specs.Reading.{given, state_of}
use Rattle.rpsl_reader.specs.Selections.{wanted}
use Rattle.rpsl_reader.proofs.Changed.{end_given}
use Rattle.rpsl_reader.proofs.reader.Reader.see_end.Goals as goal

pub returns : goal.returns
returns c =
    c.in_ok-_ended.ensures.found
    ∙ ap (λ t. t ++ wanted c.args.selection.now
    (given (state_of c.lines.result c.as_slice.result.now (open_group c.gathered-gathered.result))
    (10 ∷ c.as_slice-2.result.now))) (ap (λ s. s.items) c.new-found.ensures)
    ∙ ap (λ t. wanted c.args.selection.now (given (state_of c.lines.result c.as_slice.result.now
    (open_group c.gathered-gathered.result)) (10 ∷ t))) c.as_slice-2.ensures
    ∙ ap (wanted c.args.selection.now) (end_given c.args.self.now c.lines.result
    c.as_slice.result.now c.gathered-gathered.result c.lines.ensures.lines (c.as_slice.ensures.value
    ∙ ap (λ r. r.state.pending) c.self.view_is) c.gathered-gathered.ensures.group)
