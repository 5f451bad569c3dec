use Rattle.std.proofs.Common.{◌≤◌, ◌++◌, ◌∷◌, sym, ap, subst, ◌∙◌, arith}
use Rattle.rpsl_reader.specs.Changes.{Change, IsChange, accepted, open_group}
use Rattle.rpsl_reader.specs.Reading.{given, state_of}
use Rattle.rpsl_reader.specs.Selections.{wanted}
use Rattle.rpsl_reader.proofs.Changed.{whole_after, whole_change, whole_given}
use Rattle.rpsl_reader.proofs.reader.Reader.ended.Goals as goal

pub returns-clause-change : goal.returns-clause-change
returns-clause-change c =
    let few : c.in_ok-ended.ended.lines ≤ c.args.fed = omega (
      arith,
      c.in_ok-ended.ensures.counts,
      c.requires.counted,
      c.lines.ensures.lines,
      c.lines.ensures.counts.fewer,
    ) in
    subst (λ (p : Change). IsChange c.args.self.now p) (sym c.in_ok-progress.ensures.progress)
    (whole_change c.args.self.now c.args.fed c.in_ok-ended.ended.lines c.in_ok-ended.ended.tail.now
    c.gathered-gathered.result c.read_lines.new.gathered c.new-none.result.items
    few c.requires.fits c.in_ok-progress.ensures.open c.gathered-gathered.ensures.held
    c.in_ok-ended.ensures.held)

pub returns-clause-after : goal.returns-clause-after
returns-clause-after c =
    ap (λ (p : Change). accepted c.args.self.now p) c.in_ok-progress.ensures.progress
    ∙ whole_after c.args.self.now c.args.fed c.lines.result c.in_ok-ended.ended.lines
    c.as_slice.result.now c.args.head.now c.args.rest.now c.in_ok-ended.ended.tail.now
    c.gathered-gathered.result c.read_lines.new.gathered c.new-none.result.items
    c.lines.ensures.lines (c.as_slice.ensures.value ∙ c.in_ok-first_line.ensures) c.requires.free
    c.gathered-gathered.ensures.held c.gathered-gathered.ensures.group c.in_ok-ended.ensures.held
    c.in_ok-ended.ensures.state

pub returns-clause-items : goal.returns-clause-items
returns-clause-items c =
    c.in_ok-ended.ensures.found
    ∙ ap (λ t. t ++ wanted c.args.selection.now
    (given (state_of c.lines.result c.as_slice.result.now (open_group c.gathered-gathered.result))
    (10 ∷ c.args.rest.now))) (ap (λ s. s.items) c.new-found.ensures)
    ∙ ap (wanted c.args.selection.now) (whole_given c.args.self.now
    c.lines.result c.as_slice.result.now c.args.head.now c.args.rest.now c.gathered-gathered.result
    c.lines.ensures.lines (c.as_slice.ensures.value ∙ c.in_ok-first_line.ensures) c.requires.free
    c.gathered-gathered.ensures.group)
