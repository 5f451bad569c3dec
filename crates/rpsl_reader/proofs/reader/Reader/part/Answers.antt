use Rattle.std.proofs.Common.{ap, sym, ◌∙◌}
use Rattle.rpsl_reader.specs.Changes.{accepted}
use Rattle.rpsl_reader.specs.Reading.{Fed, after}
use Rattle.rpsl_reader.proofs.Changed.{part, part_after}
use Rattle.rpsl_reader.proofs.reader.Reader.part.Goals as goal

pub returns-clause-after : goal.returns-clause-after
returns-clause-after c =
    ap (λ (r : Fed). accepted r (part c.args.fed c.self.inside.lines c.args.piece.now
    c.self.inside.first c.self.inside.bytes c.new.result.items c.new-2.result.items))
    (sym c.self.view_is)
    ∙ part_after c.self.inside.fed c.args.fed c.self.inside.lines c.self.inside.pending.items
    c.args.piece.now c.self.inside.first c.self.inside.bytes c.self.inside.group.items
    c.new.result.items c.new-2.result.items c.self.invariant c.requires.free c.new.ensures.items
    ∙ ap (λ (r : Fed). record { fed = c.args.fed; state = after r.state c.args.piece.now })
    c.self.view_is
