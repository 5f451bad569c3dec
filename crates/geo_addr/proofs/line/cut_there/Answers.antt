use Rattle.std.proofs.Common.{◌≡◌, ◌<◌, length, arith, sym, take, ◌∙◌}
use Rattle.std.proofs.lemmas.List.{get_or-take, length-take-le, take_rest}
use Rattle.geo_addr.proofs.Cuts.{free_before, joined_at_offset, one_piece, pieces_at_offset}
use Rattle.geo_addr.proofs.line.cut_there.Goals as goal

pub returns-then-offset-text-clause-pieces : goal.returns-then-offset-text-clause-pieces
returns-then-offset-text-clause-pieces c =
    one_piece c.args.separator c.args.text.now (sym c.if-offset-text.true ∙ c.requires.offset)

pub returns-then-offset-text-clause-free : goal.returns-then-offset-text-clause-free
returns-then-offset-text-clause-free c = λ k d below.
    free_before c.args.separator c.args.text.now k d (omega (arith, c.requires.offset))

pub returns-clause-pieces : goal.returns-clause-pieces
returns-clause-pieces c =
    let at = c.requires.offset in
    rw take_rest (pieces_at_offset c.args.separator c.args.text.now c.args.offset at (omega arith))

pub returns-clause-free : goal.returns-clause-free
returns-clause-free c = λ k d below.
    let front : length (take c.args.offset c.args.text.now) ≡ c.args.offset =
    length-take-le c.args.offset c.args.text.now c.requires.within in
    let before : k < c.args.offset = omega arith in
    let at = c.requires.offset in
    rw get_or-take (free_before c.args.separator c.args.text.now k d (omega (arith, at)))

pub returns-clause-joined : goal.returns-clause-joined
returns-clause-joined c =
    let at = c.requires.offset in
    rw take_rest (joined_at_offset c.args.separator c.args.text.now c.args.offset at (omega arith))
