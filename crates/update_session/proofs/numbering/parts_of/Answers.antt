-- All numbers of the chunk came, renamed.
use Rattle.std.proofs.Common.{arith, ◌∙◌, ℕ, List, ap, map, subst, sym}
use Rattle.update_session.specs.Build.{StandFor, renamed, said_in}
use Rattle.update_session.proofs.NumberingLemmas.{StandFor-renamed, take_whole}
use Rattle.update_session.proofs.numbering.parts_of.Goals as goal

pub returns-clause-leaves : goal.returns-clause-leaves
returns-clause-leaves c =
    let one = c.args.one.now in
    let names = c.in_ok-names.names.items in
    let came = c.loop-at.invariant.leaves
    ∙ ap (λ (ls : List ℕ). map (renamed names) ls)
    (take_whole one.leaves.items c.loop-at.at
    (omega (arith, c.requires.1, c.loop-at-test.false))) in
    subst (λ (ls : List ℕ). StandFor c.names_of.new.places ls (said_in one)) (sym came)
    (StandFor-renamed c.names_of.new.places one.places names one.leaves.items
    c.in_ok-names.ensures.names c.requires.0)
