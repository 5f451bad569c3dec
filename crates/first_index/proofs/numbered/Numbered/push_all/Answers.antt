use Rattle.std.proofs.Common.{◌∙◌, ◌++◌, ℕ, Bor, List, ap}
use Rattle.first_index.proofs.NumberedLemmas.{numbered_on}
use Rattle.first_index.proofs.numbered.Numbered.push_all.Goals as goal

pub invariant_of-self-2 : goal.invariant_of-self-2
invariant_of-self-2 g c =
    let X = g.row.S.Denot in
    let on = numbered_on (λ (x : ℕ × Bor X). x.0) (λ x. x.1.now) c.push_numbered.new.ranked.items
    c.self.inside.ranked.items c.args.statements.now c.self.invariant
    (rw c.reserve.ensures.items at c.push_numbered.ensures) in
    on.0

pub returns-clause-ok : goal.returns-clause-ok
returns-clause-ok g c =
    let X = g.row.S.Denot in
    let on = numbered_on (λ (x : ℕ × Bor X). x.0) (λ x. x.1.now) c.push_numbered.new.ranked.items
    c.self.inside.ranked.items c.args.statements.now c.self.invariant
    (rw c.reserve.ensures.items at c.push_numbered.ensures) in
    on.1 ∙ ap (λ (xs : List X). xs ++ c.args.statements.now) c.self.view_is
