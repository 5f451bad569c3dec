use Rattle.std.proofs.Common.{◌≡◌, ◌-◌, ◌<◌, [], None, cond, length, sym, ap, subst, ◌∙◌}
use Rattle.std.specs.Option.{is_some}
use Rattle.rpsl_reader.specs.Changes.{Gathering, IsOpen, open_group, open_lines}
use Rattle.rpsl_reader.specs.Objects.{longest}
use Rattle.rpsl_reader.specs.Reading.{over, with_line}
use Rattle.rpsl_reader.proofs.Opens.{add_long, add_over, add_short, is_none}
use Rattle.rpsl_reader.proofs.gathered.Gathered.add.Goals as goal

pub returns-then-is_some-clause-group : goal.returns-then-is_some-clause-group
returns-then-is_some-clause-group c =
    add_over c.args.self.now (c.args.number, c.args.text.now)
    (ap (λ g. is_some g.first) (sym c.self.view_is) ∙ sym c.is_some.ensures ∙ c.if-is_some.true)

pub returns-then-text-self-clause-group : goal.returns-then-text-self-clause-group
returns-then-text-self-clause-group c =
    let none : c.args.self.now.first ≡ None = ap (λ g. g.first) (sym c.self.view_is)
    ∙ is_none c.self.inside.first (sym c.is_some.ensures ∙ c.if-is_some.false) in
    let opened : IsOpen c.args.self.now.first c.args.self.now.bytes (open_lines c.args.self.now) =
    subst (λ (g : Gathering). IsOpen g.first g.bytes (open_lines g)) c.self.view_is
    c.self.invariant in
    let long : longest - c.args.self.now.bytes < length c.args.text.now =
    subst (λ (g : Gathering). longest - g.bytes < length c.args.text.now) c.self.view_is
    c.if-text-self.true in
    ap open_group c.clear.ensures
    ∙ ap over c.first_number-first.ensures
    ∙ add_long c.args.self.now.first (open_lines c.args.self.now) c.args.self.now.bytes
    c.args.number c.args.text.now none opened long

pub returns-clause-group : goal.returns-clause-group
returns-clause-group c =
    add_short c.self.inside.first
    (cond c.self.inside.keeps c.self.inside.held.now []) c.self.inside.lines.items
    c.push.new.self.items c.self.inside.bytes c.args.number c.args.text.now
    (is_none c.self.inside.first (sym c.is_some.ensures ∙ c.if-is_some.false)) c.self.invariant
    c.if-text-self.false c.in_ok-push.ensures.items
    ∙ ap (λ g. with_line (open_group g) (c.args.number, c.args.text.now)) c.self.view_is
