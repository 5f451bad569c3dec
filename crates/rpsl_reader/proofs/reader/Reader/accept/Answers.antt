use Rattle.std.proofs.Common.{◌≡◌, true, false, [], sym, subst, ◌∙◌}
use Rattle.rpsl_reader.specs.Changes.{Change, accepted}
use Rattle.rpsl_reader.proofs.Changed.{gone_on, group_gone, reader}
use Rattle.rpsl_reader.proofs.reader.Reader.accept.Goals as goal

pub returns-clause-ok : goal.returns-clause-ok
returns-clause-ok c =
    let p : Change = record {
      fed = c.progress.inside.fed;
      lines = c.progress.inside.lines;
      ended = c.progress.inside.ended;
      tail = c.progress.inside.tail.now;
      keeps = c.progress.inside.keeps;
      first = c.progress.inside.first;
      bytes = c.progress.inside.bytes;
      more = c.progress.inside.more.items;
      found = c.progress.inside.found.items;
    } in
    gone_on (reader c.self.inside.fed c.self.inside.lines c.self.inside.pending.items
    c.self.inside.first c.self.inside.group.items) p c.go_on.new.pending.items
    c.go_on.new.group.items c.in_ok-go_on.ensures.pending
    (group_gone p.ended p.keeps c.self.inside.first c.self.inside.group.items p.more
    c.go_on.new.group.items c.in_ok-go_on.ensures.group c.self.invariant.group.kept
    (subst (λ (q : Change). q.ended ≡ false → q.keeps ≡ true)
    (sym c.progress.view_is) c.requires.keeps)
    (subst (λ (q : Change). q.ended ≡ false → q.more ≡ [])
    (sym c.progress.view_is) c.requires.no_more))
    ∙ (λ i. accepted (c.self.view_is i) (c.progress.view_is i))
