use Rattle.std.proofs.Common.{◌≡◌, ◌∙◌, ◌++◌, [], List, Bool, true, cond, ap, sym, rules}
use Rattle.std.specs.Result.{is_ok}
use Rattle.geo_addr.specs.Ranges.{Ends}
use Rattle.source_changes.specs.Packing.{unpacked}
use Rattle.source_changes.specs.declared.ground_list.Packed.{Packed}
use Rattle.source_changes.proofs.PackingLemmas.{both_packed, none_packed}
use Rattle.source_changes.proofs.ground_list.GroundList.append.Goals as goal

pub returns-then-is_empty-clause-ok : goal.returns-then-is_empty-clause-ok
returns-then-is_empty-clause-ok c =
    let none : c.args.self.now ≡ [] =
    sym c.self.view_is
    ∙ none_packed c.self.inside.packed.items c.self.inside.others.items (search rules) in
    c.drop.view_is ∙ ap (λ (rs : List Ends). rs ++ c.args.more) (sym none)

pub returns-clause-ok : goal.returns-clause-ok
returns-clause-ok c =
    let more = c.more.inside in
    let ok : is_ok c.append-moved.result ≡ true = search rules in
    (λ i. unpacked (c.append-moved.ensures.items i) (c.in_ok-append.ensures.items i))
    ∙ ap (λ (b : Bool). unpacked (cond b (c.reserve.new.self.items ++ more.packed.items)
    c.reserve.new.self.items) (c.self.inside.others.items ++ more.others.items)) ok
    ∙ ap (λ (ps : List Packed). unpacked (ps ++ more.packed.items)
    (c.self.inside.others.items ++ more.others.items)) c.in_ok-reserve.ensures.items
    ∙ both_packed c.self.inside.packed.items more.packed.items c.self.inside.others.items
    more.others.items c.self.invariant
    ∙ (λ i. c.self.view_is i ++ c.more.view_is i)
