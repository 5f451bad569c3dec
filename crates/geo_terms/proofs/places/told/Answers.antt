-- Where the slot's number is that of the place, it is told, and else nothing.
use Rattle.std.proofs.Common.{get_or, refl, rules, sym, ◌∙◌}
use Rattle.geo_terms.proofs.TableLemmas.{said_here, said_on}
use Rattle.geo_terms.proofs.places.told.Goals as goal

pub returns-then-eq : goal.returns-then-eq
returns-then-eq c =
    said_here c.args.list.now c.args.slots.now c.args.slot
    (get_or c.args.slots.now c.args.slot 0) c.args.place.now c.in_ok-found.found.now refl
    c.if-number-eq0.false (search rules) (search rules) (sym c.eq.ensures ∙ c.if-eq.true)

pub returns : goal.returns
returns c =
    said_on c.args.list.now c.args.slots.now c.args.slot
    (get_or c.args.slots.now c.args.slot 0) c.args.place.now c.in_ok-found.found.now refl
    c.if-number-eq0.false (search rules) (search rules) (sym c.eq.ensures ∙ c.if-eq.false)
