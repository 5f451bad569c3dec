-- A place that has a number is in the table, and one that is new was put there.
use Rattle.std.proofs.Common.{◌≡◌, None, Some, ap, length, refl, sym, ◌∙◌}
use Rattle.geo_terms.specs.Numbers.{number_of}
use Rattle.geo_terms.proofs.NumberLemmas.{number_new, numbers_name_places, table_kept, table_new}
use Rattle.geo_terms.proofs.places.Places.intern.Goals as goal
use Rattle.std.proofs.Common.{rules}

pub returns-in-Some-clause-table : goal.returns-in-Some-clause-table
returns-in-Some-clause-table c =
    table_kept c.args.self.now c.args.place.now c.in-Some.number (sym c.in-Some.ensures)

pub returns-in-Ok-clause-number : goal.returns-in-Ok-clause-number
returns-in-Ok-clause-number c =
    let none : number_of c.args.self.now c.args.place.now ≡ None = sym c.in_default.ensures in
    number_new c.args.self.now c.push.new.self c.args.place.now (length c.args.self.now) none
    c.in-Ok.ensures.pushed refl
    ∙ ap Some (sym c.in-Ok.ensures.number)

pub returns-in-Ok-clause-held : goal.returns-in-Ok-clause-held
returns-in-Ok-clause-held c =
    let none : number_of c.args.self.now c.args.place.now ≡ None = sym c.in_default.ensures in
    numbers_name_places c.push.new.self c.args.place.now c.in-Ok.number
    (number_new c.args.self.now c.push.new.self c.args.place.now (length c.args.self.now) none
    c.in-Ok.ensures.pushed refl
    ∙ ap Some (sym c.in-Ok.ensures.number))

pub returns-in-Ok-clause-table : goal.returns-in-Ok-clause-table
returns-in-Ok-clause-table c =
    table_new c.args.self.now c.push.new.self c.args.place.now (sym c.in_default.ensures)
    c.in-Ok.ensures.pushed

pub returns-then-len-clause-full : goal.returns-then-len-clause-full
returns-then-len-clause-full c = search rules steps 1000000
