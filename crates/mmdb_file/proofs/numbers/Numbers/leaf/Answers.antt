use Rattle.std.proofs.Common.{◌∙◌, sym, nat_eq, arith, rules, refl}
use Rattle.mmdb_file.proofs.WritingLemmas.{none_found, some_found}
use Rattle.mmdb_file.proofs.numbers.Numbers.leaf.Goals as goal

pub overflow_add-result : goal.overflow_add-result
overflow_add-result c = omega (arith, c.requires.low c.in-Some.index)

pub returns-in-Some : goal.returns-in-Some
returns-in-Some c =
    let places = c.args.self.now.places in
    let found =
    some_found (nat_eq c.args.number) places c.in-Some.index
    (sym c.index_of.ensures ∙ c.in-Some.is) in
    rw (found.0, found.1, c.from.ensures, c.start_at.ensures) search rules

pub returns-in-None : goal.returns-in-None
returns-in-None c =
    let none =
    none_found (nat_eq c.args.number) c.args.self.now.places
    (sym c.index_of.ensures ∙ c.in-None.is) in
    rw (none) refl
