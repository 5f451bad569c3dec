use Rattle.std.proofs.Common.{◌≡◌, ◌+◌, ◌-◌, ◌^◌, ◌≤◌, leb, true, arith, sym}
use Rattle.std.proofs.lemmas.Bool.Decides.{nat_tests}
use Rattle.first_index.proofs.NestedLemmas.{all_reach}
use Rattle.first_index.proofs.nested.lies_within.Goals as goal

pub returns-in-Some : goal.returns-in-Some
returns-in-Some g c is nest =
    let t = c.in-Some.field-0.now in
    let e : leb c.args.last t.0 ≡ true = is in
    let le : c.args.last + 1 ≤ t.0 + 1 = grind (arith, nat_tests) in
    all_reach (2 ^ 128 - 1) (c.args.last + 1) c.args.opened.now t
    (sym c.in-Some.ensures.value) le nest
