use Rattle.std.proofs.Common.{◌≡◌, length, Ok, refl, arith}
use Rattle.std.proofs.lemmas.Bool.{lt-ltb}
use Rattle.mmdb_data.specs.Reading.{reads}
use Rattle.mmdb_data.specs.View.{value_tree}
use Rattle.mmdb_data.proofs.Bounds.{are_bounded}
use Rattle.mmdb_data.proofs.decoding.decode.Goals as goal

pub returns-clause-shallow : goal.returns-clause-shallow
unfolding reads
returns-clause-shallow c =
    let section = c.args.section.now in
    let inside = lt-ltb c.args.at (length section) (omega arith) in
    let found : reads section c.args.at ≡ Ok (value_tree c.in_ok-value.value) =
    rw (inside, c.in_ok-value.ensures.gives) refl in
    (are_bounded section c.args.at (value_tree c.in_ok-value.value) found).0

pub returns-clause-few : goal.returns-clause-few
unfolding reads
returns-clause-few c =
    let section = c.args.section.now in
    let inside = lt-ltb c.args.at (length section) (omega arith) in
    let found : reads section c.args.at ≡ Ok (value_tree c.in_ok-value.value) =
    rw (inside, c.in_ok-value.ensures.gives) refl in
    (are_bounded section c.args.at (value_tree c.in_ok-value.value) found).1

pub returns-clause-light : goal.returns-clause-light
unfolding reads
returns-clause-light c =
    let section = c.args.section.now in
    let inside = lt-ltb c.args.at (length section) (omega arith) in
    let found : reads section c.args.at ≡ Ok (value_tree c.in_ok-value.value) =
    rw (inside, c.in_ok-value.ensures.gives) refl in
    (are_bounded section c.args.at (value_tree c.in_ok-value.value) found).2
