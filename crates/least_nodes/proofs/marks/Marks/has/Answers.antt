use Rattle.std.proofs.Common.{◌≡◌, ◌/◌, ◌%◌, ◌<◌, ◌∙◌, ap, sym, arith, length, get_or, nat_eq}
use Rattle.std.proofs.lemmas.Bool.{ltb-true}
use Rattle.std.proofs.lemmas.List.{get_or_read}
use Rattle.std.specs.Int.{bit_at}
use Rattle.least_nodes.proofs.MarksLemmas.{marked_by_test}
use Rattle.least_nodes.proofs.marks.Marks.has.Goals as goal

pub returns-in-Some : goal.returns-in-Some
returns-in-Some c =
    let words = c.args.self.now.words.items in
    let at = c.args.number / 64 in
    let word = c.in-Some.word.now in
    let less = ltb-true at (length c.deref.result.now) (sym c.in-Some.ensures.lookup.0) in
    let within : at < length words = omega (arith, less, ap length c.deref.ensures.value) in
    let same = ap (λ xs. get_or xs at word) c.deref.ensures.value in
    let read : word ≡ get_or words at 0 =
    get_or_read words at word within (c.in-Some.ensures.lookup.1 ∙ same) 0 in
    marked_by_test word (c.args.number % 64) (omega arith)
    ∙ ap (λ w. nat_eq (bit_at w (c.args.number % 64)) 1) read
