-- A word and a comma are cut off; without them there is no cut.
use Rattle.std.proofs.Common.{◌≡◌, ◌∙◌, sym, arith}
use Rattle.std.proofs.lemmas.List.Sums.{prefix_len-le-length}
use Rattle.csv_lines.specs.Tails.{is_word}
use Rattle.csv_lines.proofs.TailLemmas.{cut_is, no_comma, no_word, other_byte}
use Rattle.csv_lines.proofs.tails.cut_line.Goals as goal

pub split_at-requires : goal.split_at-requires
split_at-requires c =
    rw c.word_len.ensures (prefix_len-le-length is_word c.trim_blanks-rest.result.now)

pub returns-then-is_empty-clause-taken : goal.returns-then-is_empty-clause-taken
returns-then-is_empty-clause-taken c first tail cut =
    absurd (
    no_word c.args.line.now c.trim_blanks-rest.result.now _ _ _ c.trim_blanks-rest.ensures
    c.word_len.ensures c.split_at.ensures.front c.split_at.ensures.back
    (sym c.is_empty.ensures ∙ c.if-is_empty.true) first tail cut)

pub returns-in_default-clause-taken : goal.returns-in_default-clause-taken
returns-in_default-clause-taken c first tail cut =
    absurd (
    no_comma c.args.line.now c.trim_blanks-rest.result.now _ _ _ c.trim_blanks-rest.ensures
    c.word_len.ensures c.split_at.ensures.front c.split_at.ensures.back
    c.in_default.ensures.cases first tail cut)

pub returns-then-byte-ne44-clause-taken : goal.returns-then-byte-ne44-clause-taken
returns-then-byte-ne44-clause-taken c first tail cut =
    absurd (
    other_byte c.args.line.now c.trim_blanks-rest.result.now _ _ _ c.trim_blanks-rest.ensures
    c.word_len.ensures c.split_at.ensures.front c.split_at.ensures.back
    c.in-Some.byte.now c.in-Some.tail.now c.in-Some.ensures.cases.0 c.if-byte-ne44.true
    first tail cut)

pub returns-clause-cut : goal.returns-clause-cut
returns-clause-cut c =
    let comma : c.in-Some.byte.now ≡ 44 = omega (arith, c.if-byte-ne44.false) in
    cut_is c.args.line.now c.trim_blanks-rest.result.now _ _ _ c.trim_blanks-rest.ensures
    c.word_len.ensures c.split_at.ensures.front c.split_at.ensures.back
    c.in-Some.byte.now c.in-Some.tail.now (sym c.is_empty.ensures ∙ c.if-is_empty.false)
    c.in-Some.ensures.cases.0 comma
