-- What was passed is of the word: the count of all is what was passed and the count of what is
-- left.
use Rattle.std.proofs.Common.{◌≡◌, ◌+◌, drop}
use Rattle.std.specs.List.{prefix_len}
use Rattle.csv_lines.specs.Tails.{is_word}
use Rattle.csv_lines.proofs.tails.word_len.Given as goal

abbrev pub invariant-loop-index : goal.invariant-loop-index
invariant-loop-index l =
    prefix_len is_word l.text ≡ l.index + prefix_len is_word (drop l.index l.text)
