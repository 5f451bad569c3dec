use Rattle.std.proofs.Common.{◌≡◌, filter}
use Rattle.std.specs.Char.{is_ascii_digit}
use Rattle.std.specs.Str.Parse.{digits_value}
use Rattle.feed_refs.proofs.DateLemmas.{value_from}
use Rattle.feed_refs.proofs.modified.number_in.Given as goal

abbrev pub invariant-loop-byte : goal.invariant-loop-byte
invariant-loop-byte l =
    value_from l.value l.text l.byte-index ≡ digits_value 10 (filter is_ascii_digit l.text)
