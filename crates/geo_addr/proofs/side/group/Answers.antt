use Rattle.std.proofs.Common.{◌<◌, length, arith, subst, take_all, ◌∙◌}
use Rattle.std.proofs.lemmas.Bool.Decides.{nat_tests}
use Rattle.geo_addr.proofs.GroupLemmas.{ReadDigits, ReadDigits-lt, ReadDigits-room, ReadDigits-more}
use Rattle.geo_addr.proofs.GroupLemmas.{is_group-read}
use Rattle.geo_addr.proofs.side.group.Goals as goal

pub overflow_mul-value : goal.overflow_mul-value
overflow_mul-value c =
    omega (
      arith,
      ReadDigits-room c.args.text.now c.loop-byte.byte-index c.loop-byte.value c.if-text-gt4.false
          c.loop-byte-test.true c.loop-byte.invariant,
    )

pub overflow_add-value : goal.overflow_add-value
overflow_add-value c =
    omega (
      arith,
      ReadDigits-room c.args.text.now c.loop-byte.byte-index c.loop-byte.value c.if-text-gt4.false
          c.loop-byte-test.true c.loop-byte.invariant,
      c.in_ok-to_digit.ensures.value,
    )

pub loop-byte-preserved : goal.loop-byte-preserved
loop-byte-preserved c =
    let h = rw c.from.ensures at c.in_ok-to_digit.ensures.value in
    ReadDigits-more _ _ _ _ c.loop-byte-test.true c.loop-byte.invariant h.0
    (c.from-in-loop-byte.ensures ∙ h.1)

pub returns : goal.returns
returns c =
    let read : ReadDigits c.args.text.now c.loop-byte.value =
    subst (λ ds. ReadDigits ds c.loop-byte.value)
    (take_all _ _ c.loop-byte-test.false) c.loop-byte.invariant in
    let some : 0 < length c.args.text.now = grind (arith, nat_tests) in (
      is_group-read c.args.text.now c.loop-byte.value some c.if-text-gt4.false read,
      read.value_is,
      ReadDigits-lt c.args.text.now c.loop-byte.value 4 c.if-text-gt4.false read,
    )
