-- A digit is taken into the value, which fits since the whole does; another byte is left out.
use Rattle.std.proofs.Common.{◌≡◌, ◌+◌, ◌-◌, ◌*◌, ◌^◌, ◌<◌, arith, get_or, sym, ap, ◌∙◌}
use Rattle.feed_refs.proofs.DateLemmas.{digit_step, other_step, step_fits, value_from}
use Rattle.feed_refs.proofs.modified.number_in.Goals as goal
use Rattle.feed_refs.proofs.modified.number_in.Goals.{then-is_ascii_digit, else-is_ascii_digit}

pub overflow_mul-value : goal.overflow_mul-value
overflow_mul-value c =
    let fits : c.loop-byte.value * 10 + (get_or c.args.text.now c.loop-byte.byte-index 0 - 48)
    < 2 ^ 64 =
    step_fits c.loop-byte.value c.args.text.now c.loop-byte.byte-index c.loop-byte-test.true
    (sym c.is_ascii_digit.ensures.value ∙ c.if-is_ascii_digit.true) c.loop-byte.invariant
    c.requires in
    omega arith

pub overflow_add-value : goal.overflow_add-value
overflow_add-value c =
    let fits : c.loop-byte.value * 10 + (get_or c.args.text.now c.loop-byte.byte-index 0 - 48)
    < 2 ^ 64 =
    step_fits c.loop-byte.value c.args.text.now c.loop-byte.byte-index c.loop-byte-test.true
    (sym c.is_ascii_digit.ensures.value ∙ c.if-is_ascii_digit.true) c.loop-byte.invariant
    c.requires in
    omega arith

pub loop-byte-preserved : goal.loop-byte-preserved
loop-byte-preserved c =
    elim c.if-is_ascii_digit.branch [
      | then-is_ascii_digit w ↦
          let step =
          digit_step c.loop-byte.value c.args.text.now c.loop-byte.byte-index
          c.loop-byte-test.true
          (sym c.is_ascii_digit.ensures.value ∙ w.if-is_ascii_digit.true) in
          let same : value_from c.if-is_ascii_digit.value c.args.text.now
          (c.loop-byte.byte-index + 1) ≡ value_from
          (c.loop-byte.value * 10 + (get_or c.args.text.now c.loop-byte.byte-index 0 - 48))
          c.args.text.now (c.loop-byte.byte-index + 1) =
          ap (λ v. value_from v c.args.text.now (c.loop-byte.byte-index + 1))
          (w.value-is ∙ ap (λ d. c.loop-byte.value * 10 + d) w.from.ensures) in
          same ∙ sym step ∙ c.loop-byte.invariant
      | else-is_ascii_digit w ↦
          let step =
          other_step c.loop-byte.value c.args.text.now c.loop-byte.byte-index
          c.loop-byte-test.true
          (sym c.is_ascii_digit.ensures.value ∙ w.if-is_ascii_digit.false) in
          let same : value_from c.if-is_ascii_digit.value c.args.text.now (c.loop-byte.byte-index
          + 1) ≡ value_from c.loop-byte.value c.args.text.now (c.loop-byte.byte-index + 1) =
          ap (λ v. value_from v c.args.text.now (c.loop-byte.byte-index + 1)) w.value-is in
          same ∙ sym step ∙ c.loop-byte.invariant
    ]
