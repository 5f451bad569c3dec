use Rattle.std.proofs.Common.{ℕ, subst, ◌+◌, ◌<◌, ◌≤◌, ◌^◌, ap, sym, arith}
use Rattle.geo_addr.specs.Ranges.{Ends, IsBlock}
use Rattle.split_core.proofs.Rooms.{length_more, length_is, length_block}
use Rattle.split_core.proofs.walk.largest_of.Goals as goal
use Rattle.std.proofs.Common.{rules}

pub loop-range-smaller : goal.loop-range-smaller
loop-range-smaller c =
    let r = c.args.range in
    let first_is = ap (λ (r : Ends). r.first) c.range.view_is in
    let last_is = ap (λ (r : Ends). r.last) c.range.view_is in
    let some : r.first < r.last + 1 = omega (arith, c.range.invariant.ordered) in
    let more = length_more c.loop-range.len r.first (r.last + 1) c.loop-range.invariant.short some
    (sym c.loop-range-test.ensures) c.loop-range.invariant.same in
    omega (arith, more.0)

pub loop-range-preserved : goal.loop-range-preserved
loop-range-preserved c =
    let r = c.args.range in
    let first_is = ap (λ (r : Ends). r.first) c.range.view_is in
    let last_is = ap (λ (r : Ends). r.last) c.range.view_is in
    let some : r.first < r.last + 1 = omega (arith, c.range.invariant.ordered) in
    let more = length_more c.loop-range.len r.first (r.last + 1) c.loop-range.invariant.short some
    (sym c.loop-range-test.ensures) c.loop-range.invariant.same in
    record { short = more.0; same = more.1 }

pub invariant_of-result : goal.invariant_of-result
invariant_of-result c =
    let r = c.args.range in
    let first_is = ap (λ (r : Ends). r.first) c.range.view_is in
    let last_is = ap (λ (r : Ends). r.last) c.range.view_is in
    let some : r.first < r.last + 1 = omega (arith, c.range.invariant.ordered) in
    let low : r.last + 1 ≤ 2 ^ 128 = omega (arith, c.range.invariant.within) in
    let block = length_block c.loop-range.len r.first
    (r.last + 1) c.loop-range.invariant.short some low (sym c.loop-range-test.ensures) in
    let P : ℕ → Type 0 = λ n. IsBlock (record { first = n; len = c.loop-range.len }) in
    subst P (sym first_is) block

pub returns : goal.returns
returns c =
    let r = c.args.range in
    let first_is = ap (λ (r : Ends). r.first) c.range.view_is in
    let len_is = length_is c.loop-range.len r.first (r.last + 1) c.loop-range.invariant.short
    (sym c.loop-range-test.ensures) c.loop-range.invariant.same in
    λ i. record { first = first_is i; len = len_is i }

pub loop-range-init : goal.loop-range-init
loop-range-init c = search rules steps 1000000
