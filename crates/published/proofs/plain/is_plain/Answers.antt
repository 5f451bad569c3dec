-- A block is plain by its length.
use Rattle.std.proofs.Common.{◌≡◌, ◌≤◌, ℕ, ◌||◌, ◌^◌, true, nat_le, arith, subst}
use Rattle.std.proofs.lemmas.Bool.Decides.{nat_tests}
use Rattle.geo_addr.specs.Ranges.{Prefix}
use Rattle.publish_least.specs.Lines.{IsPlain}
use Rattle.published.proofs.PlainLemmas.{plain_from}
use Rattle.published.proofs.plain.is_plain.Goals as goal

is_long : (len first : ℕ) → 96 ≤ len → (nat_le 96 len || nat_le (2 ^ 32) first) ≡ true
is_long len first long = grind (arith, nat_tests)

pub returns-then-len-ge96-clause-plain : goal.returns-then-len-ge96-clause-plain
returns-then-len-ge96-clause-plain c is =
    let b : Prefix = record { first = c.block.inside.first; len = c.block.inside.len } in
    subst IsPlain c.block.view_is
    (plain_from b c.block.invariant (is_long b.len b.first c.if-len-ge96.true))
