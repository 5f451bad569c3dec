-- The middle is an address, and both halves are blocks.
use Rattle.std.proofs.Common.{◌+◌, ◌<◌, ap, sym, subst, arith}
use Rattle.geo_addr.specs.Ranges.{Prefix}
use Rattle.publish_least.proofs.HalfLemmas.{half_size, middle_within, IsBlock-lower, IsBlock-upper}
use Rattle.publish_least.proofs.half.halves.Goals as goal

pub overflow_add-middle : goal.overflow_add-middle
overflow_add-middle c =
    let b = c.block.inside in
    let less : b.len < 128 = subst (λ (p : Prefix). p.len < 128) (sym c.block.view_is) c.requires in
    let size = half_size (record { first = b.first; len = b.len }) c.block.invariant less in
    let below = middle_within (record { first = b.first; len = b.len }) c.block.invariant less in
    omega arith

pub invariant_of-result : goal.invariant_of-result
invariant_of-result c =
    let b = c.block.inside in
    let less : b.len < 128 = subst (λ (p : Prefix). p.len < 128) (sym c.block.view_is) c.requires in
    IsBlock-lower (record { first = b.first; len = b.len }) c.block.invariant less

pub invariant_of-result-2 : goal.invariant_of-result-2
invariant_of-result-2 c =
    let b = c.block.inside in
    let less : b.len < 128 = subst (λ (p : Prefix). p.len < 128) (sym c.block.view_is) c.requires in
    let size = half_size (record { first = b.first; len = b.len }) c.block.invariant less in
    IsBlock-upper (record { first = b.first; len = b.len }) c.block.invariant less _
    (ap (λ p. b.first + p) size)
