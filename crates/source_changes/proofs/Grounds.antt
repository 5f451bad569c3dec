-- A range and its ground hold the same addresses.
use Rattle.std.proofs.Common.{◌≡◌, ℕ, ◌^◌, Bool, true, false, cond, ◌&&◌, max, ltb, leb, ltb-false}
use Rattle.std.proofs.Common.{◌≤◌, refl, ap, arith}
use Rattle.geo_addr.specs.Ranges.{Ends, IsRange, ground_first, holds}
use Rattle.source_changes.specs.Laws.{GroundsHoldTheSame}
use Rattle.source_changes.specs.Touched.{ground_of}

-- the ground of a ground begins where the ground does
begins_again : (first high : ℕ) (v4 : Bool) → cond v4 (cond v4 first (max first high))
    (max (cond v4 first (max first high)) high) ≡ cond v4 first (max first high)
begins_again first high true = refl
begins_again first high false = omega arith

ground_again : (r : Ends) → ground_first (ground_of r) ≡ ground_first r
unfolding ground_first
ground_again r = begins_again r.first (2 ^ 32) (ltb r.last (2 ^ 32))

pub grounds_hold_the_same : GroundsHoldTheSame
unfolding holds
grounds_hold_the_same r a = ap (λ first. leb first a && leb a r.last) (ground_again r)

-- the ground of a range is a range
pub ground_within : (r : Ends) → IsRange r → IsRange (ground_of r)
unfolding ground_first
ground_within r is = record {
  ordered =
      elim (ltb r.last (2 ^ 32))
      as (λ b. ltb r.last (2 ^ 32) ≡ b → cond b r.first (max r.first (2 ^ 32)) ≤ r.last) [
        | true ↦ λ e. is.ordered
        | false ↦ λ e. let high : 2 ^ 32 ≤ r.last = ltb-false r.last (2 ^ 32) e in
            let low : r.first ≤ r.last = is.ordered in omega arith
      ] refl;
  within = is.within;
}
