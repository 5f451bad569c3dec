-- The boundary at `near` is there and is not behind the address.
use Rattle.std.proofs.Common.{◌≡◌, ◌<◌, ◌≤◌, ℕ, Some, length, slice_get}
use Rattle.first_index.proofs.near.told_from.Given as goal

abbrev pub invariant-loop : goal.invariant-loop
invariant-loop l = record {
  within : l.near < length l.points;
  below : (p : ℕ) → slice_get l.points l.near ≡ Some p → p ≤ l.at;
}
