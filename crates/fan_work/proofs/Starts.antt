-- Where the pieces of a list begin.
use Rattle.std.proofs.Common.{◌≡◌, ℕ, ◌*◌, ◌/◌, ◌<◌, ◌≤◌, arith}
use Rattle.std.proofs.lemmas.Nat.{le-div}
use Rattle.std.proofs.Math.Nat.{div-mul-le_self, mul-div_cancel_left}
use Rattle.fan_work.specs.Pieces.{piece_start}

-- a later piece begins no earlier
pub starts_ascend : (pieces count i j : ℕ) → 0 < pieces → i ≤ j
    → piece_start pieces count i ≤ piece_start pieces count j
unfolding piece_start
starts_ascend pieces count i j some order =
    let below : i * count ≤ j * count = grind arith in
    let whole = div-mul-le_self (i * count) pieces in
    le-div (i * count / pieces) (j * count) pieces some (omega arith)

-- the first piece begins at the first item
pub start-zero : (pieces count : ℕ) → 0 < pieces → piece_start pieces count 0 ≡ 0
unfolding piece_start
start-zero pieces count some = grind arith

-- the last piece ends with the last item
pub start-all : (pieces count : ℕ) → 0 < pieces → piece_start pieces count pieces ≡ count
unfolding piece_start
start-all pieces count some = mul-div_cancel_left count some
