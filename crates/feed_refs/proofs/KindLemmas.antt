-- What stands before the first member of a kind.
use Rattle.std.proofs.Common.{◌≡◌, ℕ, ◌≤◌, Bool, true, false, cond, List, length, take, None, Some}
use Rattle.std.proofs.Common.{sym, ap, refl}
use Rattle.std.specs.Prelude.{nat_lt}
use Rattle.std.specs.List.{before_first, position, position_or_len}
use Rattle.std.proofs.lemmas.Bool.{ltb-false}
use Rattle.std.proofs.lemmas.List.{take_all}

pub before_some : {X : Type 0} (p : X → Bool) (xs : List X) (i : ℕ) → Some i ≡ position p xs
    → take i xs ≡ before_first p xs
before_some p xs i e =
    let at : (b : Bool) → Some i ≡ cond b (Some (position_or_len p xs)) None
    → i ≡ position_or_len p xs =
    λ b. elim b as
    (λ t. Some i ≡ cond t (Some (position_or_len p xs)) None → i ≡ position_or_len p xs)
    [ true ↦ λ h. cc | false ↦ λ h. absurd cc ] in
    ap (λ n. take n xs) (at (nat_lt (position_or_len p xs) (length xs)) e)

pub before_none : {X : Type 0} (p : X → Bool) (xs : List X) → None ≡ position p xs
    → xs ≡ before_first p xs
before_none p xs e =
    let at : (b : Bool) → nat_lt (position_or_len p xs) (length xs) ≡ b
    → None ≡ cond b (Some (position_or_len p xs)) None → length xs ≤ position_or_len p xs =
    λ b. elim b as (λ t. nat_lt (position_or_len p xs) (length xs) ≡ t
    → None ≡ cond t (Some (position_or_len p xs)) None → length xs ≤ position_or_len p xs) [
      | true ↦ λ is h. absurd cc
      | false ↦ λ is h. ltb-false (position_or_len p xs) (length xs) is
    ] in
    sym (take_all (position_or_len p xs) xs (at (nat_lt (position_or_len p xs) (length xs)) refl e))
