-- Room for a block at a point, and the largest block that has room.
use Rattle.std.proofs.Common.{◌≡◌, ℕ, zero, suc, ◌+◌, ◌-◌, ◌%◌, ◌^◌, ◌<◌, ◌≤◌, Bool, true, false}
use Rattle.std.proofs.Common.{cond, leb, nat_eq, bit_and, ◌⊎◌, inl, inr, arith, refl, sym, ap}
use Rattle.std.proofs.Common.{subst, ◌∙◌}
use Rattle.std.proofs.lemmas.Bool.{cases_lt}
use Rattle.std.proofs.lemmas.Bool.Decides.{nat_tests}
use Rattle.std.proofs.lemmas.Nat.{pow_pos, and_mask}
use Rattle.geo_addr.specs.Ranges.{Prefix, IsBlock}
use Rattle.split_core.specs.Least.{past}
use Rattle.split_core.specs.Walk.{is_room, largest, largest_block}
use Rattle.split_core.proofs.Multiples.{multiple_apart, multiple_lower, multiple_next}

-- what room means
pub room_true : (k first end : ℕ) → is_room k first end ≡ true
    → (first % 2 ^ k ≡ 0) × (first + 2 ^ k ≤ end)
unfolding is_room
room_true k first end room = (grind (arith, nat_tests), grind (arith, nat_tests))

pub room_from : (k first end : ℕ) → first % 2 ^ k ≡ 0 → first + 2 ^ k ≤ end
    → is_room k first end ≡ true
unfolding is_room
room_from k first end aligned fits = grind (arith, nat_tests)

-- there is room for one address
pub room_zero : (first end : ℕ) → first < end → is_room 0 first end ≡ true
room_zero first end some = room_from 0 first end (omega arith) (omega arith)

pub largest_here : (n first end : ℕ) → is_room n first end ≡ true → largest n first end ≡ n
unfolding largest
largest_here zero first end room = refl
largest_here (suc n) first end room = ap (λ b. cond b (suc n) (largest n first end)) room

pub largest_skip : (n first end : ℕ) → is_room (suc n) first end ≡ false
    → largest (suc n) first end ≡ largest n first end
unfolding largest
largest_skip n first end none = ap (λ b. cond b (suc n) (largest n first end)) none

-- a test is true or false
tested : (b : Bool) → (b ≡ true) ⊎ (b ≡ false)
tested true = inl refl
tested false = inr refl

pub largest_le : (n first end : ℕ) → largest n first end ≤ n
unfolding largest
largest_le zero first end = omega arith
largest_le (suc n) first end =
    elim (tested (is_room (suc n) first end)) [
      | inl room ↦ omega (arith, largest_here (suc n) first end room)
      | inr none ↦ omega (arith, largest_skip n first end none, largest_le n first end)
    ]

pub largest_fits : (n first end : ℕ) → first < end → is_room (largest n first end) first end ≡ true
unfolding largest
largest_fits zero first end some = room_zero first end some
largest_fits (suc n) first end some =
    elim (tested (is_room (suc n) first end)) [
      | inl room ↦ ap (λ k. is_room k first end) (largest_here (suc n) first end room) ∙ room
      | inr none ↦ ap (λ k. is_room k first end) (largest_skip n first end none)
          ∙ largest_fits n first end some
    ]

apart : (k n first end : ℕ) → k ≡ suc n → is_room (suc n) first end ≡ false
    → is_room k first end ≡ true → ⊥
apart k n first end same none room =
    let clash : false ≡ true = sym none ∙ ap (λ k. is_room k first end) (sym same) ∙ room in cc

pub largest_most : (n k first end : ℕ) → k ≤ n → is_room k first end ≡ true
    → k ≤ largest n first end
largest_most zero k first end less room = omega arith
largest_most (suc n) k first end less room =
    elim (tested (is_room (suc n) first end)) [
      | inl here ↦ omega (arith, largest_here (suc n) first end here)
      | inr none ↦
          elim (cases_lt k (suc n)) [
            | inl below ↦ omega (
              arith,
              largest_skip n first end none,
              largest_most n k first end (omega arith) room,
            )
            | inr above ↦ absurd (apart k n first end (omega arith) none room)
          ]
    ]

-- the test by a mask
pub room_by_mask : (k at size first last span : ℕ) → at ≡ first → size ≡ last - first → first ≤ last
    → span ≡ 2 ^ k - 1 → bit_and at span ≡ 0 → leb span size ≡ is_room k first (last + 1)
unfolding is_room
room_by_mask k at size first last span here room ordered mask low =
    let aligned : first % 2 ^ k ≡ 0 = sym (and_mask first k) ∙ ap (bit_and first) (sym mask)
    ∙ ap (λ n. bit_and n span) (sym here) ∙ low in
    let some = pow_pos k in
    grind (arith, nat_tests)

pub no_room_by_mask : (k at first last span : ℕ) → at ≡ first → span ≡ 2 ^ k - 1
    → (bit_and at span ≡ 0 → ⊥) → nat_eq (bit_and at span) 0 ≡ is_room k first (last + 1)
unfolding is_room
no_room_by_mask k at first last span here mask high =
    let aligned : bit_and at span ≡ first % 2 ^ k =
    ap (bit_and at) mask ∙ ap (λ n. bit_and n (2 ^ k - 1)) here ∙ and_mask first k in
    grind (arith, nat_tests)

-- growing the length, so that the block gets smaller
pub length_more : (len first end : ℕ) → len ≤ 128 → first < end
    → is_room (128 - len) first end ≡ false → largest 128 first end ≡ largest (128 - len) first end
    → (len + 1 ≤ 128) × (largest 128 first end ≡ largest (128 - (len + 1)) first end)
length_more len first end short some none same =
    elim (cases_lt len 128) [
      | inl less ↦
          let one : 128 - len ≡ suc (128 - (len + 1)) = omega arith in
          let none' : is_room (suc (128 - (len + 1))) first end ≡ false =
          subst (λ k. is_room k first end ≡ false) one none in (
            omega arith,
            same ∙ ap (λ k. largest k first end) one
                ∙ largest_skip (128 - (len + 1)) first end none',
          )
      | inr all ↦
          let zero_bits : 128 - len ≡ 0 = omega arith in
          let clash : false ≡ true =
          sym none ∙ ap (λ k. is_room k first end) zero_bits ∙ room_zero first end some in
          cc
    ]

-- the first length with room is that of the largest block
pub length_is : (len first end : ℕ) → len ≤ 128 → is_room (128 - len) first end ≡ true
    → largest 128 first end ≡ largest (128 - len) first end → len ≡ 128 - largest 128 first end
length_is len first end short room same =
    omega (arith, same, largest_here (128 - len) first end room)

-- and begins a block
pub length_block : (len first end : ℕ) → len ≤ 128 → first < end → end ≤ 2 ^ 128
    → is_room (128 - len) first end ≡ true → IsBlock (record { first = first; len = len })
length_block len first end short some low room = record {
  length_fits = short;
  within = omega arith;
  aligned = (room_true (128 - len) first end room).0;
}

-- a block that begins at a point, ends in time, and past which no block ends that begins in it
pub record IsLargest (b : Prefix) (first end : ℕ) : Type 0 where
  pub starts : b.first ≡ first
  pub block : IsBlock b
  pub inside : past b ≤ end
  pub most : (c : Prefix) → IsBlock c → first ≤ c.first → c.first < past b → past c ≤ end
      → past c ≤ past b

-- an aligned block of 2 ^ k addresses that begins in the largest block of 2 ^ j ends in it
pub ends_within : (first end j at k : ℕ) → first % 2 ^ j ≡ 0
    → ((i : ℕ) → i ≤ 128 → first % 2 ^ i ≡ 0 → first + 2 ^ i ≤ end → i ≤ j) → k ≤ 128
    → at % 2 ^ k ≡ 0 → first ≤ at → at < first + 2 ^ j → at + 2 ^ k ≤ end
    → at + 2 ^ k ≤ first + 2 ^ j
ends_within first end j at k aligned most short whole from below inside =
    elim (cases_lt j k) [
      | inl larger ↦
          let lower = multiple_lower at k j (omega arith) whole in
          elim (cases_lt first at) [
            | inl later ↦
                absurd (omega (arith, multiple_apart (2 ^ j) first at aligned lower later))
            | inr here ↦
                let same : at ≡ first = omega arith in
                absurd
                (omega (arith, most k short (subst (λ n. n % 2 ^ k ≡ 0) same whole) (omega arith)))
          ]
      | inr smaller ↦ multiple_apart (2 ^ k) at (first + 2 ^ j) whole
          (multiple_lower (first + 2 ^ j) j k smaller (multiple_next first (2 ^ j) aligned)) below
    ]

pub largest_block_is : (first end : ℕ) → first < end → end ≤ 2 ^ 128
    → IsLargest (largest_block first end) first end
largest_block_is first end some low =
    let j = largest 128 first end in
    let less : j ≤ 128 = largest_le 128 first end in
    let bits : 128 - (128 - j) ≡ j = omega arith in
    let room = room_true j first end (largest_fits 128 first end some) in
    let aligned : first % 2 ^ (128 - (128 - j)) ≡ 0 =
    subst (λ k. first % 2 ^ k ≡ 0) (sym bits) room.0 in
    let inside : first + 2 ^ (128 - (128 - j)) ≤ end =
    subst (λ k. first + 2 ^ k ≤ end) (sym bits) room.1 in
    let most : (i : ℕ) → i ≤ 128 → first % 2 ^ i ≡ 0 → first + 2 ^ i ≤ end → i ≤ 128 - (128 - j) =
    λ i short whole fits. subst (λ k. i ≤ k) (sym bits)
    (largest_most 128 i first end short (room_from i first end whole fits)) in
    record {
      starts = refl;
      block = record { length_fits = omega arith; within = omega arith; aligned = aligned };
      inside = inside;
      most =
          λ c block from below ends. ends_within first end (128 - (128 - j)) c.first
          (128 - c.len) aligned most (omega arith) block.aligned from below ends;
    }
