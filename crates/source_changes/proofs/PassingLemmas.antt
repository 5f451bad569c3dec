-- Grounds that are passed over.
use Rattle.std.proofs.Common.{◌≡◌, ◌∙◌, ℕ, ◌^◌, ◌<◌, ◌≤◌, ◌⊎◌, Bool, true, false, ◌||◌, List, []}
use Rattle.std.proofs.Common.{◌∷◌, ◌++◌, refl, sym, arith, inl, inr, Option}
use Rattle.std.specs.Option.{option_to_list}
use Rattle.std.specs.Prelude.{IsTrue}
use Rattle.std.proofs.lemmas.Bool.Decides.{nat_tests}
use Rattle.std.proofs.lemmas.List.Folds.{list_any-append}
use Rattle.geo_addr.specs.Ranges.{Ends, IsWithin, ground_first, holds, is_v4}
use Rattle.source_changes.specs.Packing.{ends_of}
use Rattle.source_changes.specs.Passing.{IsPassed, LieIn, LiesIn}
use Rattle.source_changes.specs.Touched.{is_touched}
use Rattle.source_changes.specs.declared.ground_list.Packed.{Packed}

-- a range of IPv4 holds what lies between its ends
pub v4_holds : (r : Ends) (a : ℕ) → is_v4 r ≡ true → r.first ≤ a → a ≤ r.last → holds r a ≡ true
unfolding holds ground_first
v4_holds r a is low high = grind (arith, nat_tests)

-- what a range holds lies between its ends
held_within : (r : Ends) (a : ℕ) → holds r a ≡ true → IsWithin r a
unfolding holds ground_first
held_within r a e = (grind (arith, nat_tests), grind (arith, nat_tests))

-- a pair that is passed over
pub pair_lies_in : (chunk : Ends) (around within one : Packed)
    → ((a : ℕ) → a < 2 ^ 32 → IsWithin chunk a → IsWithin (ends_of around) a)
    → IsPassed around within one → LiesIn chunk within (ends_of one)
pair_lies_in chunk around within one low p = record {
  address = let below : one.last < 2 ^ 32 = p.within in omega arith;
  inside = λ a h inside. let between = held_within (ends_of one) a h in
      p.inside a between (low a (omega (arith, between.1, p.within)) inside);
}

-- a ground that has no address of the chunk
pub apart_lies_in : (chunk : Ends) (within : Packed) (one : Ends) → one.last < 2 ^ 128
    → (one.last < chunk.first) ⊎ (chunk.last < one.first) → LiesIn chunk within one
apart_lies_in chunk within one below apart = record {
  address = below;
  inside = λ a h inside. let between = held_within one a h in
      absurd (elim apart [
        | inl low ↦ omega (arith, between.1, low, inside.0)
        | inr high ↦ omega (arith, between.0, high, inside.1)
      ]);
}

-- one more ground that is passed over
pub one_more : (chunk : Ends) (held : Option Ends) (within : Packed) (passed : List Ends)
    (one : Ends)
    → ((a : ℕ) → IsWithin (ends_of within) a → IsTrue (is_touched (option_to_list held) a))
    → LieIn chunk held passed → LiesIn chunk within one → LieIn chunk held (passed ++ one ∷ [])
one_more chunk held within passed one high before lies = record {
  addresses = λ a e. below a (is_touched passed a) refl (split a e);
  inside = λ a e inside. within_held a inside (is_touched passed a) refl (split a e);
}
  where
    split : (a : ℕ) → is_touched (passed ++ one ∷ []) a ≡ true
        → (is_touched passed a || (holds one a || false)) ≡ true
    split a e = sym (list_any-append (λ r. holds r a) passed (one ∷ [])) ∙ e

    last : (b : Bool) → (b || false) ≡ true → b ≡ true
    last true e = refl
    last false e = e

    below : (a : ℕ) (b : Bool) → is_touched passed a ≡ b → (b || (holds one a || false)) ≡ true
        → a < 2 ^ 128
    below a true is e = before.addresses a is
    below a false is e =
        let between = held_within one a (last (holds one a) e) in
        omega (arith, between.1, lies.address)

    within_held : (a : ℕ) → IsWithin chunk a → (b : Bool) → is_touched passed a ≡ b
        → (b || (holds one a || false)) ≡ true → IsTrue (is_touched (option_to_list held) a)
    within_held a inside true is e = before.inside a is inside
    within_held a inside false is e = high a (lies.inside a (last (holds one a) e) inside)
