-- The census of a root, from how many addresses end at each leaf.
use Rattle.std.proofs.Common.{◌≡◌, ℕ, zero, suc, ◌+◌, ◌-◌, ◌^◌, ◌<◌, ◌≤◌, Bool, true, false, not}
use Rattle.std.proofs.Common.{◌&&◌, ltb, List, length, Option, Some, None, refl, sym, ap, ◌∙◌}
use Rattle.std.proofs.Common.{arith}
use Rattle.std.proofs.lemmas.Bool.{lt-ltb, le-ltb}
use Rattle.std.proofs.lemmas.Option.{slice_get_past}
use Rattle.std.specs.Prelude.{option_map}
use Rattle.geo_addr.specs.Bits.{bits_of}
use Rattle.geo_terms.specs.PlaceForm.{PlaceParts}
use Rattle.trie_core.specs.Tree.{Tree, height, look}
use Rattle.check_census.specs.Census.{counts_below, country_of, with_address}
use Rattle.check_census.specs.Counts.{counts_of, is_text, has_country}
use Rattle.check_census.specs.Laws.{EqualCounts}
use Rattle.check_census.specs.Spread.{ended_at, IsPlain}
use Rattle.check_census.specs.Tally.{count_below, passes, tally, low_part, tally_beyond}
use Rattle.check_census.proofs.CountLemmas.{good_counts_of, good_counts_below, v4_counts_of}
use Rattle.check_census.proofs.CountLemmas.{v6_counts_of, v4_counts_below, v6_counts_below}
use Rattle.check_census.proofs.CountLemmas.{same_counts}
use Rattle.check_census.proofs.TallyLemmas.{count_below-same, count_below-split}
use Rattle.check_census.proofs.TallyLemmas.{count_below-constant, tally-counts, low_part-counts}
use Rattle.check_census.proofs.TallyLemmas.{height-low_part, tally_beyond-counts}

and_first : (b c : Bool) → c ≡ true → (b && c) ≡ b
and_first true c e = e
and_first false c e = refl

and_none : (b c : Bool) → c ≡ false → (b && c) ≡ false
and_none true c e = e
and_none false c e = refl

-- numbers that pass below a bound, and those from it on
count_first : (p : ℕ → Bool) (m k : ℕ) → count_below (λ a. p a && ltb a m) (m + k) ≡ count_below p m
count_first p m k =
    let q : ℕ → Bool = λ a. p a && ltb a m in
    let low = count_below-same (λ a. p a && ltb a m) p m
    (λ a lt. and_first (p a) (ltb a m) (lt-ltb a m lt)) in
    let high : count_below (λ i. p (m + i) && ltb (m + i) m) k ≡ 0 =
    count_below-same (λ i. p (m + i) && ltb (m + i) m) (λ i. false) k
    (λ i lt. and_none (p (m + i)) (ltb (m + i) m) (le-ltb (m + i) m (omega arith)))
    ∙ count_below-constant false k in
    let whole = count_below-split (λ a. p a && ltb a m) m k in
    omega arith

count_rest : (p : ℕ → Bool) (m k : ℕ)
    → count_below (λ a. p a && not (ltb a m)) (m + k) ≡ count_below (λ i. p (m + i)) k
count_rest p m k =
    let low : count_below (λ a. p a && not (ltb a m)) m ≡ 0 =
    count_below-same (λ a. p a && not (ltb a m)) (λ a. false) m
    (λ a lt. and_none (p a) (not (ltb a m)) (ap not (lt-ltb a m lt)))
    ∙ count_below-constant false m in
    let high = count_below-same (λ i. p (m + i) && not (ltb (m + i) m)) (λ i. p (m + i)) k
    (λ i lt. and_first (p (m + i)) (not (ltb (m + i) m))
    (ap not (le-ltb (m + i) m (omega arith)))) in
    let whole = count_below-split (λ a. p a && not (ltb a m)) m k in
    omega arith

-- a leaf beyond all numbers of places has no country, as leaf 0
pub IsPlain-has_country : (places : List PlaceParts) (c : List ℕ) (slots : ℕ)
    → slots ≡ length places + 1 → IsPlain slots (has_country places c)
IsPlain-has_country places c slots is zero le = absurd (omega arith)
IsPlain-has_country places c slots is (suc k) le =
    ap (λ p. is_text c (option_map (λ (q : PlaceParts). q.country) p))
    (slice_get_past places k (omega arith))

passes_is : (places : List PlaceParts) (c : List ℕ) (o : Option ℕ)
    → passes (has_country places c) o ≡ is_text c (country_of places o)
passes_is places c None = refl
passes_is places c (Some n) = refl

module _ (places : List PlaceParts) (xs ys : List ℕ) (slots : ℕ) (t : Tree ℕ)
    (slots_are : slots ≡ length places + 1) (low : height t ≤ 128)
    (sums_x : (test : ℕ → Bool) → IsPlain slots test
    → ended_at test xs slots ≡ tally test (2 ^ 32) (low_part 96 t))
    (sums_y : (test : ℕ → Bool) → IsPlain slots test
    → ended_at test ys slots ≡ tally_beyond test 32 96 t) where
  low_is : (c : List ℕ) → tally (has_country places c) (2 ^ 32) (low_part 96 t) ≡ count_below
      (λ a. is_text c (country_of places (look t (bits_of 128 a)))) (2 ^ 32)
  low_is c =
      tally-counts (has_country places c) 32 (low_part 96 t) (height-low_part 32 96 t low)
      ∙ sym (low_part-counts (has_country places c) 32 96 t)
      ∙ count_below-same (λ a. passes (has_country places c) (look t (bits_of 128 a)))
      (λ a. is_text c (country_of places (look t (bits_of 128 a)))) (2 ^ 32)
      (λ a lt. passes_is places c (look t (bits_of 128 a)))

  high_is : (c : List ℕ) → tally_beyond (has_country places c) 32 96 t ≡ count_below
      (λ i. is_text c (country_of places (look t (bits_of 128 (2 ^ 32 + i))))) (2 ^ 128 - 2 ^ 32)
  high_is c =
      tally_beyond-counts (has_country places c) 32 96 t low
      ∙ count_below-same (λ i. passes (has_country places c) (look t (bits_of 128 (2 ^ 32 + i))))
      (λ i. is_text c (country_of places (look t (bits_of 128 (2 ^ 32 + i)))))
      (2 ^ 128 - 2 ^ 32)
      (λ i lt. passes_is places c (look t (bits_of 128 (2 ^ 32 + i))))

  -- the counts of places are those of all addresses
  pub counts_are_census : counts_of places xs ys slots ≡ counts_below
      (λ a. country_of places (look t (bits_of 128 a))) (2 ^ 128)
  counts_are_census =
      same_counts (counts_of places xs ys slots)
      (counts_below (λ a. country_of places (look t (bits_of 128 a))) (2 ^ 128))
      (good_counts_of places xs ys slots)
      (good_counts_below (λ a. country_of places (look t (bits_of 128 a))) (2 ^ 128))
      (λ c. v4_counts_of c places xs ys slots
      ∙ sums_x (has_country places c) (IsPlain-has_country places c slots slots_are) ∙ low_is c
      ∙ sym (count_first (λ a. is_text c (country_of places (look t (bits_of 128 a)))) (2 ^ 32)
      (2 ^ 128 - 2 ^ 32)) ∙ sym (v4_counts_below c
      (λ a. country_of places (look t (bits_of 128 a))) (2 ^ 128)))
      (λ c. v6_counts_of c places xs ys slots
      ∙ sums_y (has_country places c) (IsPlain-has_country places c slots slots_are) ∙ high_is c
      ∙ sym (count_rest (λ a. is_text c (country_of places (look t (bits_of 128 a)))) (2 ^ 32)
      (2 ^ 128 - 2 ^ 32)) ∙ sym (v6_counts_below c
      (λ a. country_of places (look t (bits_of 128 a))) (2 ^ 128)))

counts_below-same : (f g : ℕ → Option (List ℕ)) (n : ℕ) → ((a : ℕ) → a < n → f a ≡ g a)
    → counts_below f n ≡ counts_below g n
unfolding counts_below
counts_below-same f g zero same = refl
counts_below-same f g (suc n) same =
    ap (λ o. with_address o (ltb n (2 ^ 32)) (counts_below f n)) (same n (omega arith))
    ∙ ap (with_address (g n) (ltb n (2 ^ 32)))
    (counts_below-same f g n (λ a lt. same a (omega arith)))

pub equal_counts : EqualCounts
equal_counts f g same = counts_below-same f g (2 ^ 128) same
