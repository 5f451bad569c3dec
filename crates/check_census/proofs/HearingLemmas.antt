-- Between two points at which speakers and entries can change, one line is heard, or what is heard
-- was heard lower down.
use Rattle.std.proofs.Common.{◌≡◌, ◌⊎◌, inl, inr, ℕ, ◌*◌, ◌/◌, ◌%◌, ◌^◌, ◌<◌, ◌≤◌, Bool, true}
use Rattle.std.proofs.Common.{false, cond, ◌&&◌, eqb, List, [], ◌∷◌, ◌++◌, map, Option, Some, None}
use Rattle.std.proofs.Common.{refl, sym, ap, ◌∙◌, arith}
use Rattle.std.specs.List.{AllByRecursion}
use Rattle.std.specs.Prelude.{option_map}
use Rattle.std.proofs.lemmas.Bool.{cases_eq, cases_lt, eq-eqb, ne_eqb, eqb-true}
use Rattle.geo_addr.specs.Ranges.{Ends, ground_first, holds, NoCut, range_of_block}
use Rattle.geo_terms.specs.Alias.{home, is_mapped, is_six_to_four}
use Rattle.geo_terms.specs.First.{first_of}
use Rattle.geo_terms.specs.PlaceForm.{same_text}
use Rattle.geo_terms.specs.Precedence.{entries_within, entry_before, entry_of, lies_within}
use Rattle.geo_terms.specs.Precedence.{reference_before, speaker, speaking_entry}
use Rattle.geo_terms.specs.SourceForm.{FeedParts}
use Rattle.geo_terms.specs.Sources.{InForce, entries_in, feed_of, references}
use Rattle.geo_terms.specs.declared.statement.Entry.{Entry}
use Rattle.geo_terms.specs.declared.statement.Reference.{Reference}
use Rattle.geo_terms.proofs.Constancy.{each_same, same_filter}
use Rattle.check_census.specs.Sweep.{mapped_range, six_to_four_range, fixed_ranges, hearing_ranges}
use Rattle.check_census.specs.Verdicts.{heard_line, line_for}
use Rattle.check_census.proofs.CountLemmas.{text_from_same}

-- tests that agree on each member agree with another test beside them
both_same : {X : Type 0} (p q r : X → Bool) (xs : List X) → AllByRecursion (λ x. p x ≡ q x) xs
    → AllByRecursion (λ x. (p x && r x) ≡ (q x && r x)) xs
both_same p q r [] h = tt
both_same p q r (x ∷ xs) h = (ap (λ t. t && r x) h.0, both_same p q r xs h.1)

-- a point between two addresses, or not
apart : (p a c : ℕ) → (p < c → c ≤ a → ⊥) → (c ≤ p) ⊎ (a < c)
apart p a c none =
    elim (cases_lt p c) [
      | inl lt ↦ elim (cases_lt a c) [ inl below ↦ inr below | inr above ↦ absurd (none lt above) ]
      | inr ge ↦ inl ge
    ]

-- where no end of a fixed range lies between two addresses
record AreApart (p a : ℕ) : Type 0 where
  mapped_first : (0xffff * 2 ^ 32 ≤ p) ⊎ (a < 0xffff * 2 ^ 32)
  mapped_past : (0x10000 * 2 ^ 32 ≤ p) ⊎ (a < 0x10000 * 2 ^ 32)
  six_first : (0x2002 * 2 ^ 112 ≤ p) ⊎ (a < 0x2002 * 2 ^ 112)
  six_past : (0x2003 * 2 ^ 112 ≤ p) ⊎ (a < 0x2003 * 2 ^ 112)

are_apart : (p a : ℕ) → NoCut fixed_ranges p a → AreApart p a
unfolding ground_first
are_apart p a none = record {
  mapped_first = apart p a (0xffff * 2 ^ 32)
      (λ lt le. none (0xffff * 2 ^ 32) lt le (1, mapped_range, omega arith, refl, inl refl));
  mapped_past = apart p a (0x10000 * 2 ^ 32)
      (λ lt le. none (0x10000 * 2 ^ 32) lt le (1, mapped_range, omega arith, refl, inr refl));
  six_first = apart p a (0x2002 * 2 ^ 112)
      (λ lt le. none (0x2002 * 2 ^ 112) lt le (2, six_to_four_range, omega arith, refl, inl refl));
  six_past = apart p a (0x2003 * 2 ^ 112)
      (λ lt le. none (0x2003 * 2 ^ 112) lt le (2, six_to_four_range, omega arith, refl, inr refl));
}

same_eqb : (m x y : ℕ) → (x ≡ m → y ≡ m) → (y ≡ m → x ≡ m) → eqb x m ≡ eqb y m
same_eqb m x y f g =
    elim (cases_eq x m) [
      | inl e ↦ eq-eqb x m e ∙ sym (eq-eqb y m (f e))
      | inr ne ↦ ne_eqb x m ne ∙ sym (ne_eqb y m (λ e. ne (g e)))
    ]

same_mapped : (p a : ℕ) → p ≤ a → AreApart p a → is_mapped p ≡ is_mapped a
same_mapped p a le far =
    same_eqb 0xffff (p / 2 ^ 32) (a / 2 ^ 32)
    (λ e. elim far.mapped_past [ inl high ↦ absurd (omega arith) | inr low ↦ omega arith ])
    (λ e. elim far.mapped_first [ inl high ↦ omega arith | inr low ↦ absurd (omega arith) ])

same_six : (p a : ℕ) → p ≤ a → AreApart p a → is_six_to_four p ≡ is_six_to_four a
same_six p a le far =
    same_eqb 0x2002 (p / 2 ^ 112) (a / 2 ^ 112)
    (λ e. elim far.six_past [ inl high ↦ absurd (omega arith) | inr low ↦ omega arith ])
    (λ e. elim far.six_first [ inl high ↦ omega arith | inr low ↦ absurd (omega arith) ])

-- an address of no alias block is at home
own_home : (a : ℕ) → is_six_to_four a ≡ false → is_mapped a ≡ false → home a ≡ a
unfolding home
own_home a six mapped = ap (λ b. cond b (a / 2 ^ 80 % 2 ^ 32) (cond (is_mapped a) (a % 2 ^ 32) a))
    six ∙ ap (λ b. cond b (a % 2 ^ 32) a) mapped

home_of_six : (a : ℕ) → is_six_to_four a ≡ true → home a ≡ a / 2 ^ 80 % 2 ^ 32
unfolding home
home_of_six a six = ap (λ b. cond b (a / 2 ^ 80 % 2 ^ 32) (cond (is_mapped a) (a % 2 ^ 32) a)) six

home_of_mapped : (a : ℕ) → is_six_to_four a ≡ false → is_mapped a ≡ true → home a ≡ a % 2 ^ 32
unfolding home
home_of_mapped a six mapped =
    ap (λ b. cond b (a / 2 ^ 80 % 2 ^ 32) (cond (is_mapped a) (a % 2 ^ 32) a)) six
    ∙ ap (λ b. cond b (a % 2 ^ 32) a) mapped

-- an IPv4 address is at home
v4_home : (a : ℕ) → a < 2 ^ 32 → home a ≡ a
v4_home a low = own_home a (ne_eqb (a / 2 ^ 112) 0x2002 (λ e. omega arith))
    (ne_eqb (a / 2 ^ 32) 0xffff (λ e. omega arith))

module _ (s : InForce) (f : FeedParts) (there : feed_of s f.url ≡ Some f) where
  -- what is heard at the home of an address
  at_home : ℕ → Option ℕ
  at_home b = line_for f.url (speaker s b) (speaking_entry s b)

  module _ (p a : ℕ) (le : p ≤ a) (none : NoCut (hearing_ranges s f.entries) p a) where
    none_fixed : NoCut fixed_ranges p a
    none_fixed =
        (each_same (λ (e : Entry). range_of_block e.block) f.entries fixed_ranges p a le
        ((each_same (λ (r : Reference). r.range) (references s)
        (map (λ (e : Entry). range_of_block e.block) f.entries ++ fixed_ranges) p a le
        none).1)).1

    same_speaker : speaker s p ≡ speaker s a
    unfolding speaker
    same_speaker =
        let refs = each_same (λ (r : Reference). r.range) (references s)
        (map (λ (e : Entry). range_of_block e.block) f.entries ++ fixed_ranges) p a le none in
        ap (first_of reference_before)
        (same_filter (λ (r : Reference). holds r.range p) (λ r. holds r.range a)
        (references s) refs.0)

    same_within : (r : Ends) → entries_within f.entries r p ≡ entries_within f.entries r a
    same_within r =
        let refs = each_same (λ (x : Reference). x.range) (references s)
        (map (λ (e : Entry). range_of_block e.block) f.entries ++ fixed_ranges) p a le none in
        let ents = each_same (λ (e : Entry). range_of_block e.block) f.entries fixed_ranges p a le
        refs.1 in
        same_filter _ _ f.entries (both_same (λ (e : Entry). holds (range_of_block e.block) p)
        (λ e. holds (range_of_block e.block) a) (λ e. lies_within e.block r) f.entries ents.0)

    same_line : (o : Option Reference)
        → line_for f.url o (entry_of s o p) ≡ line_for f.url o (entry_of s o a)
    same_line None = refl
    same_line (Some r) = by (same_text r.url f.url) refl
      where
        by : (b : Bool) → same_text r.url f.url ≡ b
            → cond b (option_map (λ (x : Entry). x.line) (entry_of s (Some r) p)) None ≡ cond b
            (option_map (λ (x : Entry). x.line) (entry_of s (Some r) a)) None
        by false e = refl
        by true e =
            let feed : entries_in (feed_of s r.url) ≡ f.entries =
            ap (λ u. entries_in (feed_of s u)) (text_from_same r.url f.url e)
            ∙ ap entries_in there in
            let one : entries_within (entries_in (feed_of s r.url)) r.range p ≡ entries_within
            (entries_in (feed_of s r.url)) r.range a =
            ap (λ es. entries_within es r.range p) feed ∙ same_within r.range
            ∙ sym (ap (λ es. entries_within es r.range a) feed) in
            ap (λ es. option_map (λ (x : Entry). x.line) (first_of entry_before es)) one

    same_at_home : at_home p ≡ at_home a
    unfolding at_home speaking_entry
    same_at_home = same_line (speaker s p)
        ∙ ap (λ o. line_for f.url o (entry_of s o a)) same_speaker

  heard_is : (a : ℕ) → heard_line s f.url a ≡ at_home (home a)
  unfolding at_home
  heard_is a = refl

  -- heard at an alias address, and so lower down
  heard_lower : (p a : ℕ) → home a < 2 ^ 32 → 2 ^ 32 ≤ p
      → (b : ℕ) × (b < p) × (heard_line s f.url a ≡ heard_line s f.url b)
  heard_lower p a low high = (
    home a,
    omega arith,
    heard_is a
        ∙ sym (ap at_home (v4_home (home a) low)) ∙ sym (heard_is (home a)),
  )

  pub heard_cases : (p a : ℕ) → p < a → NoCut (hearing_ranges s f.entries) p a
      → (heard_line s f.url a ≡ heard_line s f.url p)
      ⊎ ((b : ℕ) × (b < p) × (heard_line s f.url a ≡ heard_line s f.url b))
  heard_cases p a lt none = by (is_six_to_four a) (is_mapped a) refl refl
    where
      far : AreApart p a
      far = are_apart p a (none_fixed p a (omega arith) none)

      by : (x y : Bool) → is_six_to_four a ≡ x → is_mapped a ≡ y
          → (heard_line s f.url a ≡ heard_line s f.url p)
          ⊎ ((b : ℕ) × (b < p) × (heard_line s f.url a ≡ heard_line s f.url b))
      by true y six mapped =
          let is : a / 2 ^ 112 ≡ 0x2002 = eqb-true (a / 2 ^ 112) 0x2002 six in
          let home_is = home_of_six a six in
          let high : 2 ^ 32 ≤ p = elim far.six_first
          [ inl ge ↦ omega arith | inr below ↦ absurd (omega arith) ] in
          inr (heard_lower p a (omega arith) high)
      by false true six mapped =
          let is : a / 2 ^ 32 ≡ 0xffff = eqb-true (a / 2 ^ 32) 0xffff mapped in
          let home_is = home_of_mapped a six mapped in
          let high : 2 ^ 32 ≤ p = elim far.mapped_first
          [ inl ge ↦ omega arith | inr below ↦ absurd (omega arith) ] in
          inr (heard_lower p a (omega arith) high)
      by false false six mapped =
          let home_a : home a ≡ a = own_home a six mapped in
          let home_p : home p ≡ p = own_home p (same_six p a (omega arith) far ∙ six)
          (same_mapped p a (omega arith) far ∙ mapped) in
          inl (heard_is a ∙ ap at_home home_a ∙ sym (same_at_home p a (omega arith) none)
          ∙ sym (ap at_home home_p) ∙ sym (heard_is p))
