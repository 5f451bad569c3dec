-- Parts between dots.
use Rattle.std.proofs.Common.{◌≡◌, ℕ, Bool, true, false, ◌&&◌, List, [], ◌∷◌, Ok, Err, refl, ap}
use Rattle.std.proofs.lemmas.Bool.{and_left, and_right}
use Rattle.geo_addr.specs.Lines.{pieces}
use Rattle.geo_addr.specs.Ipv4Texts.{is_part, is_octet, are_four, ipv4_of, octets_number}
use Rattle.geo_addr.specs.declared.fault.AddrFault.TheVariants.{Form, Octet}
use Rattle.geo_addr.proofs.PartLemmas.{pieces_digits, whole_piece}

early_fails : (test : List ℕ → Bool) (a b c : List ℕ) (parts : List (List ℕ))
    → (test a && test b && test c) ≡ false → are_four test (a ∷ b ∷ c ∷ parts) ≡ false
early_fails test a b c [] fails = refl
early_fails test a b c (d ∷ []) fails = rw fails refl
early_fails test a b c (d ∷ e ∷ parts) fails = refl

last_fails : (a b c d : List ℕ) (parts : List (List ℕ)) → pieces 46 d ≡ parts → is_part d ≡ false
    → are_four is_part (a ∷ b ∷ c ∷ parts) ≡ false
last_fails a b c d [] cut fails = refl
last_fails a b c d (part ∷ []) cut fails = rw (whole_piece 46 d part cut) (and_right _ _ fails)
last_fails a b c d (part ∷ next ∷ parts) cut fails = refl

-- what is not four parts is not in form
pub not_four : (parts : List (List ℕ)) → are_four is_part parts ≡ false → Err Form ≡ ipv4_of parts
unfolding ipv4_of
not_four parts fails = rw fails refl

pub first_fails : (a b c : List ℕ) (parts : List (List ℕ)) → is_part a ≡ false
    → Err Form ≡ ipv4_of (a ∷ b ∷ c ∷ parts)
first_fails a b c parts fails =
    not_four _ (early_fails is_part a b c parts (and_left _ _ (and_left _ _ fails)))

pub second_fails : (a b c : List ℕ) (parts : List (List ℕ)) → is_part b ≡ false
    → Err Form ≡ ipv4_of (a ∷ b ∷ c ∷ parts)
second_fails a b c parts fails =
    not_four _ (early_fails is_part a b c parts (and_left _ _ (and_right _ _ fails)))

pub third_fails : (a b c : List ℕ) (parts : List (List ℕ)) → is_part c ≡ false
    → Err Form ≡ ipv4_of (a ∷ b ∷ c ∷ parts)
third_fails a b c parts fails = not_four _ (early_fails is_part a b c parts (and_right _ _ fails))

-- a last piece that is no part has no parts when it is cut again
pub fourth_fails : (a b c d : List ℕ) → is_part d ≡ false
    → Err Form ≡ ipv4_of (a ∷ b ∷ c ∷ pieces 46 d)
fourth_fails a b c d fails = not_four _ (last_fails a b c d (pieces 46 d) refl fails)

-- four parts, which are octets or not
pub record AreParts (a b c d : List ℕ) : Type 0 where
  pub first : is_part a ≡ true
  pub second : is_part b ≡ true
  pub third : is_part c ≡ true
  pub fourth : is_part d ≡ true

pub no_octets : (a b c d : List ℕ)
    → AreParts a b c d → (is_octet a && is_octet b && is_octet c && is_octet d) ≡ false
    → Err Octet ≡ ipv4_of (a ∷ b ∷ c ∷ pieces 46 d)
unfolding ipv4_of
no_octets a b c d h fails =
    rw (pieces_digits 1 3 d h.fourth, h.first, h.second, h.third, h.fourth, fails) refl

pub four_octets : (a b c d : List ℕ) (n : ℕ)
    → AreParts a b c d → (is_octet a && is_octet b && is_octet c && is_octet d) ≡ true
    → n ≡ octets_number (a ∷ b ∷ c ∷ d ∷ []) → Ok n ≡ ipv4_of (a ∷ b ∷ c ∷ pieces 46 d)
unfolding ipv4_of
four_octets a b c d n h octets is =
    rw (pieces_digits 1 3 d h.fourth, h.first, h.second, h.third, h.fourth, octets) (ap Ok is)
