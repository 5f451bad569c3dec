-- A place that clean fields make is clean: its country and its region are letters,
-- digits and dashes.
use Rattle.std.proofs.Common.{◌≡◌, ℕ, ◌+◌, Bool, true, false, not, cond, ◌&&◌, ◌||◌, nat_eq, nat_le}
use Rattle.std.proofs.Common.{List, [], ◌∷◌, length, reverse, refl, ap, ◌∙◌, subst, arith}
use Rattle.std.specs.Prelude.{Ok, Err, if◌then◌else◌}
use Rattle.std.specs.Char.{is_ascii_alphabetic, is_ascii_alphanumeric, to_ascii_uppercase}
use Rattle.std.specs.List.{list_all, prefix_len}
use Rattle.std.proofs.lemmas.Bool.{and_parts}
use Rattle.std.proofs.lemmas.Bool.Decides.{nat_tests}
use Rattle.std.proofs.lemmas.List.{reverse-append}
use Rattle.std.proofs.lemmas.List.Folds.{list_all-append}
use Rattle.geo_addr.specs.Lines.{is_blank}
use Rattle.geo_terms.specs.PlaceForm.{PlaceParts, country_fits, country_of_region, is_empty}
use Rattle.geo_terms.specs.PlaceForm.{is_subdivision, lengths_fit, parts_of, region_fits}
use Rattle.geo_terms.specs.PlaceForm.{says_nothing, upper}
use Rattle.geo_terms.specs.SaidOf.{said_by, said_of}
use Rattle.geo_terms.specs.declared.place.PlaceFault.TheVariants.{Country, Region, TooLong}
use Rattle.geo_terms.specs.declared.place.Said.{Said}
use Rattle.geo_terms.specs.declared.place.Said.TheVariants.{Nothing, At}
use Rattle.csv_lines.specs.Clean.{IsClean, IsCleanPlace, IsCleanSaid, PlacesAreClean, is_clean}
use Rattle.csv_lines.specs.Rests.{column}

-- a letter, a digit or a dash
abbrev is_word : ℕ → Bool
is_word b = is_ascii_alphanumeric b || nat_eq b 45

is_letter : (b : ℕ) → is_ascii_alphabetic b ≡ true → is_word b ≡ true
is_letter b h = grind (arith, nat_tests)

is_digit_too : (b : ℕ) → is_ascii_alphanumeric b ≡ true → is_word b ≡ true
is_digit_too b h = grind (arith, nat_tests)

is_dash : (b : ℕ) → nat_eq b 45 ≡ true → is_word b ≡ true
is_dash b h = grind (arith, nat_tests)

no_blank : (b : ℕ) → is_word b ≡ true → is_blank b ≡ false
no_blank b h = grind (arith, nat_tests)

clean_byte : (b : ℕ) → is_word b ≡ true → is_clean b ≡ true
clean_byte b h = grind (arith, nat_tests)

upper_byte : (b : ℕ) → is_word b ≡ true → is_word (to_ascii_uppercase b) ≡ true
upper_byte b h = grind (arith, nat_tests)

-- ---- texts of such bytes

clean_bytes : (xs : List ℕ) → list_all is_word xs ≡ true → list_all is_clean xs ≡ true
clean_bytes [] h = refl
clean_bytes (x ∷ xs) h =
    let (one, more) = and_parts (is_word x) (list_all is_word xs) h in
    rw (clean_byte x one, clean_bytes xs more) refl

no_blank_first : (xs : List ℕ) → list_all is_word xs ≡ true → prefix_len is_blank xs ≡ 0
no_blank_first [] h = refl
no_blank_first (x ∷ xs) h =
    let (one, more) = and_parts (is_word x) (list_all is_word xs) h in
    rw (no_blank x one) refl

upper_word : (xs : List ℕ) → list_all is_word xs ≡ true → list_all is_word (upper xs) ≡ true
upper_word [] h = refl
upper_word (x ∷ xs) h =
    let (one, more) = and_parts (is_word x) (list_all is_word xs) h in
    rw (upper_byte x one, upper_word xs more) refl

backwards : (xs : List ℕ) → list_all is_word xs ≡ true → list_all is_word (reverse xs) ≡ true
backwards [] h = refl
backwards (x ∷ xs) h =
    let (one, more) = and_parts (is_word x) (list_all is_word xs) h in
    ap (list_all is_word) (reverse-append (x ∷ []) xs)
    ∙ list_all-append is_word (reverse xs) (x ∷ [])
    ∙ rw (backwards xs more, one) refl

word_is_clean : (xs : List ℕ) → list_all is_word xs ≡ true → IsClean xs
word_is_clean xs h = record {
  bytes = clean_bytes xs h;
  start = no_blank_first xs h;
  end = no_blank_first (reverse xs) (backwards xs h);
}

-- ---- countries and regions

country_word : (c : List ℕ) → country_fits c ≡ true → list_all is_word c ≡ true
unfolding country_fits
country_word [] h = refl
country_word (a ∷ []) h = absurd (let f : false ≡ true = h in cc)
country_word (a ∷ b ∷ []) h =
    let (one, two) = and_parts (is_ascii_alphabetic a) (is_ascii_alphabetic b) h in
    rw (is_letter a one, is_letter b two) refl
country_word (a ∷ b ∷ c ∷ more) h = absurd (let f : false ≡ true = h in cc)

digits_word : (xs : List ℕ) → list_all is_ascii_alphanumeric xs ≡ true → list_all is_word xs ≡ true
digits_word [] h = refl
digits_word (x ∷ xs) h =
    let (one, more) = and_parts (is_ascii_alphanumeric x) (list_all is_ascii_alphanumeric xs) h in
    rw (is_digit_too x one, digits_word xs more) refl

region_word : (r : List ℕ) → region_fits r ≡ true → list_all is_word r ≡ true
unfolding region_fits
region_word [] h = refl
region_word (a ∷ []) h = absurd (let f : false ≡ true = h in cc)
region_word (a ∷ b ∷ []) h = absurd (let f : false ≡ true = h in cc)
region_word (a ∷ b ∷ dash ∷ rest) h =
    let (front, last) = and_parts (is_ascii_alphabetic a && is_ascii_alphabetic b && nat_eq dash 45)
    (is_subdivision rest) h in
    let (pair, third) =
    and_parts (is_ascii_alphabetic a && is_ascii_alphabetic b) (nat_eq dash 45) front in
    let (one, two) = and_parts (is_ascii_alphabetic a) (is_ascii_alphabetic b) pair in
    let (short, digits) = and_parts (not (is_empty rest) && nat_le (length rest) 3)
    (list_all is_ascii_alphanumeric rest) last in
    rw (is_letter a one, is_letter b two, is_dash dash third, digits_word rest digits) refl

pair_word : (r : List ℕ) → list_all is_word r ≡ true → list_all is_word (country_of_region r) ≡ true
pair_word [] h = refl
pair_word (a ∷ []) h = refl
pair_word (a ∷ b ∷ more) h =
    let (one, left) = and_parts (is_word a) (list_all is_word (b ∷ more)) h in
    let (two, rest) = and_parts (is_word b) (list_all is_word more) left in
    rw (one, two) refl

named_word : (c r : List ℕ) → list_all is_word c ≡ true → list_all is_word r ≡ true
    → list_all is_word (if is_empty c then country_of_region r else c) ≡ true
named_word [] r h k = pair_word r k
named_word (b ∷ bs) r h k = h

-- ---- places

told : (b1 b2 b3 : Bool) (one said : Said)
    → cond (not b1) (Err Country)
    (cond (not b2) (Err Region) (cond (not b3) (Err TooLong) (Ok one))) ≡ Ok said
    → (b1 ≡ true) × (b2 ≡ true) × (one ≡ said)
told true true true one said e = (refl, refl, cc)
told true true false one said e = absurd cc
told true false b3 one said e = absurd cc
told false b2 b3 one said e = absurd cc

said_clean : (p : PlaceParts) (x : Bool) (said : Said) → IsCleanPlace p
    → cond x Nothing (At p) ≡ said → IsCleanSaid said
said_clean p true said k e = subst IsCleanSaid e tt
said_clean p false said k e = subst IsCleanSaid e k

pub places_are_clean : PlacesAreClean
unfolding said_of
places_are_clean i row said texts e =
    let country = column i row in
    let region = column (i + 1) row in
    let city = column (i + 2) row in
    let postal = column (i + 3) row in
    let p : PlaceParts = parts_of country region city postal in
    let (one, two, is) =
    told (country_fits country) (region_fits region) (lengths_fit city postal) (said_by p) said e in
    let regions = region_word region two in
    said_clean p (says_nothing p) said
    (record {
      country =
          word_is_clean p.country
          (upper_word (if is_empty country then country_of_region region else country)
          (named_word country region (country_word country one) regions));
      region = word_is_clean p.region (upper_word region regions);
      city = texts.clean (i + 2);
      postal = texts.clean (i + 3);
    })
    is
