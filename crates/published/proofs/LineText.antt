-- A line that is written of a block and a place: what it is made of, and what it says.
use Rattle.std.proofs.Common.{◌≡◌, ℕ, ◌<◌, Bool, true, false, not, cond, ◌==◌}
use Rattle.std.proofs.Common.{List, [], ◌∷◌, ◌++◌, length, map, flat_map, Option, None, Some, refl}
use Rattle.std.proofs.Common.{sym, ap, ◌∙◌, subst, arith}
use Rattle.std.specs.Prelude.{Ok}
use Rattle.std.specs.List.{list_all}
use Rattle.std.proofs.lemmas.Bool.{and_parts}
use Rattle.std.proofs.lemmas.List.{append-nil}
use Rattle.std.proofs.lemmas.Str.{is_utf8-from_IsUtf8}
use Rattle.geo_addr.specs.Prefixes.{block_in}
use Rattle.geo_addr.specs.Printing.{block_text}
use Rattle.geo_addr.specs.Ranges.{IsBlock, Prefix}
use Rattle.geo_terms.specs.PlaceForm.{PlaceParts, IsPlace, country_fits, country_of_region}
use Rattle.geo_terms.specs.PlaceForm.{is_empty, lengths_fit, parts_of, region_fits, says_nothing}
use Rattle.geo_terms.specs.PlaceForm.{upper}
use Rattle.geo_terms.specs.SaidOf.{said_by as of_parts, said_of}
use Rattle.geo_terms.specs.declared.place.Said.{Said}
use Rattle.geo_terms.specs.declared.place.Said.TheVariants.{Nothing, At}
use Rattle.csv_lines.specs.Clean.{IsCleanPlace, is_clean}
use Rattle.csv_lines.specs.Fields.{Field, Plain, Quoted, fields, is_field, is_inner, is_plain}
use Rattle.csv_lines.specs.Fields.{joined, value, values_of, written}
use Rattle.csv_lines.specs.Rests.{content_of, row_of}
use Rattle.csv_lines.specs.declared.rest.Content.TheVariants.{Fields}
use Rattle.csv_lines.proofs.FieldLaw.{fields_are_unique}
use Rattle.feed_csv.specs.Outcomes.{accepted_at, outcome, row_outcome}
use Rattle.published.specs.FeedText.{field_of, line_text, place_text, place_values}
use Rattle.published.specs.Reread.{IsCleanAt, IsLineInForm, IsTextPlace, said_by}
use Rattle.published.proofs.BlockBytes.{good_block, plain_block, some_block}
use Rattle.published.proofs.Texts.{AreGood, IsGood, good_joined, good_none, rest_clean}
use Rattle.published.proofs.Texts.{trimmed_clean}

-- ---- how it is written

joined_is : (f : Field) (fs : List Field)
    → joined (f ∷ fs) ≡ written f ++ flat_map (λ g. 44 ∷ written g) fs
joined_is f [] = sym (append-nil (written f))
joined_is f (g ∷ fs) = ap (λ t. written f ++ (44 ∷ t)) (joined_is g fs)

-- the block, and then the place
pub line_is : (block : Prefix) (place : Option PlaceParts)
    → block_text block ++ place_text place ≡ line_text block place
line_is block place = sym (joined_is (Plain (block_text block)) (map field_of (place_values place)))

-- ---- values as fields

field_value : (v : List ℕ) → value (field_of v) ≡ v
field_value v = by (list_all is_plain v)
  where
    by : (b : Bool) → value (cond b (Plain v) (Quoted v)) ≡ v
    by true = refl
    by false = refl

field_is : (v : List ℕ) → is_field (field_of v) ≡ true
field_is v = by (list_all is_plain v) refl
  where
    by : (b : Bool) → list_all is_plain v ≡ b → is_field (cond b (Plain v) (Quoted v)) ≡ true
    by true e = e
    by false e = refl

fields_are : (vs : List (List ℕ)) → list_all is_field (map field_of vs) ≡ true
fields_are [] = refl
fields_are (v ∷ vs) = rw (field_is v, fields_are vs) refl

values_are : (vs : List (List ℕ)) → map value (map field_of vs) ≡ vs
values_are [] = refl
values_are (v ∷ vs) = rw (field_value v, values_are vs) refl

abbrev AllGood : List (List ℕ) → Type 0
AllGood [] = Unit {0}
AllGood (v ∷ vs) = IsGood v × AllGood vs

fields_good : (vs : List (List ℕ)) → AllGood vs → AreGood (map field_of vs)
fields_good [] g = tt
fields_good (v ∷ vs) g = (subst IsGood (sym (field_value v)) g.0, fields_good vs g.1)

inner_of : (xs : List ℕ) → list_all is_clean xs ≡ true → list_all is_inner xs ≡ true
inner_of [] e = refl
inner_of (x ∷ xs) e =
    let (one, more) = and_parts (is_clean x) (list_all is_clean xs) e in
    let (apart, inner) = and_parts (not (x == 35)) (is_inner x) one in
    rw (inner, inner_of xs more) refl

-- ---- how it is read

some_joined : (f g : Field) (fs : List Field) → is_empty (joined (f ∷ g ∷ fs)) ≡ false
some_joined f g fs = by (written f)
  where
    by : (xs : List ℕ) → is_empty (xs ++ (44 ∷ joined (g ∷ fs))) ≡ false
    by [] = refl
    by (x ∷ xs) = refl

some_text : (xs : List ℕ) → 0 < length xs → is_empty xs ≡ false
some_text [] l = absurd (omega arith)
some_text (x ∷ xs) l = refl

module _ (first c r t z : List ℕ) (plain : list_all is_plain first ≡ true)
    (good : AllGood (first ∷ c ∷ r ∷ t ∷ z ∷ [])) where
  abbrev line : List ℕ
  line = joined (Plain first ∷ map field_of (c ∷ r ∷ t ∷ z ∷ []))

  abbrev row : List (List ℕ)
  row = first ∷ c ∷ r ∷ t ∷ z ∷ []

  line_good : IsGood line
  line_good =
      good_joined (Plain first) (map field_of (c ∷ r ∷ t ∷ z ∷ []))
      (good.0, fields_good (c ∷ r ∷ t ∷ z ∷ []) good.1)

  found : fields line ≡ Some (Plain first ∷ map field_of (c ∷ r ∷ t ∷ z ∷ []))
  found = (fields_are_unique line (Plain first) (map field_of (c ∷ r ∷ t ∷ z ∷ []))).0
      (record { joined = refl; fields = rw (plain, fields_are (c ∷ r ∷ t ∷ z ∷ [])) refl })

  values : values_of line ≡ Some row
  values = rw (inner_of line line_good.clean.bytes, found, values_are (c ∷ r ∷ t ∷ z ∷ [])) refl

  content : content_of line ≡ Fields
  content = rw (
    some_joined (Plain first) (field_of c) (map field_of (r ∷ t ∷ z ∷ [])),
    is_utf8-from_IsUtf8 line line_good.utf8,
    values,
  ) refl

  row_is : row_of line ≡ row
  row_is = rw values refl

  row_says : (block : Prefix) (said : Said) → 0 < length first → block_in first ≡ Ok block
      → said_of c r t z ≡ Ok said → row_outcome row ≡ accepted_at block (Ok said)
  row_says block said some spelt says =
      rw (
        trimmed_clean first good.0.clean,
        some_text first some,
        spelt,
        trimmed_clean c good.1.0.clean,
        trimmed_clean r good.1.1.0.clean,
        trimmed_clean t good.1.1.1.0.clean,
        trimmed_clean z good.1.1.1.1.0.clean,
        says,
      ) refl

  pub line_says : (block : Prefix) (said : Said) → 0 < length first → block_in first ≡ Ok block
      → said_of c r t z ≡ Ok said → outcome line ≡ accepted_at block (Ok said)
  unfolding outcome
  line_says block said some spelt says =
      rw (rest_clean line line_good.clean, content, row_is) (row_says block said some spelt says)

-- ---- what the texts of a place say

place_is : (p : PlaceParts) → IsPlace p → parts_of p.country p.region p.city p.postal ≡ p
place_is p is = λ i. record {
  country = named p.country p.region is.owned is.upper_country i;
  region = is.upper_region i;
  city = p.city;
  postal = p.postal;
}
  where
    named : (c r : List ℕ) → (c ≡ [] → r ≡ []) → upper c ≡ c
        → upper (cond (is_empty c) (country_of_region r) c) ≡ c
    named [] r owned e = rw (owned refl) refl
    named (x ∷ c) r owned e = e

not_false : (b : Bool) → not b ≡ true → b ≡ false
not_false true e = absurd cc
not_false false e = refl

place_says : (p : PlaceParts) → IsPlace p → said_of p.country p.region p.city p.postal ≡ Ok (At p)
unfolding said_of
place_says p is =
    let says : of_parts p ≡ At p =
    ap (λ b. cond b Nothing (At p)) (not_false (says_nothing p) is.says) in
    rw (is.country, is.region, is.lengths)
    (ap (λ (x : Said). Ok x) (ap of_parts (place_is p is) ∙ says))

blank_says : said_of [] [] [] [] ≡ Ok Nothing
unfolding said_of country_fits region_fits lengths_fit
blank_says = refl

five_good : (a b c d e : List ℕ) → IsGood a → IsGood b → IsGood c → IsGood d → IsGood e
    → AllGood (a ∷ b ∷ c ∷ d ∷ e ∷ [])
five_good a b c d e ga gb gc gd ge = (ga, (gb, (gc, (gd, (ge, tt)))))

module _ (block : Prefix) (aligned : IsBlock block) where
  no_place_good : AllGood (block_text block ∷ [] ∷ [] ∷ [] ∷ [] ∷ [])
  no_place_good =
      five_good (block_text block) [] [] [] []
      (good_block block aligned) good_none good_none good_none good_none

  place_good : (p : PlaceParts) → IsTextPlace p → IsCleanPlace p
      → AllGood (block_text block ∷ p.country ∷ p.region ∷ p.city ∷ p.postal ∷ [])
  place_good p texts clean =
      five_good (block_text block) p.country p.region p.city p.postal (good_block block aligned)
      (record { utf8 = texts.country; clean = clean.country })
      (record { utf8 = texts.region; clean = clean.region })
      (record { utf8 = texts.city; clean = clean.city })
      (record { utf8 = texts.postal; clean = clean.postal })

  pub line_good_of : (place : Option PlaceParts) → IsLineInForm block place → IsCleanAt place
      → IsGood (line_text block place)
  line_good_of None form clean =
      line_good (block_text block) [] [] [] [] (plain_block block aligned) no_place_good
  line_good_of (Some p) form clean =
      line_good (block_text block) p.country p.region p.city p.postal (plain_block block aligned)
      (place_good p form.texts clean)

  pub line_reads : (place : Option PlaceParts) → IsLineInForm block place → IsCleanAt place
      → outcome (line_text block place) ≡ accepted_at block (Ok (said_by place))
  line_reads None form clean =
      line_says (block_text block) [] [] [] [] (plain_block block aligned) no_place_good block
      Nothing (some_block block) form.spelt blank_says
  line_reads (Some p) form clean =
      line_says (block_text block) p.country p.region p.city p.postal (plain_block block aligned)
      (place_good p form.texts clean)
      block (At p) (some_block block) form.spelt (place_says p form.texts.place)
