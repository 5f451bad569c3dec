-- The places that a feed and a statistics file say have short texts.
use Rattle.std.proofs.Common.{◌≡◌, ℕ, suc, ◌+◌, ◌≤◌, inl, inr, Bool, true, false, not, ◌&&◌, nat_le}
use Rattle.std.proofs.Common.{nat_eq, cond, List, [], ◌∷◌, length, refl, sym, ap, subst, ◌∙◌, arith}
use Rattle.std.proofs.Common.{lit≤}
use Rattle.std.proofs.lemmas.Bool.{and_parts, leb-true}
use Rattle.std.proofs.lemmas.List.{length-map}
use Rattle.std.specs.Prelude.{filter, if◌then◌else◌, Option, Some, None, Result, Ok, Err}
use Rattle.std.specs.List.{cons_option, filter_map, list_all}
use Rattle.std.specs.Char.{is_ascii_alphabetic, is_ascii_alphanumeric, to_ascii_uppercase}
use Rattle.geo_addr.specs.Lines.{numbered_lines}
use Rattle.geo_addr.specs.Prefixes.{block_in}
use Rattle.geo_addr.specs.Ranges.{Prefix}
use Rattle.geo_addr.specs.declared.fault.BlockFault.{BlockFault}
use Rattle.geo_terms.specs.PlaceForm.{PlaceParts, country_fits, country_of_region, is_country}
use Rattle.geo_terms.specs.PlaceForm.{is_empty, is_region, is_subdivision, lengths_fit, longest}
use Rattle.geo_terms.specs.PlaceForm.{parts_of, region_fits, says_nothing, upper}
use Rattle.geo_terms.specs.Precedence.{said_place}
use Rattle.geo_terms.specs.SaidOf.{said_by, said_of}
use Rattle.geo_terms.specs.declared.place.PlaceFault.{PlaceFault}
use Rattle.geo_terms.specs.declared.place.PlaceFault.TheVariants.{Country, Region, TooLong}
use Rattle.geo_terms.specs.declared.place.Said.{Said}
use Rattle.geo_terms.specs.declared.place.Said.TheVariants.{Nothing, At}
use Rattle.geo_terms.specs.declared.statement.Entry.{Entry}
use Rattle.geo_terms.proofs.Members.{Among}
use Rattle.csv_lines.specs.Rests.{column, content_of, rest_of, row_of, said_in}
use Rattle.csv_lines.specs.Repeats.{fate, is_kept_by}
use Rattle.csv_lines.specs.declared.rest.Content.{Content}
use Rattle.csv_lines.specs.declared.rest.Content.TheVariants.{Blank, NotText, NoFields, Fields}
use Rattle.feed_csv.specs.File.{accepted, entries, entry_by, entry_line, entry_of, entry_range}
use Rattle.feed_csv.specs.File.{entry_said}
use Rattle.feed_csv.specs.Outcomes.{accepted_at, located_at, outcome, outcome_by, row_outcome}
use Rattle.generated_job.proofs.RecordPeers.{said, unfiltered}

-- a place of short texts
pub record IsShort (p : PlaceParts) : Type 0 where
  pub country : length p.country ≤ 2
  pub region : length p.region ≤ 6
  pub city : length p.city ≤ 1024
  pub postal : length p.postal ≤ 1024

pub two : (text : List ℕ) → is_country text ≡ true → length text ≤ 2
two [] is = absurd (cc)
two (a ∷ []) is = absurd (cc)
two (a ∷ b ∷ []) is = lit≤ tt
two (a ∷ b ∷ c ∷ rest) is = absurd (cc)

of_country : (text : List ℕ) → country_fits text ≡ true → length text ≤ 2
unfolding country_fits
of_country [] is = lit≤ tt
of_country (a ∷ text) is = two (a ∷ text) is

three : (text : List ℕ) → is_subdivision text ≡ true → length text ≤ 3
three text is =
    let some = and_parts (not (is_empty text) && nat_le (length text) 3)
    (list_all is_ascii_alphanumeric text) is in
    leb-true (length text) 3 (and_parts (not (is_empty text)) (nat_le (length text) 3) some.0).1

six : (text : List ℕ) → is_region text ≡ true → length text ≤ 6
six [] is = absurd (cc)
six (a ∷ []) is = absurd (cc)
six (a ∷ b ∷ []) is = absurd (cc)
six (a ∷ b ∷ dash ∷ rest) is =
    let rest_is = three rest
    (and_parts (is_ascii_alphabetic a && is_ascii_alphabetic b && nat_eq dash 45)
    (is_subdivision rest) is).1 in
    omega (arith, rest_is)

of_region : (text : List ℕ) → region_fits text ≡ true → length text ≤ 6
unfolding region_fits
of_region [] is = lit≤ tt
of_region (a ∷ text) is = six (a ∷ text) is

owner : (region : List ℕ) → length (country_of_region region) ≤ 2
owner [] = lit≤ tt
owner (a ∷ []) = lit≤ tt
owner (a ∷ b ∷ rest) = lit≤ tt

pub raised : (text : List ℕ) → length (upper text) ≡ length text
raised text = length-map text to_ascii_uppercase

of_parts : (country region city postal : List ℕ) → country_fits country ≡ true
    → region_fits region ≡ true → lengths_fit city postal ≡ true
    → IsShort (parts_of country region city postal)
unfolding lengths_fit
of_parts country region city postal c r l =
    let both = and_parts (nat_le (length city) longest) (nat_le (length postal) longest) l in
    record {
      country = let owned = by (is_empty country) in
          omega (
            arith,
            owned,
            raised
                (if is_empty country then country_of_region region else country),
          );
      region = omega (arith, raised region, of_region region r);
      city = leb-true (length city) longest both.0;
      postal = leb-true (length postal) longest both.1;
    }
  where
    by : (b : Bool) → length (if b then country_of_region region else country) ≤ 2
    by true = owner region
    by false = of_country country c

-- what is said is short
abbrev pub SaysShort : Said → Type 0
SaysShort said = (p : PlaceParts) → said_place said ≡ Some p → IsShort p

abbrev ResultShort : Result Said PlaceFault → Type 0
ResultShort (Ok said) = SaysShort said
ResultShort (Err fault) = Unit {0}

by_parts : (p : PlaceParts) → IsShort p → SaysShort (said_by p)
by_parts p short = by (says_nothing p)
  where
    by : (b : Bool) → SaysShort (if b then Nothing else At p)
    by true = λ q is. absurd (cc)
    by false = λ q is. let same : p ≡ q = cc in subst IsShort same short

fields_short : (country region city postal : List ℕ)
    → ResultShort (said_of country region city postal)
unfolding said_of
fields_short country region city postal =
    by (country_fits country) (region_fits region) (lengths_fit city postal) refl refl refl
  where
    by : (a b c : Bool) → country_fits country ≡ a → region_fits region ≡ b
        → lengths_fit city postal ≡ c
        → ResultShort (if not a then Err Country else
        (if not b then Err Region else
        (if not c then Err TooLong else Ok (said_by (parts_of country region city postal)))))
    by true true true c r l =
        by_parts (parts_of country region city postal) (of_parts country region city postal c r l)
    by false b c p q r = tt
    by true false c p q r = tt
    by true true false p q r = tt

-- what an entry says is short, where there is one
abbrev EntryShort : Option Entry → Type 0
EntryShort None = Unit {0}
EntryShort (Some e) = SaysShort e.said

said_ok : (line : ℕ) (block : Prefix) (row : List (List ℕ))
    → EntryShort (entry_by line (accepted_at block (said_in 1 row)))
said_ok line block row =
    by (said_in 1 row) refl
    (fields_short (column 1 row) (column (1 + 1) row) (column (1 + 2) row) (column (1 + 3) row))
  where
    by : (r : Result Said PlaceFault) → said_in 1 row ≡ r → ResultShort (said_in 1 row)
        → EntryShort (entry_by line (accepted_at block (said_in 1 row)))
    by (Ok said) is short =
        subst (λ (r : Result Said PlaceFault). EntryShort (entry_by line (accepted_at block r)))
        (sym is) (subst ResultShort is short)
    by (Err fault) is short =
        subst (λ (r : Result Said PlaceFault). EntryShort (entry_by line (accepted_at block r)))
        (sym is) tt

located_ok : (line : ℕ) (at : Result Prefix BlockFault) (row : List (List ℕ))
    → EntryShort (entry_by line (located_at at row))
located_ok line (Err fault) row = tt
located_ok line (Ok block) row = said_ok line block row

row_ok : (line : ℕ) (row : List (List ℕ)) → EntryShort (entry_by line (row_outcome row))
row_ok line row = by (is_empty (column 0 row)) refl
  where
    by : (b : Bool) → is_empty (column 0 row) ≡ b → EntryShort (entry_by line (row_outcome row))
    by true is = rw is tt
    by false is = rw is (located_ok line (block_in (column 0 row)) row)

content_ok : (line : ℕ) (content : Content) (row : List (List ℕ))
    → EntryShort (entry_by line (outcome_by content row))
content_ok line Blank row = tt
content_ok line NotText row = tt
content_ok line NoFields row = tt
content_ok line Fields row = row_ok line row

entry_ok : (line : ℕ × List ℕ) → EntryShort (entry_of line)
unfolding outcome
entry_ok line = content_ok line.0 (content_of (rest_of line.1)) (row_of (rest_of line.1))

entry_short : (line : ℕ × List ℕ) (e : Entry) → entry_of line ≡ Some e → SaysShort e.said
entry_short line e is = subst EntryShort is (entry_ok line)

accepted_short : (lines : List (ℕ × List ℕ)) (e : Entry) → Among e (filter_map entry_of lines)
    → SaysShort e.said
accepted_short [] e there = absurd there
accepted_short (line ∷ lines) e there = by (entry_of line) refl there (accepted_short lines e)
  where
    by : (o : Option Entry) → entry_of line ≡ o
        → Among e (cons_option o (filter_map entry_of lines))
        → (Among e (filter_map entry_of lines) → SaysShort e.said) → SaysShort e.said
    by None is later rest = rest later
    by (Some x) is (inl same) rest = entry_short line e (is ∙ ap Some same)
    by (Some x) is (inr later) rest = rest later

-- each entry of a feed says a short place, or nothing
pub entries_short : (file : List ℕ) (e : Entry) → Among e (entries file) → SaysShort e.said
entries_short file e there =
    accepted_short (numbered_lines file) e
    (unfiltered (λ x. is_kept_by (fate entry_line entry_range entry_said (accepted file) x)) e
    (accepted file) there)

-- the places that they say
pub said_short : (es : List Entry) → ((e : Entry) → Among e es → SaysShort e.said)
    → (p : PlaceParts) → Among p (said es) → IsShort p
said_short [] all p there = absurd there
said_short (e ∷ es) all p there =
    by (said_place e.said) refl there (said_short es (λ x later. all x (inr later)) p)
  where
    by : (o : Option PlaceParts) → said_place e.said ≡ o → Among p (cons_option o (said es))
        → (Among p (said es) → IsShort p) → IsShort p
    by None is later rest = rest later
    by (Some q) is (inl same) rest = all e (inl refl) p (is ∙ ap Some same)
    by (Some q) is (inr later) rest = rest later

-- fewer are kept
pub kept_few : {X : Type 0} (test : X → Bool) (xs : List X) → length (filter test xs) ≤ length xs
kept_few test [] = lit≤ tt
kept_few test (x ∷ xs) = by (test x) (kept_few test xs)
  where
    by : (b : Bool) → length (filter test xs) ≤ length xs
        → length (cond b (x ∷ filter test xs) (filter test xs)) ≤ suc (length xs)
    by true rest = omega arith
    by false rest = omega arith
