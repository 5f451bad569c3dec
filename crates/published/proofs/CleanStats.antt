-- The delegations of any statistics file are clean.
use Rattle.std.proofs.Common.{◌≡◌, ℕ, Bool, true, false, not, ◌||◌, List, [], ◌∷◌, refl}
use Rattle.std.proofs.Common.{arith}
use Rattle.std.specs.Char.{is_ascii_alphabetic, to_ascii_uppercase}
use Rattle.std.specs.List.{AllByRecursion as Each}
use Rattle.std.specs.Prelude.{Result, Ok, Err}
use Rattle.std.proofs.lemmas.Bool.{and_parts}
use Rattle.std.proofs.lemmas.Bool.Decides.{nat_tests}
use Rattle.geo_addr.specs.Lines.{is_blank, numbered_lines}
use Rattle.geo_addr.specs.Ranges.{Ends}
use Rattle.geo_terms.specs.DelegationForm.{DelegationParts}
use Rattle.geo_terms.specs.PlaceForm.{country_place, is_country, names_country, nowhere}
use Rattle.geo_terms.specs.PlaceForm.{place_of_country, same_text, upper}
use Rattle.geo_terms.specs.declared.note.Rule.{Rule}
use Rattle.csv_lines.specs.Clean.{IsClean, IsCleanPlace, is_clean}
use Rattle.nro_stats.specs.Fields.{fields, is_skipped, is_summary_line, is_version_line}
use Rattle.nro_stats.specs.File.{row_by, row_of, rows}
use Rattle.nro_stats.specs.Outcomes.{fields_outcome, is_kind, is_silent, is_status, judged, placed}
use Rattle.nro_stats.specs.Outcomes.{outcome, placed_in, range_in, record_outcome}
use Rattle.published.proofs.EachLemmas.{IfAny, each_kept}

abbrev IsCleanDelegation : DelegationParts → Type 0
IsCleanDelegation d = IsCleanPlace d.place

clean_letter : (b : ℕ) → is_ascii_alphabetic b ≡ true → is_clean (to_ascii_uppercase b) ≡ true
clean_letter b h = grind (arith, nat_tests)

no_blank : (b : ℕ) → is_ascii_alphabetic b ≡ true → is_blank (to_ascii_uppercase b) ≡ false
no_blank b h = grind (arith, nat_tests)

nothing_clean : IsClean []
nothing_clean = record { bytes = refl; start = refl; end = refl }

letters_clean : (a b : ℕ) → is_ascii_alphabetic a ≡ true → is_ascii_alphabetic b ≡ true
    → IsClean (upper (a ∷ b ∷ []))
letters_clean a b one two = record {
  bytes = rw (clean_letter a one, clean_letter b two) refl;
  start = rw (no_blank a one) refl;
  end = rw (no_blank b two) refl;
}

country_clean : (country : List ℕ) → is_country country ≡ true → IsClean (upper country)
country_clean [] h = absurd (let f : false ≡ true = h in cc)
country_clean (a ∷ []) h = absurd (let f : false ≡ true = h in cc)
country_clean (a ∷ b ∷ []) h =
    let (one, two) = and_parts (is_ascii_alphabetic a) (is_ascii_alphabetic b) h in
    letters_clean a b one two
country_clean (a ∷ b ∷ c ∷ more) h = absurd (let f : false ≡ true = h in cc)

named : (slot : List ℕ) (n : ℕ) (range : Ends) (country : List ℕ)
    → IfAny IsCleanDelegation (row_by slot n (placed range country))
unfolding place_of_country
named slot n range country = by (names_country country) refl
  where
    by : (b : Bool) → names_country country ≡ b
        → IfAny IsCleanDelegation (row_by slot n (placed range country))
    by true is =
        let clean : IsCleanPlace (country_place country) = record {
          country = country_clean country
              (and_parts (is_country country) (not (same_text (upper country) nowhere)) is).0;
          region = nothing_clean;
          city = nothing_clean;
          postal = nothing_clean;
        } in
        rw is clean
    by false is = rw is tt

ranged : (slot : List ℕ) (n : ℕ) (r : Result Ends Rule) (country : List ℕ)
    → IfAny IsCleanDelegation (row_by slot n (placed_in r country))
ranged slot n (Err rule) country = tt
ranged slot n (Ok range) country = named slot n range country

of_fields : (slot : List ℕ) (n : ℕ) (country kind start value status : List ℕ)
    → IfAny IsCleanDelegation (row_by slot n (judged country kind start value status))
unfolding judged
of_fields slot n country kind start value status =
    by (is_kind kind) (is_status status) (is_silent kind status) refl refl refl
  where
    by : (a b c : Bool) → is_kind kind ≡ a → is_status status ≡ b → is_silent kind status ≡ c
        → IfAny IsCleanDelegation (row_by slot n (judged country kind start value status))
    by true true true p q r = rw (p, q, r) tt
    by true true false p q r = rw (p, q, r) (ranged slot n (range_in kind start value) country)
    by true false c p q r = rw (p, q) tt
    by false b c p q r = rw p tt

of_record : (slot : List ℕ) (n : ℕ) (fs : List (List ℕ))
    → IfAny IsCleanDelegation (row_by slot n (record_outcome fs))
of_record slot n [] = tt
of_record slot n (a ∷ []) = tt
of_record slot n (a ∷ b ∷ []) = tt
of_record slot n (a ∷ b ∷ c ∷ []) = tt
of_record slot n (a ∷ b ∷ c ∷ d ∷ []) = tt
of_record slot n (a ∷ b ∷ c ∷ d ∷ e ∷ []) = tt
of_record slot n (a ∷ b ∷ c ∷ d ∷ e ∷ f ∷ []) = tt
of_record slot n (registry ∷ country ∷ kind ∷ start ∷ value ∷ date ∷ status ∷ more) =
    of_fields slot n country kind start value status

by_kind : (slot : List ℕ) (n : ℕ) (fs : List (List ℕ))
    → IfAny IsCleanDelegation (row_by slot n (fields_outcome fs))
by_kind slot n fs = by (is_version_line fs || is_summary_line fs) refl
  where
    by : (b : Bool) → is_version_line fs || is_summary_line fs ≡ b
        → IfAny IsCleanDelegation (row_by slot n (fields_outcome fs))
    by true is = rw is tt
    by false is = rw is (of_record slot n fs)

of_line : (slot : List ℕ) (line : ℕ × List ℕ) → IfAny IsCleanDelegation (row_of slot line)
unfolding outcome
of_line slot line = by (is_skipped line.1) refl
  where
    by : (b : Bool) → is_skipped line.1 ≡ b → IfAny IsCleanDelegation (row_of slot line)
    by true is = rw is tt
    by false is = rw is (by_kind slot line.0 (fields line.1))

pub stats_are_clean : (slot file : List ℕ) → Each IsCleanDelegation (rows slot file)
stats_are_clean slot file =
    each_kept IsCleanDelegation (row_of slot) (of_line slot) (numbered_lines file)
