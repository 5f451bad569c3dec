-- The places of a statistics file's delegations have short texts, and so have all places that
-- statements say.
use Rattle.std.proofs.Common.{◌≡◌, ℕ, ◌⊎◌, inl, inr, Bool, true, false, not, ◌||◌, List, [], ◌∷◌}
use Rattle.std.proofs.Common.{◌++◌, map, refl, ap, subst, ◌∙◌, arith, lit≤}
use Rattle.std.proofs.lemmas.Bool.{and_parts}
use Rattle.std.specs.Prelude.{Option, Some, None, Result, Ok, Err}
use Rattle.std.specs.List.{cons_option, filter_map}
use Rattle.geo_addr.specs.Ranges.{Ends}
use Rattle.geo_terms.specs.DelegationForm.{DelegationParts}
use Rattle.geo_terms.specs.PlaceForm.{PlaceParts, country_place, is_country, names_country, nowhere}
use Rattle.geo_terms.specs.PlaceForm.{place_of_country, same_text, upper}
use Rattle.geo_terms.specs.Sources.{InForce, delegations, entries}
use Rattle.geo_terms.specs.declared.note.Rule.{Rule}
use Rattle.geo_terms.specs.declared.statement.Entry.{Entry}
use Rattle.geo_terms.proofs.Members.{Among}
use Rattle.nro_stats.specs.File.{row_by, row_of}
use Rattle.nro_stats.specs.Outcomes.{fields_outcome, is_kind, is_silent, is_status, judged, placed}
use Rattle.nro_stats.specs.Outcomes.{outcome, placed_in, range_in, record_outcome}
use Rattle.nro_stats.specs.Fields.{fields, is_skipped, is_summary_line, is_version_line}
use Rattle.generated_job.proofs.RecordPeers.{peers, said}
use Rattle.generated_job.proofs.ShortPlaces.{IsShort, SaysShort, raised, said_short, two}

-- the place of a delegation is short, where there is one
abbrev RowShort : Option DelegationParts → Type 0
RowShort None = Unit {0}
RowShort (Some d) = IsShort d.place

named_short : (slot : List ℕ) (line : ℕ) (range : Ends) (country : List ℕ)
    → RowShort (row_by slot line (placed range country))
unfolding place_of_country
named_short slot line range country = by (names_country country) refl
  where
    by : (b : Bool) → names_country country ≡ b → RowShort (row_by slot line (placed range country))
    by true is =
        let short : IsShort (country_place country) = record {
          country = omega (
            arith,
            raised country,
            two country (and_parts (is_country country) (not (same_text (upper country) nowhere))
                is).0,
          );
          region = lit≤ tt;
          city = lit≤ tt;
          postal = lit≤ tt;
        } in
        rw is short
    by false is = rw is tt

placed_short : (slot : List ℕ) (line : ℕ) (r : Result Ends Rule) (country : List ℕ)
    → RowShort (row_by slot line (placed_in r country))
placed_short slot line (Err rule) country = tt
placed_short slot line (Ok range) country = named_short slot line range country

judged_short : (slot : List ℕ) (line : ℕ) (country kind start value status : List ℕ)
    → RowShort (row_by slot line (judged country kind start value status))
unfolding judged
judged_short slot line country kind start value status =
    by (is_kind kind) (is_status status) (is_silent kind status) refl refl refl
  where
    by : (a b c : Bool) → is_kind kind ≡ a → is_status status ≡ b → is_silent kind status ≡ c
        → RowShort (row_by slot line (judged country kind start value status))
    by true true true p q r = rw (p, q, r) tt
    by true true false p q r =
        rw (p, q, r) (placed_short slot line (range_in kind start value) country)
    by true false c p q r = rw (p, q) tt
    by false b c p q r = rw p tt

record_short : (slot : List ℕ) (line : ℕ) (fs : List (List ℕ))
    → RowShort (row_by slot line (record_outcome fs))
record_short slot line [] = tt
record_short slot line (a ∷ []) = tt
record_short slot line (a ∷ b ∷ []) = tt
record_short slot line (a ∷ b ∷ c ∷ []) = tt
record_short slot line (a ∷ b ∷ c ∷ d ∷ []) = tt
record_short slot line (a ∷ b ∷ c ∷ d ∷ e ∷ []) = tt
record_short slot line (a ∷ b ∷ c ∷ d ∷ e ∷ f ∷ []) = tt
record_short slot line (registry ∷ country ∷ kind ∷ start ∷ value ∷ date ∷ status ∷ more) =
    judged_short slot line country kind start value status

fields_short : (slot : List ℕ) (line : ℕ) (fs : List (List ℕ))
    → RowShort (row_by slot line (fields_outcome fs))
fields_short slot line fs = by (is_version_line fs || is_summary_line fs) refl
  where
    by : (b : Bool) → is_version_line fs || is_summary_line fs ≡ b
        → RowShort (row_by slot line (fields_outcome fs))
    by true is = rw is tt
    by false is = rw is (record_short slot line fs)

row_ok : (slot : List ℕ) (line : ℕ × List ℕ) → RowShort (row_of slot line)
unfolding outcome
row_ok slot line = by (is_skipped line.1) refl
  where
    by : (b : Bool) → is_skipped line.1 ≡ b → RowShort (row_of slot line)
    by true is = rw is tt
    by false is = rw is (fields_short slot line.0 (fields line.1))

row_short : (slot : List ℕ) (line : ℕ × List ℕ) (d : DelegationParts) → row_of slot line ≡ Some d
    → IsShort d.place
row_short slot line d is = subst RowShort is (row_ok slot line)

pub rows_short : (slot : List ℕ) (lines : List (ℕ × List ℕ)) (d : DelegationParts)
    → Among d (filter_map (row_of slot) lines) → IsShort d.place
rows_short slot [] d there = absurd there
rows_short slot (line ∷ lines) d there = by (row_of slot line) refl there (rows_short slot lines d)
  where
    by : (o : Option DelegationParts) → row_of slot line ≡ o
        → Among d (cons_option o (filter_map (row_of slot) lines))
        → (Among d (filter_map (row_of slot) lines) → IsShort d.place) → IsShort d.place
    by None is later rest = rest later
    by (Some x) is (inl same) rest = row_short slot line d (is ∙ ap Some same)
    by (Some x) is (inr later) rest = rest later

pub among-append : {X : Type 0} (x : X) (xs ys : List X) → Among x (xs ++ ys)
    → Among x xs ⊎ Among x ys
among-append x [] ys there = inr there
among-append x (y ∷ xs) ys (inl is) = inl (inl is)
among-append x (y ∷ xs) ys (inr there) =
    elim (among-append x xs ys there) [ inl left ↦ inl (inr left) | inr right ↦ inr right ]

placed_rows : (ds : List DelegationParts) → ((d : DelegationParts) → Among d ds → IsShort d.place)
    → (p : PlaceParts) → Among p (map (λ (d : DelegationParts). d.place) ds) → IsShort p
placed_rows [] all p there = absurd there
placed_rows (d ∷ ds) all p (inl is) = subst IsShort is (all d (inl refl))
placed_rows (d ∷ ds) all p (inr there) = placed_rows ds (λ x later. all x (inr later)) p there

-- where each entry and each delegation says a short place, all places of statements are short
pub peers_short : (s : InForce) → ((e : Entry) → Among e (entries s) → SaysShort e.said)
    → ((d : DelegationParts) → Among d (delegations s) → IsShort d.place)
    → (p : PlaceParts) → Among p (peers s) → IsShort p
peers_short s one other p there =
    elim (among-append p (said (entries s)) (map (λ (d : DelegationParts). d.place) (delegations s))
    there) [
      | inl of_entry ↦ said_short (entries s) one p of_entry
      | inr of_row ↦ placed_rows (delegations s) other p of_row
    ]
