-- One byte of the scan: whether a text passes is whether what follows the
-- byte passes from the next spot.
use Rattle.std.proofs.Common.{◌≡◌, ℕ, suc, ◌<◌, Bool, true, false, cond, ◌&&◌, ◌==◌, List, [], ◌∷◌}
use Rattle.std.proofs.Common.{length, Option, Some, None, refl, sym, ap, ◌∙◌, ne_eqb, arith}
use Rattle.std.specs.Prelude.{is_some, option_map, slice_index}
use Rattle.std.specs.List.{list_all}
use Rattle.std.proofs.lemmas.Bool.{eq-eqb, eqb-true}
use Rattle.memchr.specs.Find.{Nowhere, Passes, is_byte3}
use Rattle.csv_lines.specs.Fields.{fields, is_inner, passes, scan, with_byte, with_plain}
use Rattle.csv_lines.specs.Fields.{with_quoted, values_of, value}
use Rattle.csv_lines.specs.declared.scan.Spot.{Spot}
use Rattle.csv_lines.specs.declared.scan.Spot.TheVariants.{Start, Inside, Within, Closed}

pub is_some-map : {A B : Type 0} (f : A → B) (o : Option A) → is_some (option_map f o) ≡ is_some o
is_some-map f None = refl
is_some-map f (Some a) = refl

inner : (b : ℕ) → (b ≡ 10 → ⊥) → (b ≡ 13 → ⊥) → is_inner b ≡ true
inner b n r = rw (ne_eqb b 10 n, ne_eqb b 13 r) refl

-- a line end passes nowhere
pub ends_line : (s : Spot) (b : ℕ) → is_inner b ≡ false
    → (left : List ℕ) → passes s (b ∷ left) ≡ false
ends_line s b e left = rw e refl

module _ (s : Spot) (b : ℕ) where
  pub start_quote : s ≡ Start → b ≡ 34 → (left : List ℕ) → passes s (b ∷ left) ≡ passes Within left
  unfolding scan
  start_quote e q left = rw (e, q) refl

  pub start_comma : s ≡ Start → b ≡ 44 → (left : List ℕ) → passes s (b ∷ left) ≡ passes Start left
  unfolding scan
  start_comma e q left = rw (
    e,
    q,
  ) (ap (λ (x : Bool). list_all is_inner left && x) (is_some-map with_plain (scan Start left)))

  pub start_other : s ≡ Start → (b ≡ 10 → ⊥) → (b ≡ 13 → ⊥) → (b ≡ 34 → ⊥) → (b ≡ 44 → ⊥)
      → (left : List ℕ) → passes s (b ∷ left) ≡ passes Inside left
  unfolding scan
  start_other e n r q d left = rw (
    e,
    ne_eqb b 10 n,
    ne_eqb b 13 r,
    ne_eqb b 34 q,
    ne_eqb b 44 d,
  ) (ap (λ (x : Bool). list_all is_inner left && x) (is_some-map (with_byte b) (scan Inside left)))

  pub inside_quote : s ≡ Inside → b ≡ 34 → (left : List ℕ) → passes s (b ∷ left) ≡ false
  unfolding scan
  inside_quote e q left = rw (e, q) (nothing (list_all is_inner left))
    where
      nothing : (x : Bool) → (x && false) ≡ false
      nothing true = refl
      nothing false = refl

  pub inside_comma : s ≡ Inside → b ≡ 44 → (left : List ℕ) → passes s (b ∷ left) ≡ passes Start left
  unfolding scan
  inside_comma e q left = rw (
    e,
    q,
  ) (ap (λ (x : Bool). list_all is_inner left && x) (is_some-map with_plain (scan Start left)))

  pub inside_other : s ≡ Inside → (b ≡ 10 → ⊥) → (b ≡ 13 → ⊥) → (b ≡ 34 → ⊥) → (b ≡ 44 → ⊥)
      → (left : List ℕ) → passes s (b ∷ left) ≡ passes Inside left
  unfolding scan
  inside_other e n r q d left = rw (
    e,
    ne_eqb b 10 n,
    ne_eqb b 13 r,
    ne_eqb b 34 q,
    ne_eqb b 44 d,
  ) (ap (λ (x : Bool). list_all is_inner left && x) (is_some-map (with_byte b) (scan Inside left)))

  pub within_quote : s ≡ Within → b ≡ 34
      → (left : List ℕ) → passes s (b ∷ left) ≡ passes Closed left
  unfolding scan
  within_quote e q left = rw (e, q) refl

  pub within_other : s ≡ Within → (b ≡ 10 → ⊥) → (b ≡ 13 → ⊥) → (b ≡ 34 → ⊥) → (left : List ℕ)
      → passes s (b ∷ left) ≡ passes Within left
  unfolding scan
  within_other e n r q left = rw (
    e,
    ne_eqb b 10 n,
    ne_eqb b 13 r,
    ne_eqb b 34 q,
  ) (ap (λ (x : Bool). list_all is_inner left && x) (is_some-map (with_byte b) (scan Within left)))

  pub closed_quote : s ≡ Closed → b ≡ 34
      → (left : List ℕ) → passes s (b ∷ left) ≡ passes Within left
  unfolding scan
  closed_quote e q left = rw (
    e,
    q,
  ) (ap (λ (x : Bool). list_all is_inner left && x) (is_some-map (with_byte 34) (scan Within left)))

  pub closed_comma : s ≡ Closed → b ≡ 44 → (left : List ℕ) → passes s (b ∷ left) ≡ passes Start left
  unfolding scan
  closed_comma e q left = rw (
    e,
    q,
  ) (ap (λ (x : Bool). list_all is_inner left && x) (is_some-map with_quoted (scan Start left)))

  pub closed_other : s ≡ Closed
      → (b ≡ 34 → ⊥) → (b ≡ 44 → ⊥) → (left : List ℕ) → passes s (b ∷ left) ≡ false
  unfolding scan
  closed_other e q d left =
      rw (e, ne_eqb b 34 q, ne_eqb b 44 d) (nothing (is_inner b) (list_all is_inner left))
    where
      nothing : (x y : Bool) → ((x && y) && false) ≡ false
      nothing true true = refl
      nothing true false = refl
      nothing false y = refl

-- whether a text has the values of fields
pub has_values : (text : List ℕ) → is_some (values_of text) ≡ passes Start text
has_values text = by (list_all is_inner text)
  where
    by : (x : Bool)
        → is_some (cond x (option_map (Rattle.std.specs.Prelude.map value) (fields text)) None)
        ≡ (x && is_some (scan Start text))
    by true = is_some-map _ (fields text)
    by false = refl

-- without quotes and line ends a text passes from the start of a field, and inside a plain one
bare : (text : List ℕ)
    → ((k : ℕ) → k < length text → is_byte3 34 10 13 (slice_index text k) ≡ true → ⊥)
    → (passes Start text ≡ true) × (passes Inside text ≡ true)
unfolding scan
bare [] free = (refl, refl)
bare (b ∷ bs) free = by (bare bs (λ k below is. free (suc k) (omega arith) is)) (b == 44) refl
  where
    no : is_byte3 34 10 13 b ≡ true → ⊥
    no is = free 0 (omega arith) is

    q : b ≡ 34 → ⊥
    q e = no (rw e refl)

    n : b ≡ 10 → ⊥
    n e = no (rw e refl)

    r : b ≡ 13 → ⊥
    r e = no (rw e refl)

    by : (passes Start bs ≡ true) × (passes Inside bs ≡ true) → (x : Bool) → (b == 44) ≡ x
        → (passes Start (b ∷ bs) ≡ true) × (passes Inside (b ∷ bs) ≡ true)
    by left true is = (
      start_comma Start b refl (eqb-true b 44 is) bs ∙ left.0,
      inside_comma Inside b refl (eqb-true b 44 is) bs ∙ left.0,
    )
    by left false is =
        let d : b ≡ 44 → ⊥ = λ e. let f : true ≡ false = sym (eq-eqb b 44 e) ∙ is in absurd cc in (
          start_other Start b refl n r q d bs ∙ left.1,
          inside_other Inside b refl n r q d bs ∙ left.1,
        )

pub bare_passes : (text : List ℕ)
    → Nowhere (Passes (is_byte3 34 10 13) text) 0 (length text) → passes Start text ≡ true
bare_passes text none = (bare text (λ k below is. none k (omega arith) below is)).0
