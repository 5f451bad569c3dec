-- Lemmas on the parts of a name.
use Rattle.std.proofs.Common.{◌≡◌, ℕ, ◌||◌, Bool, true, false, List, ◌∷◌, refl, sym, subst}
use Rattle.std.specs.List.{list_any}
use Rattle.geo_addr.specs.Lines.{pieces}
use Rattle.geo_terms.specs.PlaceForm.{same_text}
use Rattle.job_lines.specs.Faults.{has_part}

or_right : (a b : Bool) → b ≡ true → (a || b) ≡ true
or_right true b is = refl
or_right false b is = is

or_left : (a b : Bool) → a ≡ true → (a || b) ≡ true
or_left true b is = refl
or_left false b is = absurd cc

-- the first part of a text, and each later one, is a part of it
pub first_part : (part first left : List ℕ) (more : List (List ℕ)) → pieces 47 left ≡ first ∷ more
    → same_text first part ≡ true → has_part part left ≡ true
first_part part first left more is same =
    subst (λ ps. list_any (λ p. same_text p part) ps ≡ true) (sym is)
    (or_left (same_text first part) _ same)

pub later_part : (part first left : List ℕ) (more : List (List ℕ)) → pieces 47 left ≡ first ∷ more
    → list_any (λ p. same_text p part) more ≡ true → has_part part left ≡ true
later_part part first left more is later =
    subst (λ ps. list_any (λ p. same_text p part) ps ≡ true) (sym is)
    (or_right (same_text first part) _ later)

pub ruleset parts = (first_part, later_part)
