-- What is seen of the folder, the sink and the steps at a moment, and what is printed between two
-- moments.
use Rattle.std.specs.Prelude.{◌≡◌, ℕ, List, ◌++◌, take, Option, Some}
use Rattle.geo_outside.specs.Files.{Told}

-- what the folder tells, what the sink tells and how often it failed, and how many steps were taken
pub record Seen : Type 0 where
  pub told : Option Told
  pub written : Option (List ℕ)
  pub print_faults : ℕ
  pub steps : ℕ

abbrev pub seen : Option Told → (written : Option (List ℕ)) → (print_faults steps : ℕ) → Seen
seen told written print_faults steps = record {
  told = told;
  written = written;
  print_faults = print_faults;
  steps = steps;
}

-- what was written before is followed by this text
abbrev pub Prints : (old new : Option (List ℕ)) → List ℕ → Type 0
Prints old new text = (before : List ℕ) → old ≡ Some before → new ≡ Some (before ++ text)

-- what was written before is followed by this text and a part of another one
abbrev pub PrintsPart : (old new : Option (List ℕ)) → (whole part : List ℕ) → Type 0
PrintsPart old new whole part = (before : List ℕ) → old ≡ Some before
    → (n : ℕ) × (new ≡ Some (before ++ (whole ++ take n part)))
