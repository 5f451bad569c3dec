-- Lines of one source about the same range: which of them speaks.
use Rattle.std.specs.Prelude.{ℕ, ◌+◌, ◌≤◌, Bool, true, false, not, ◌&&◌, nat_lt, List, [], ◌∷◌}
use Rattle.std.specs.Prelude.{◌++◌, filter, filter_map, take_while, drop, Option, Some, None}
use Rattle.std.specs.Prelude.{if◌then◌else◌}
use Rattle.std.specs.List.{list_any, prefix_len}
use Rattle.geo_addr.specs.Ranges.{Ends}
use Rattle.geo_terms.specs.Numbers.{same_place}
use Rattle.geo_terms.specs.Report.{same_ends}
use Rattle.geo_terms.specs.declared.place.Said.{Said}
use Rattle.geo_terms.specs.declared.place.Said.TheVariants.{Nothing, At}
use Rattle.csv_lines.specs.declared.fate.Fate.{Fate}
use Rattle.csv_lines.specs.declared.fate.Fate.TheVariants.{Kept, Repeats, Differs}
use Rattle.csv_lines.specs.declared.fate.RepeatRules.{RepeatRules}
use Rattle.geo_terms.specs.declared.note.LineNote.{LineNote}

-- whether two lines say the same
abbrev pub same_said : Said → Said → Bool
same_said Nothing Nothing = true
same_said Nothing (At q) = false
same_said (At p) Nothing = false
same_said (At p) (At q) = same_place p q

abbrev pub is_kept_by : Fate → Bool
is_kept_by Kept = true
is_kept_by Repeats = false
is_kept_by Differs = false

abbrev pub fault_by : RepeatRules → ℕ → Fate → Option LineNote
fault_by rules at Kept = None
fault_by rules at Repeats = Some (record { line = at; rule = rules.repeats })
fault_by rules at Differs = Some (record { line = at; rule = rules.differs })

module _ {X : Type 0} (line : X → ℕ) (range : X → Ends) (said : X → Said) where
  abbrev pub same_range : X → X → Bool
  same_range x y = same_ends (range x) (range y)

  -- whether a line of the same range says something else
  abbrev pub is_contradicted : List X → X → Bool
  is_contradicted all x = list_any (λ y. same_range y x && not (same_said (said y) (said x))) all

  -- whether an earlier line has the same range
  abbrev pub is_repetition : List X → X → Bool
  is_repetition all x = list_any (λ y. same_range y x && nat_lt (line y) (line x)) all

  -- what becomes of a line: where any two of one range differ none of them is kept,
  -- and else the first
  unfoldable pub fate : List X → X → Fate
  fate all x =
      if is_contradicted all x then Differs else (if is_repetition all x then Repeats else Kept)

  -- the lines that speak
  abbrev pub kept : List X → List X
  kept all = filter (λ x. is_kept_by (fate all x)) all

  -- the faults of the lines that do not speak
  abbrev pub repeat_faults : RepeatRules → List X → List LineNote
  repeat_faults rules all = filter_map (λ x. fault_by rules (line x) (fate all x)) all

-- the lines rise from a number on
abbrev pub Rises : ℕ → List ℕ → Type 0
Rises low [] = Unit {0}
Rises low (x ∷ xs) = (low ≤ x) × Rises (x + 1) xs

abbrev pub is_before : ℕ → LineNote → Bool
is_before at f = nat_lt f.line at

-- two lists of faults in line order as one
abbrev pub merged : (late early : List LineNote) → List LineNote
merged [] early = early
merged (f ∷ late) early =
    take_while (is_before f.line) early
    ++ (f ∷ merged late (drop (prefix_len (is_before f.line) early) early))
