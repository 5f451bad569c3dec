-- The line behind the text of a command that stops.
use Rattle.std.specs.Prelude.{◌≡◌, ℕ, ◌⊎◌, List, ◌++◌, take, Option, Some}
use Rattle.geo_outside.specs.Count.{Rose}
use Rattle.job_run.specs.Seen.{Seen, Prints}

-- the text is printed, and behind it the stop line: all of it; or a part of it, where the sink
-- failed
abbrev pub Closes : (old new : Option (List ℕ))
    → (faults faults_now : ℕ) → (text line : List ℕ) → Type 0
Closes old new faults faults_now text line =
    (before : List ℕ) → old ≡ Some before
    → (new ≡ Some (before ++ (text ++ line)))
    ⊎ ((n : ℕ) × (new ≡ Some (before ++ (text ++ take n line))) × Rose faults faults_now)

-- the same of what is seen
abbrev pub EndsWith : (old new : Seen) → (text line : List ℕ) → Type 0
EndsWith old new text line =
    Closes old.written new.written old.print_faults new.print_faults text line

-- the same, or nothing of the line, for want of memory: what a put that failed has done to its
-- file is no answer of `Memory`
abbrev pub MayEndWith : (old new : Seen) → (text line : List ℕ) → Type 0
MayEndWith old new text line =
    EndsWith old new text line ⊎ Prints old.written new.written text
