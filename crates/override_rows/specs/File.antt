-- What a file of overrides says.
use Rattle.std.specs.Prelude.{ℕ, List, All, filter_map, Option, None, Some}
use Rattle.geo_addr.specs.Lines.{numbered_lines}
use Rattle.geo_addr.specs.Ranges.{Ends}
use Rattle.geo_terms.specs.SourceForm.{OverridesParts}
use Rattle.geo_terms.specs.declared.note.LineNote.{LineNote}
use Rattle.geo_terms.specs.declared.note.Rule.TheVariants.{O07, O08}
use Rattle.geo_terms.specs.declared.place.Said.{Said}
use Rattle.geo_terms.specs.declared.statement.Override.{Override}
use Rattle.csv_lines.specs.Clean.{IsCleanSaid}
use Rattle.csv_lines.specs.Repeats.{fate, fault_by, kept}
use Rattle.csv_lines.specs.declared.fate.RepeatRules.{RepeatRules}
use Rattle.override_rows.specs.declared.read.TheConstants.{LONGEST_OVERRIDES, MOST}
use Rattle.override_rows.specs.declared.outcome.LineOutcome.{LineOutcome}
use Rattle.override_rows.specs.declared.outcome.LineOutcome.TheVariants.{Silent, Broken, Accepted}
use Rattle.override_rows.specs.Outcomes.{outcome}

abbrev pub row_line : Override → ℕ
row_line e = e.line

abbrev pub row_range : Override → Ends
row_range e = e.range

abbrev pub row_said : Override → Said
row_said e = e.said

-- the row of a line that passes the line rules
abbrev pub row_by : ℕ → LineOutcome → Option Override
row_by line Silent = None
row_by line (Broken rule) = None
row_by line (Accepted range said) = Some (record { line = line; range = range; said = said })

-- the fault of a line that breaks one of them
abbrev pub fault_alone : ℕ → LineOutcome → Option LineNote
fault_alone line Silent = None
fault_alone line (Broken rule) = Some (record { line = line; rule = rule })
fault_alone line (Accepted range said) = None

abbrev pub row_of_line : (ℕ × List ℕ) → Option Override
row_of_line line = row_by line.0 (outcome line.1)

abbrev pub fault_of : (ℕ × List ℕ) → Option LineNote
fault_of line = fault_alone line.0 (outcome line.1)

-- the lines of a file that pass the line rules
abbrev pub accepted : List ℕ → List Override
accepted file = filter_map row_of_line (numbered_lines file)

-- the faults of the lines by themselves
abbrev pub refused : List ℕ → List LineNote
refused file = filter_map fault_of (numbered_lines file)

-- the rules of lines about one range
abbrev pub repeat_rules : RepeatRules
repeat_rules = record { repeats = O07; differs = O08 }

-- the fault of a line among the accepted ones
abbrev pub fault_among : List Override → ℕ → LineOutcome → Option LineNote
fault_among all line Silent = None
fault_among all line (Broken rule) = Some (record { line = line; rule = rule })
fault_among all line (Accepted range said) =
    fault_by repeat_rules line
    (fate row_line row_range row_said all (record { line = line; range = range; said = said }))

abbrev pub faults : List ℕ → List LineNote
faults file =
    filter_map (λ line. fault_among (accepted file) line.0 (outcome line.1)) (numbered_lines file)

-- the rows of a file that speak, in line order
abbrev pub rows : List ℕ → List Override
rows file = kept row_line row_range row_said (accepted file)

-- no text of these rows has a `#`, a line end, or a blank at an end
abbrev pub AreClean : List Override → Type 0
AreClean rs = All (λ r. IsCleanSaid r.said) rs

-- a file of overrides; its notes are the faults of its lines, in line order
abbrev pub overrides : List ℕ → OverridesParts
overrides file = record { rows = rows file; notes = faults file }

-- the most bytes of a file, and the most lines that pass the line rules
abbrev pub longest : ℕ
longest = LONGEST_OVERRIDES

abbrev pub most : ℕ
most = MOST
