-- What a statistics file says (NRO extended allocation and assignment report).
use Rattle.std.specs.Prelude.{ℕ, List, filter_map, Option, None, Some}
use Rattle.geo_addr.specs.Lines.{numbered_lines}
use Rattle.geo_terms.specs.DelegationForm.{DelegationParts}
use Rattle.geo_terms.specs.SourceForm.{StatsParts}
use Rattle.geo_terms.specs.declared.note.LineNote.{LineNote}
use Rattle.nro_stats.specs.declared.read.TheConstants.{LONGEST_STATS, MOST}
use Rattle.nro_stats.specs.declared.outcome.LineOutcome.{LineOutcome}
use Rattle.nro_stats.specs.declared.outcome.LineOutcome.TheVariants.{Silent, Broken, Delegated}
use Rattle.nro_stats.specs.Outcomes.{outcome}

-- the delegation that a line makes
abbrev pub row_by : List ℕ → ℕ → LineOutcome → Option DelegationParts
row_by slot line (Delegated range place) =
    Some (record { slot = slot; line = line; range = range; place = place })
row_by slot line (Broken rule) = None
row_by slot line Silent = None

-- the note on a line that breaks a rule
abbrev pub note_by : ℕ → LineOutcome → Option LineNote
note_by line (Delegated range place) = None
note_by line (Broken rule) = Some (record { line = line; rule = rule })
note_by line Silent = None

abbrev pub row_of : List ℕ → (ℕ × List ℕ) → Option DelegationParts
row_of slot line = row_by slot line.0 (outcome line.1)

abbrev pub note_of : (ℕ × List ℕ) → Option LineNote
note_of line = note_by line.0 (outcome line.1)

-- the delegations of a file, in line order
abbrev pub rows : (slot file : List ℕ) → List DelegationParts
rows slot file = filter_map (row_of slot) (numbered_lines file)

-- the notes on a file, in line order
abbrev pub notes : List ℕ → List LineNote
notes file = filter_map note_of (numbered_lines file)

-- a file in a slot
abbrev pub stats : (slot file : List ℕ) → StatsParts
stats slot file = record { slot = slot; rows = rows slot file; notes = notes file }

-- the most bytes of a file, and the most delegations in it
abbrev pub longest : ℕ
longest = LONGEST_STATS

abbrev pub most : ℕ
most = MOST
