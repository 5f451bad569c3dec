-- What a feed says (RFC 8805).
use Rattle.std.specs.Prelude.{ℕ, List, All, filter_map, Option, None, Some}
use Rattle.geo_addr.specs.Lines.{numbered_lines}
use Rattle.geo_addr.specs.Ranges.{Ends, range_of_block}
use Rattle.geo_terms.specs.SourceForm.{FeedParts}
use Rattle.geo_terms.specs.declared.note.LineNote.{LineNote}
use Rattle.geo_terms.specs.declared.note.Rule.TheVariants.{F07, F08}
use Rattle.geo_terms.specs.declared.place.Said.{Said}
use Rattle.geo_terms.specs.declared.statement.Entry.{Entry}
use Rattle.csv_lines.specs.Clean.{IsCleanSaid}
use Rattle.csv_lines.specs.Repeats.{fate, fault_by, kept}
use Rattle.csv_lines.specs.declared.fate.RepeatRules.{RepeatRules}
use Rattle.feed_csv.specs.declared.read.TheConstants.{LONGEST_FEED, MOST}
use Rattle.feed_csv.specs.declared.outcome.LineOutcome.{LineOutcome}
use Rattle.feed_csv.specs.declared.outcome.LineOutcome.TheVariants.{Silent, Broken, Accepted}
use Rattle.feed_csv.specs.Outcomes.{outcome}

abbrev pub entry_line : Entry → ℕ
entry_line e = e.line

abbrev pub entry_range : Entry → Ends
entry_range e = range_of_block e.block

abbrev pub entry_said : Entry → Said
entry_said e = e.said

-- the entry of a line that passes the line rules
abbrev pub entry_by : ℕ → LineOutcome → Option Entry
entry_by line Silent = None
entry_by line (Broken rule) = None
entry_by line (Accepted block said) = Some (record { line = line; block = block; said = said })

-- the fault of a line that breaks one of them
abbrev pub fault_alone : ℕ → LineOutcome → Option LineNote
fault_alone line Silent = None
fault_alone line (Broken rule) = Some (record { line = line; rule = rule })
fault_alone line (Accepted block said) = None

abbrev pub entry_of : (ℕ × List ℕ) → Option Entry
entry_of line = entry_by line.0 (outcome line.1)

abbrev pub fault_of : (ℕ × List ℕ) → Option LineNote
fault_of line = fault_alone line.0 (outcome line.1)

-- the lines of a file that pass the line rules
abbrev pub accepted : List ℕ → List Entry
accepted file = filter_map entry_of (numbered_lines file)

-- the faults of the lines by themselves
abbrev pub refused : List ℕ → List LineNote
refused file = filter_map fault_of (numbered_lines file)

-- the rules of lines about one prefix
abbrev pub repeat_rules : RepeatRules
repeat_rules = record { repeats = F07; differs = F08 }

-- the fault of a line among the accepted ones
abbrev pub fault_among : List Entry → ℕ → LineOutcome → Option LineNote
fault_among all line Silent = None
fault_among all line (Broken rule) = Some (record { line = line; rule = rule })
fault_among all line (Accepted block said) =
    fault_by repeat_rules line (fate entry_line entry_range entry_said all
    (record { line = line; block = block; said = said }))

abbrev pub faults : List ℕ → List LineNote
faults file =
    filter_map (λ line. fault_among (accepted file) line.0 (outcome line.1)) (numbered_lines file)

-- the entries of a file, in line order
abbrev pub entries : List ℕ → List Entry
entries file = kept entry_line entry_range entry_said (accepted file)

-- no text of these entries has a `#`, a line end, or a blank at an end
abbrev pub AreClean : List Entry → Type 0
AreClean es = All (λ e. IsCleanSaid e.said) es

-- a file under a URL; its notes are the faults of its lines, in line order
abbrev pub feed : (url file : List ℕ) → FeedParts
feed url file = record { url = url; entries = entries file; notes = faults file }

-- the most bytes of a file, and the most lines that pass the line rules
abbrev pub longest : ℕ
longest = LONGEST_FEED

abbrev pub most : ℕ
most = MOST
