-- The lists of a file keep what a `Stats` promises.
use Rattle.std.proofs.Common.{◌≡◌, ℕ, List, Some, sym, subst}
use Rattle.geo_addr.specs.Lines.{lines_of, numbered_lines, without_mark}
use Rattle.geo_terms.proofs.LineOrder.{All-filter_map, lines_increase}
use Rattle.geo_terms.specs.DelegationForm.{DelegationParts}
use Rattle.geo_terms.specs.SourceForm.{IsStats}
use Rattle.geo_terms.specs.declared.note.LineNote.{LineNote}
use Rattle.nro_stats.specs.File.{note_by, note_of, notes, row_by, row_of, rows, stats}
use Rattle.nro_stats.specs.Outcomes.{outcome}
use Rattle.nro_stats.specs.declared.outcome.LineOutcome.{LineOutcome}
use Rattle.nro_stats.specs.declared.outcome.LineOutcome.TheVariants.{Silent, Broken, Delegated}

-- a delegation has the slot and the line that it was made with
row_by_line : (slot : List ℕ) (line : ℕ) (v : LineOutcome) (d : DelegationParts)
    → row_by slot line v ≡ Some d → (d.slot ≡ slot) × (d.line ≡ line)
row_by_line slot line (Delegated range place) d e = (cc, cc)
row_by_line slot line (Broken rule) d e = absurd cc
row_by_line slot line Silent d e = absurd cc

-- a note has the line that it was made with
note_by_line : (line : ℕ) (v : LineOutcome) (n : LineNote) → note_by line v ≡ Some n → n.line ≡ line
note_by_line line (Delegated range place) n e = absurd cc
note_by_line line (Broken rule) n e = cc
note_by_line line Silent n e = absurd cc

in_form : (slot file : List ℕ) → IsStats (stats slot file)
in_form slot file = record {
  slots =
      All-filter_map (row_of slot) (λ d. d.slot ≡ slot)
      (λ l d e. (row_by_line slot l.0 (outcome l.1) d e).0) (numbered_lines file);
  ordered =
      lines_increase (row_of slot) (λ d. d.line)
      (λ l d e. (row_by_line slot l.0 (outcome l.1) d e).1) 1 (lines_of (without_mark file));
  notes =
      lines_increase note_of (λ n. n.line)
      (λ l n e. note_by_line l.0 (outcome l.1) n e) 1 (lines_of (without_mark file));
}

-- the lists that were read are those of the file
pub stats_in_form : (slot file s : List ℕ) (ds : List DelegationParts) (ns : List LineNote)
    → s ≡ slot → ds ≡ rows slot file → ns ≡ notes file
    → IsStats (record { slot = s; rows = ds; notes = ns })
stats_in_form slot file s ds ns e f g =
    let same : record { slot = s; rows = ds; notes = ns } ≡ stats slot file =
    λ i. record { slot = e i; rows = f i; notes = g i } in
    subst IsStats (sym same) (in_form slot file)
