-- What the types of statements and of sources keep beside their fields,
-- as their readers promise it.
use Rattle.std.specs.Prelude.{◌≡◌, ◌≢◌, ℕ, List, map, All, AllPairs}
use Rattle.std.specs.List.Sorted.{IsStrictlyIncreasing}
use Rattle.geo_terms.specs.declared.statement.Entry.{Entry}
use Rattle.geo_terms.specs.declared.statement.Override.{Override}
use Rattle.geo_terms.specs.declared.statement.Reference.{Reference}
use Rattle.geo_terms.specs.declared.note.LineNote.{LineNote}
use Rattle.geo_terms.specs.DelegationForm.{DelegationParts}

-- a dump in its slot: its references, and its notes
pub record DumpParts : Type 0 where
  pub slot : List ℕ
  pub refs : List Reference
  pub notes : List LineNote

-- a feed (RFC 8805) under its URL: its entries, and its notes
pub record FeedParts : Type 0 where
  pub url : List ℕ
  pub entries : List Entry
  pub notes : List LineNote

-- a statistics file in its slot: its delegations, and its notes
pub record StatsParts : Type 0 where
  pub slot : List ℕ
  pub rows : List DelegationParts
  pub notes : List LineNote

-- the overrides: their rows, and their notes
pub record OverridesParts : Type 0 where
  pub rows : List Override
  pub notes : List LineNote

-- the lines of notes
abbrev pub note_lines : List LineNote → List ℕ
note_lines = map (λ n. n.line)

-- notes of one source: in line order, and no line twice
abbrev pub AreNotes : List LineNote → Type 0
AreNotes notes = IsStrictlyIncreasing (note_lines notes)

-- no line stands in both lists
abbrev pub ShareNoLine : List ℕ → List ℕ → Type 0
ShareNoLine xs ys = All (λ x. All (λ y. x ≢ y) ys) xs

pub record IsDump (d : DumpParts) : Type 0 where
  pub slots : All (λ r. r.slot ≡ d.slot) d.refs
  pub ordered : IsStrictlyIncreasing (map (λ r. r.line) d.refs)
  pub notes : AreNotes d.notes

pub record IsFeed (f : FeedParts) : Type 0 where
  pub distinct : AllPairs (λ x y. x.block ≢ y.block) f.entries
  pub ordered : IsStrictlyIncreasing (map (λ e. e.line) f.entries)
  pub notes : AreNotes f.notes
  pub apart : ShareNoLine (map (λ e. e.line) f.entries) (note_lines f.notes)

pub record IsStats (s : StatsParts) : Type 0 where
  pub slots : All (λ d. d.slot ≡ s.slot) s.rows
  pub ordered : IsStrictlyIncreasing (map (λ d. d.line) s.rows)
  pub notes : AreNotes s.notes

pub record IsOverrides (o : OverridesParts) : Type 0 where
  pub distinct : AllPairs (λ x y. x.range ≢ y.range) o.rows
  pub ordered : IsStrictlyIncreasing (map (λ r. r.line) o.rows)
  pub notes : AreNotes o.notes
