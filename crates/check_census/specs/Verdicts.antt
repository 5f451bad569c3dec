-- What becomes of the lines of a feed (RFC 8805): an entry speaks at some address, is shadowed, or
-- is covered by no reference (RFC 9632, section 5), and a noted line is refused.
use Rattle.std.specs.Prelude.{ℕ, zero, suc, ◌^◌, Bool, false, nat_eq, nat_lt, if◌then◌else◌, List}
use Rattle.std.specs.Prelude.{[], ◌∷◌, ◌++◌, map, Option, Some, None, option_and_then, option_map}
use Rattle.geo_terms.specs.Covering.{covering}
use Rattle.geo_terms.specs.PlaceForm.{same_text}
use Rattle.geo_terms.specs.Precedence.{reasons_at}
use Rattle.geo_terms.specs.SourceForm.{FeedParts}
use Rattle.geo_terms.specs.Sources.{InForce, references}
use Rattle.geo_terms.specs.declared.note.LineNote.{LineNote}
use Rattle.geo_terms.specs.declared.statement.Entry.{Entry}
use Rattle.geo_terms.specs.declared.statement.Reference.{Reference}
use Rattle.check_census.specs.declared.verdict.Ruling.{Ruling}
use Rattle.check_census.specs.declared.verdict.Ruling.TheVariants.{Speaks, Shadowed, Uncovered}
use Rattle.check_census.specs.declared.verdict.Ruling.TheVariants.{Refused}
use Rattle.check_census.specs.declared.verdict.Verdict.{Verdict}

-- the line of an entry that speaks, where it speaks for a reference to this URL
abbrev pub line_for : List ℕ → Option Reference → Option Entry → Option ℕ
line_for url None e = None
line_for url (Some r) e = if same_text r.url url then option_map (λ x. x.line) e else None

-- the line of the feed of this URL that speaks at an address
abbrev pub heard_line : InForce → List ℕ → ℕ → Option ℕ
heard_line s url a = line_for url (reasons_at s a).speaker (reasons_at s a).entry

abbrev pub is_line : ℕ → Option ℕ → Bool
is_line line None = false
is_line line (Some l) = nat_eq l line

-- whether this line of the feed of this URL speaks at an address
abbrev pub is_heard : InForce → List ℕ → ℕ → ℕ → Bool
is_heard s url line a = is_line line (heard_line s url a)

-- the first of two that is there
abbrev pub or_else : Option ℕ → Option ℕ → Option ℕ
or_else None y = y
or_else (Some x) y = Some x

-- the number, where it is to stand
abbrev pub some_if : Bool → ℕ → Option ℕ
some_if test n = if test then Some n else None

-- the lowest of the first n numbers that passes a test
unfoldable pub lowest : (ℕ → Bool) → ℕ → Option ℕ
lowest test zero = None
lowest test (suc n) = or_else (lowest test n) (some_if (test n) n)

-- the lowest of all addresses at which this line speaks
abbrev pub first_heard : InForce → List ℕ → ℕ → Option ℕ
first_heard s url line = lowest (is_heard s url line) (2 ^ 128)

-- the speaker at an address, if there is one
abbrev pub speaker_there : InForce → Option ℕ → Option Reference
speaker_there s at = option_and_then (λ a. (reasons_at s a).speaker) at

-- the ruling on an entry, by the reference that covers it and the speaker for which it speaks first
abbrev pub ruling : Option Reference → Option Reference → Ruling
ruling None speaker = Uncovered
ruling (Some c) (Some r) = Speaks r.slot r.line
ruling (Some c) None = Shadowed c.slot c.line

abbrev pub entry_verdict : InForce → List ℕ → Entry → Verdict
entry_verdict s url e = record {
  line = e.line;
  ruling = ruling (covering (references s) url e.block)
      (speaker_there s (first_heard s url e.line));
}

abbrev pub note_verdict : LineNote → Verdict
note_verdict n = record { line = n.line; ruling = Refused n.rule }

-- of notes in line order, those on lines before this one
abbrev pub before : ℕ → List LineNote → List LineNote
before line [] = []
before line (n ∷ ns) = if nat_lt n.line line then n ∷ before line ns else []

-- and those that are left
abbrev pub behind : ℕ → List LineNote → List LineNote
behind line [] = []
behind line (n ∷ ns) = if nat_lt n.line line then behind line ns else n ∷ ns

-- a verdict on each entry and on each noted line, in line order: before that on an entry stand
-- those on the noted lines before it
abbrev pub merged : InForce → List ℕ → List Entry → List LineNote → List Verdict
merged s url [] ns = map note_verdict ns
merged s url (e ∷ es) ns = map note_verdict (before e.line ns)
    ++ (entry_verdict s url e ∷ merged s url es (behind e.line ns))

-- the verdicts on the lines of a feed
abbrev pub verdicts : InForce → FeedParts → List Verdict
verdicts s f = merged s f.url f.entries f.notes
