-- How the references that stand behind another one of their range are found:
-- sorted by range, and one pass.
use Rattle.std.specs.Prelude.{ℕ, Bool, false, ◌&&◌, if◌then◌else◌, List, [], ◌∷◌, ◌++◌, map, filter}
use Rattle.std.specs.Prelude.{find, flat_map, is_none, not, Option, Some, None}
use Rattle.std.specs.declared.cmp.Ordering.{Ordering}
use Rattle.std.specs.Ordering.{nat_cmp, ordering_then}
use Rattle.geo_terms.specs.PlaceForm.{same_text}
use Rattle.geo_terms.specs.Precedence.{reference_before, reference_cmp}
use Rattle.geo_terms.specs.Report.{is_covered, is_outranked, same_ends, uncovered_in}
use Rattle.geo_terms.specs.SourceForm.{FeedParts}
use Rattle.geo_terms.specs.declared.note.Note.{Note}
use Rattle.geo_terms.specs.declared.note.Origin.TheVariants.{Rpsl, Feed}
use Rattle.geo_terms.specs.declared.note.Rule.{Rule}
use Rattle.geo_terms.specs.declared.note.Rule.TheVariants.{P08, P09, F09}
use Rattle.geo_terms.specs.declared.statement.Entry.{Entry}
use Rattle.geo_terms.specs.declared.statement.Reference.{Reference}

-- by range, and those of one range in the order of references
unfoldable pub ranked_cmp : Reference → Reference → Ordering
ranked_cmp x y =
    ordering_then (nat_cmp x.range.first y.range.first)
    (ordering_then (nat_cmp x.range.last y.range.last) (reference_cmp x y))

-- whether the first reference of a range goes before one of the same range
abbrev pub is_behind : Option Reference → Reference → Bool
is_behind None r = false
is_behind (Some l) r = same_ends l.range r.range && reference_before l r

-- the first reference of the range that was reached
abbrev pub leader : Option Reference → Reference → Reference
leader None r = r
leader (Some l) r = if same_ends l.range r.range then l else r

-- those that stand behind the first one of their range, in one pass
abbrev pub behind : Option Reference → List Reference → List Reference
behind l [] = []
behind l (r ∷ rs) =
    if is_behind l r then r ∷ behind (Some (leader l r)) rs else behind (Some (leader l r)) rs

-- the note on a reference
abbrev pub note_on : Rule → Reference → Note
note_on rule r = record { origin = Rpsl r.slot; line = r.line; rule = rule }

-- the notes on references behind another one of their range
abbrev pub outranked_in : List Reference → List Note
outranked_in rs = map (note_on P08) (filter (is_outranked rs) rs)

-- the notes on references whose URL has no feed among these
abbrev pub unfed_in : List Reference → List FeedParts → List Note
unfed_in rs fs = map (note_on P09) (filter (λ r. is_none (find (λ f. same_text f.url r.url) fs)) rs)

-- the notes of references and feeds on one another
abbrev pub joint_in : List Reference → List FeedParts → List Note
joint_in rs fs = outranked_in rs ++ (unfed_in rs fs ++ flat_map (uncovered_in rs) fs)

-- the note on an entry of a URL that no reference to it covers
abbrev pub uncovered_note : List ℕ → ℕ → Note
uncovered_note url line = record { origin = Feed url; line = line; rule = F09 }

-- the notes on those entries
abbrev pub uncovered_among : List Reference → List ℕ → List Entry → List Note
uncovered_among rs url es =
    map (λ e. uncovered_note url e.line) (filter (λ e. not (is_covered rs url e.block)) es)
