-- The report: the notes of all sources in force, in its order.
use Rattle.std.specs.Prelude.{ℕ, Bool, not, ◌&&◌, ◌==◌, is_none, Option, Some, None, List, [], ◌∷◌}
use Rattle.std.specs.Prelude.{◌++◌, map, filter, flat_map, if◌then◌else◌}
use Rattle.std.specs.List.{list_any}
use Rattle.std.specs.declared.cmp.Ordering.{Ordering}
use Rattle.std.specs.Ordering.{is_le}
use Rattle.geo_addr.specs.Ranges.{Ends, Prefix, range_of_block, is_v4}
use Rattle.geo_terms.specs.NoteText.{note_cmp}
use Rattle.geo_terms.specs.PlaceForm.{same_text}
use Rattle.geo_terms.specs.Precedence.{reference_before, lies_within}
use Rattle.geo_terms.specs.SourceForm.{FeedParts, OverridesParts}
use Rattle.geo_terms.specs.Alias.{lies_in_alias}
use Rattle.geo_terms.specs.Sources.{InForce, references, feed_of, delegations, override_rows}
use Rattle.geo_terms.specs.declared.note.LineNote.{LineNote}
use Rattle.geo_terms.specs.declared.note.Note.{Note}
use Rattle.geo_terms.specs.declared.note.Origin.{Origin}
use Rattle.geo_terms.specs.declared.note.Origin.TheVariants.{Rpsl, Feed, Stats, Overrides}
use Rattle.geo_terms.specs.declared.note.Rule.TheVariants.{P08, P09, F09, A01}
use Rattle.geo_terms.specs.declared.statement.Reference.{Reference}

abbrev pub same_ends : Ends → Ends → Bool
same_ends x y = (x.first == y.first) && (x.last == y.last)

-- a reference of the identical range comes before this one
abbrev pub is_outranked : List Reference → Reference → Bool
is_outranked rs r = list_any (λ t. same_ends t.range r.range && reference_before t r) rs

-- whether a reference covers a block: its range is of the block's family and contains it
abbrev pub covers : Reference → Prefix → Bool
covers r b =
    (if is_v4 r.range then is_v4 (range_of_block b) else not (is_v4 (range_of_block b)))
    && lies_within b r.range

-- whether a reference to this URL covers a block
abbrev pub is_covered : List Reference → List ℕ → Prefix → Bool
is_covered rs url b = list_any (λ r. same_text r.url url && covers r b) rs

-- the notes on references that are not the first of their range
abbrev pub outranked_notes : InForce → List Note
outranked_notes s =
    map (λ r. record { origin = Rpsl r.slot; line = r.line; rule = P08 })
    (filter (is_outranked (references s)) (references s))

-- the notes on references whose URL has no feed
abbrev pub unfed_notes : InForce → List Note
unfed_notes s =
    map (λ r. record { origin = Rpsl r.slot; line = r.line; rule = P09 })
    (filter (λ r. is_none (feed_of s r.url)) (references s))

abbrev pub uncovered_in : List Reference → FeedParts → List Note
uncovered_in rs f =
    map (λ e. record { origin = Feed f.url; line = e.line; rule = F09 })
    (filter (λ e. not (is_covered rs f.url e.block)) f.entries)

-- the notes on entries that no reference to their feed covers
abbrev pub uncovered_notes : InForce → List Note
uncovered_notes s = flat_map (uncovered_in (references s)) s.feeds

-- a note on a statement whose ground lies within one alias block
abbrev pub alias_note : Origin → Ends → ℕ → List Note
alias_note origin r line =
    if lies_in_alias r then record { origin = origin; line = line; rule = A01 } ∷ [] else []

-- the notes on statements that speak nowhere, since their ground lies within one alias block
abbrev pub alias_notes : InForce → List Note
alias_notes s =
    flat_map (λ r. alias_note (Rpsl r.slot) r.range r.line) (references s)
    ++ (flat_map
    (λ f. flat_map (λ e. alias_note (Feed f.url) (range_of_block e.block) e.line) f.entries) s.feeds
    ++ (flat_map (λ d. alias_note (Stats d.slot) d.range d.line) (delegations s)
    ++ flat_map (λ o. alias_note Overrides o.range o.line) (override_rows s)))

-- a list in an order: each member is put before the first one that is not before it
abbrev pub put_in : {X : Type 0} → (X → X → Ordering) → X → List X → List X
put_in cmp x [] = x ∷ []
put_in cmp x (y ∷ ys) = if is_le (cmp x y) then x ∷ y ∷ ys else y ∷ put_in cmp x ys

abbrev pub in_order : {X : Type 0} → (X → X → Ordering) → List X → List X
in_order cmp [] = []
in_order cmp (x ∷ xs) = put_in cmp x (in_order cmp xs)

-- the notes of a source, with the source named
abbrev pub named : Origin → List LineNote → List Note
named origin = map (λ n. record { origin = origin; line = n.line; rule = n.rule })

abbrev pub notes_in : Option OverridesParts → List Note
notes_in None = []
notes_in (Some o) = named Overrides o.notes

-- the notes that the readers gave
abbrev pub reader_notes : InForce → List Note
reader_notes s =
    flat_map (λ d. named (Rpsl d.slot) d.notes) s.dumps
    ++ (flat_map (λ f. named (Feed f.url) f.notes) s.feeds
    ++ (flat_map (λ t. named (Stats t.slot) t.notes) s.stats ++ notes_in s.overrides))

-- the notes of one source on others: rules that a source alone cannot tell
abbrev pub joint_notes : InForce → List Note
joint_notes s = outranked_notes s ++ (unfed_notes s ++ uncovered_notes s)

-- the notes of all sources in force, by kind, slot or URL, line and code
unfoldable pub report : InForce → List Note
report s = in_order note_cmp (reader_notes s ++ (joint_notes s ++ alias_notes s))
