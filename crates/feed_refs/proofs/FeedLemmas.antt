-- What a call of a reader of a dump leaves, over the text that the reader was fed.
use Rattle.std.proofs.Common.{◌≡◌, ℕ, ◌+◌, ◌-◌, ◌<◌, ◌≤◌, List, ◌++◌, length, take, Option, Some}
use Rattle.std.proofs.Common.{None, Result, Ok, Err, sym, ap, subst, arith, ◌∙◌}
use Rattle.std.proofs.lemmas.List.{length-take, take_all}
use Rattle.std.specs.Prelude.{IfErr}
use Rattle.geo_terms.specs.SourceForm.{DumpParts, IsDump}
use Rattle.geo_terms.specs.declared.note.LineNote.{LineNote}
use Rattle.geo_terms.specs.declared.source.SourceFault.{SourceFault}
use Rattle.geo_terms.specs.declared.source.SourceFault.TheVariants.{TooLong, TooMany}
use Rattle.geo_terms.specs.declared.statement.Reference.{Reference}
use Rattle.rpsl_reader.specs.Objects.{objects}
use Rattle.rpsl_reader.specs.Reading.{after, given, last}
use Rattle.rpsl_reader.specs.Selections.{Wanted, wanted}
use Rattle.rpsl_reader.specs.declared.item.Item.{Item}
use Rattle.feed_refs.specs.Dumps.{AreApart, dump, dump_parts, in_line_order, longest, most, noted}
use Rattle.feed_refs.specs.Dumps.{references, so_far}
use Rattle.feed_refs.specs.Readings.{Kept, Reading, WasFed, kept_by, kept_if, kept_of, ours}
use Rattle.feed_refs.specs.Readings.{reading}
use Rattle.feed_refs.proofs.DumpForm.{in_form, notes_apart}
use Rattle.feed_refs.proofs.ReadingLemmas.{Opened, fault_opened, fault_reading, fault_stays}
use Rattle.feed_refs.proofs.ReadingLemmas.{next_long, next_many, next_ok, next_reading, opened}
use Rattle.feed_refs.proofs.ReadingLemmas.{end_fault, end_many, end_noted, end_ok, end_parts}
use Rattle.feed_refs.proofs.WantedLemmas.{noted_wanted, references_wanted}

-- a reading with something kept, and one with a fault
abbrev pub holding : List ℕ → Kept → Reading
holding slot k = record { slot = slot; kept = Ok k }

abbrev pub faulty : List ℕ → SourceFault → Reading
faulty slot f = record { slot = slot; kept = Err f }

-- a reader behind a fault
pub fault_read : (slot : List ℕ) (f : SourceFault) (v : Reading) → faulty slot f ≡ v
    → (text piece : List ℕ) → v ≡ reading v.slot text
    → (v ≡ reading v.slot (text ++ piece)) × (Err f ≡ so_far v.slot (text ++ piece))
fault_read slot f v is =
    subst (λ (w : Reading). (text piece : List ℕ) → w ≡ reading w.slot text
    → (w ≡ reading w.slot (text ++ piece)) × (Err f ≡ so_far w.slot (text ++ piece))) is
    (λ text piece h.
    let now : so_far slot text ≡ Err f =
    fault_opened slot text f (ap (λ (w : Reading). w.kept) h) in
    let then : so_far slot (text ++ piece) ≡ Err f = fault_stays slot text piece f now in
    ((λ i. record { slot = slot; kept = fault_reading slot (text ++ piece) f then i }), sym then))

-- and what such a reader holds of its fault
pub behind_fault : (slot : List ℕ) (f : SourceFault) (v : Reading) → faulty slot f ≡ v
    → (P : SourceFault → Type 0) → P f → IfErr v.kept P
behind_fault slot f v is P p = subst (λ (w : Reading). IfErr w.kept P) is p

-- a reader that was not refused has no fault
pub no_fault : (slot : List ℕ) (k : Kept) (fault : Option SourceFault) → fault ≡ None
    → (v : Reading) → record { slot = slot; kept = kept_by fault k } ≡ v
    → (P : SourceFault → Type 0) → IfErr v.kept P
no_fault slot k fault none v is P =
    subst (λ (w : Reading). IfErr w.kept P)
    (subst (λ (g : Option SourceFault). record { slot = slot; kept = kept_by g k } ≡ v) none is) tt

-- a reader that holds something, whatever text it was fed
pub holds_opened : (slot : List ℕ) (k : Kept) (text : List ℕ) → holding slot k ≡ reading slot text
    → Opened slot text k
holds_opened slot k text h = opened slot text k (ap (λ (w : Reading). w.kept) h)

module _ (slot : List ℕ) (k : Kept) (fault : Option SourceFault) (none : fault ≡ None) where
  pub is_holding : (v : Reading) → record { slot = slot; kept = kept_by fault k } ≡ v
      → holding slot k ≡ v
  is_holding v e =
      subst (λ (g : Option SourceFault). record { slot = slot; kept = kept_by g k } ≡ v) none e

  pub was_holding : WasFed (record { slot = slot; kept = kept_by fault k })
      → WasFed (holding slot k)
  was_holding e =
      subst (λ (g : Option SourceFault). WasFed (record { slot = slot; kept = kept_by g k })) none e

  -- a piece leads to a fault
  module _ (piece : List ℕ) (f : SourceFault)
      (leads : (text : List ℕ) → Opened slot text k → so_far slot (text ++ piece) ≡ Err f) where
    pub fault_held : WasFed (record { slot = slot; kept = kept_by fault k })
        → WasFed (faulty slot f)
    fault_held was =
        let w = was_holding was in (
          w.0 ++ piece,
          (λ i. record {
            slot = slot;
            kept = fault_reading slot (w.0 ++ piece) f (leads w.0 (holds_opened slot k w.0 w.1)) i;
          }),
        )

    pub fault_found : (v : Reading) → record { slot = slot; kept = kept_by fault k } ≡ v
        → (text : List ℕ) → v ≡ reading v.slot text
        → (faulty slot f ≡ reading v.slot (text ++ piece)) × (Err f ≡ so_far v.slot (text ++ piece))
    fault_found v is =
        subst (λ (w : Reading). (text : List ℕ) → w ≡ reading w.slot text
        → (faulty slot f ≡ reading w.slot (text ++ piece))
        × (Err f ≡ so_far w.slot (text ++ piece))) (is_holding v is)
        (λ text h.
        let then : so_far slot (text ++ piece) ≡ Err f =
        leads text (holds_opened slot k text h) in (
          (λ i. record { slot = slot; kept = fault_reading slot (text ++ piece) f then i }),
          sym then,
        ))

  -- a piece leads on
  module _ (piece : List ℕ) (k' : Kept)
      (leads : (text : List ℕ) → Opened slot text k → (so_far slot (text ++ piece) ≡ Ok tt)
      × (Ok k' ≡ kept_if (so_far slot (text ++ piece)) (kept_of slot (text ++ piece)))) where
    on_reading : (text : List ℕ) → Opened slot text k
        → record { slot = slot; kept = kept_by fault k' } ≡ reading slot (text ++ piece)
    on_reading text o =
        let step = leads text o in
        (ap (λ (g : Option SourceFault). record { slot = slot; kept = kept_by g k' }) none)
        ∙ (λ i. record { slot = slot; kept = step.1 i })

    pub held_on : WasFed (record { slot = slot; kept = kept_by fault k })
        → WasFed (record { slot = slot; kept = kept_by fault k' })
    held_on was =
        let w = was_holding was in (w.0 ++ piece, on_reading w.0 (holds_opened slot k w.0 w.1))

    pub read_on : (v : Reading) → record { slot = slot; kept = kept_by fault k } ≡ v
        → (text : List ℕ) → v ≡ reading v.slot text
        → (record { slot = slot; kept = kept_by fault k' } ≡ reading v.slot (text ++ piece))
        × (Ok tt ≡ so_far v.slot (text ++ piece))
    read_on v is =
        subst (λ (w : Reading). (text : List ℕ) → w ≡ reading w.slot text
        → (record { slot = slot; kept = kept_by fault k' } ≡ reading w.slot (text ++ piece))
        × (Ok tt ≡ so_far w.slot (text ++ piece))) (is_holding v is)
        (λ text h. let o = holds_opened slot k text h in (on_reading text o, sym (leads text o).0))

-- what items say, of which those were asked for that matter
module _ (slot : List ℕ) (items found all : List Item) (selection : Wanted) (same : items ≡ found)
    (chosen : found ≡ wanted selection all) (asked : selection ≡ ours) where
  items_are : items ≡ wanted ours all
  items_are = same ∙ chosen ∙ ap (λ w. wanted w all) asked

  pub refs_are : (rs : List Reference) → rs ≡ references slot items → rs ≡ references slot all
  refs_are rs e = e ∙ ap (references slot) items_are ∙ references_wanted slot all

  pub notes_are : (ns : List LineNote) → ns ≡ noted slot items → ns ≡ noted slot all
  notes_are ns e = e ∙ ap (noted slot) items_are ∙ noted_wanted slot all

-- a piece that is not whole within the bytes that count goes past them
pub goes_past : (fed : ℕ) (piece cut : List ℕ) → cut ≡ take (longest - fed) piece
    → length cut < length piece → longest < fed + length piece
goes_past fed piece cut e lt =
    let h = ap length e ∙ length-take (longest - fed) piece in omega (arith, h)

pub is_whole : (fed : ℕ) (piece cut : List ℕ) → fed ≤ longest → cut ≡ take (longest - fed) piece
    → length piece ≤ length cut → (fed + length piece ≤ longest) × (cut ≡ piece)
is_whole fed piece cut short e le =
    let h = ap length e ∙ length-take (longest - fed) piece in
    let room : length piece ≤ longest - fed = omega (arith, h) in
    (omega (arith, short), e ∙ take_all (longest - fed) piece room)

pub is_faulty : (slot : List ℕ) (k : Kept) (fault : Option SourceFault) (f : SourceFault)
    → fault ≡ Some f → (v : Reading) → record { slot = slot; kept = kept_by fault k } ≡ v
    → faulty slot f ≡ v
is_faulty slot k fault f some v e =
    subst (λ (g : Option SourceFault). record { slot = slot; kept = kept_by g k } ≡ v) some e

-- a reader without a fault was fed no more bytes than count
pub fed-le-longest : (slot : List ℕ) (k : Kept) (fault : Option SourceFault) → fault ≡ None
    → WasFed (record { slot = slot; kept = kept_by fault k }) → k.reader.fed ≤ longest
fed-le-longest slot k fault none was =
    let w = was_holding slot k fault none was in
    let o = holds_opened slot k w.0 w.1 in
    omega (arith, o.fed, o.short)

pub cut_is : (fed count room : ℕ) (piece cut : List ℕ) → cut ≡ take room piece
    → room ≡ longest - count → count ≡ fed → cut ≡ take (longest - fed) piece
cut_is fed count room piece cut e r n = e ∙ ap (λ m. take m piece) (r ∙ ap (λ m. longest - m) n)

pub length-cut-le : (fed : ℕ) (piece cut : List ℕ) → cut ≡ take (longest - fed) piece
    → length cut ≤ longest - fed
length-cut-le fed piece cut e =
    let h = ap length e ∙ length-take (longest - fed) piece in omega (arith, h)

-- too many references, or too many bytes, or neither: what is told of the text and the piece
module _ (slot : List ℕ) (k : Kept) (piece cut : List ℕ) (rs : List Reference)
    (is_cut : cut ≡ take (longest - k.reader.fed) piece)
    (said : rs ≡ references slot (given k.reader.state cut)) where
  said_count : length rs
      ≡ length (references slot (given k.reader.state (take (longest - k.reader.fed) piece)))
  said_count = ap length (said ∙ ap (λ t. references slot (given k.reader.state t)) is_cut)

  pub leads_many : most < length k.refs + length rs → (text : List ℕ) → Opened slot text k
      → so_far slot (text ++ piece) ≡ Err TooMany
  leads_many h text o = next_many slot text piece k o (omega (arith, said_count))

  pub leads_long : length k.refs + length rs ≤ most → length cut < length piece → (text : List ℕ)
      → Opened slot text k → so_far slot (text ++ piece) ≡ Err TooLong
  leads_long few lt text o =
      next_long slot text piece k o (omega (arith, said_count))
      (goes_past k.reader.fed piece cut is_cut lt)

  pub leads_on : length k.refs + length rs ≤ most → length piece ≤ length cut → (ns : List LineNote)
      → ns ≡ noted slot (given k.reader.state cut)
      → (k' : Kept) → k'.reader.fed ≡ k.reader.fed + length cut
      → k'.reader.state ≡ after k.reader.state cut → k'.refs ≡ k.refs ++ rs
      → k'.notes ≡ k.notes ++ ns
      → (text : List ℕ) → Opened slot text k → (so_far slot (text ++ piece) ≡ Ok tt)
      × (Ok k' ≡ kept_if (so_far slot (text ++ piece)) (kept_of slot (text ++ piece)))
  leads_on few le ns told k' fed state refs notes text o =
      let whole = is_whole k.reader.fed piece cut (omega (arith, o.fed, o.short)) is_cut le in
      let good = next_ok slot text piece k o (omega (arith, said_count)) whole.0 in (
        good,
        next_reading slot text piece k o k'
            (fed ∙ ap (λ t. k.reader.fed + length t) whole.1)
            (state ∙ ap (λ t. after k.reader.state t) whole.1)
            (refs ∙ ap (λ t. k.refs ++ t)
            (said ∙ ap (λ t. references slot (given k.reader.state t)) whole.1))
            (notes
            ∙ ap (λ t. k.notes ++ t) (told ∙ ap (λ t. noted slot (given k.reader.state t)) whole.1))
            good,
      )

-- the end of the text
module _ (slot : List ℕ) (k : Kept) (rs : List Reference)
    (said : rs ≡ references slot (last k.reader.state)) where
  end_said : length rs ≡ length (references slot (last k.reader.state))
  end_said = ap length said

  pub ends_many : most < length k.refs + length rs → (text : List ℕ) → Opened slot text k
      → dump slot text ≡ Err TooMany
  ends_many h text o = end_many slot text k o (omega (arith, end_said))

  -- what is put together is the dump of the text
  module _ (raw sorted : List LineNote) (told : raw ≡ k.notes ++ noted slot (last k.reader.state))
      (order : AreApart raw → sorted ≡ in_line_order raw) where
    pub ends_parts : (d : DumpParts) → d.slot ≡ slot → d.refs ≡ k.refs ++ rs → d.notes ≡ sorted
        → (text : List ℕ) → Opened slot text k → d ≡ dump_parts slot text
    ends_parts d e refs notes text o =
        let is : raw ≡ noted slot (objects text) = told ∙ sym (end_noted slot text k o) in
        end_parts slot text k o d e (refs ∙ ap (λ t. k.refs ++ t) said)
        (notes ∙ order (subst AreApart (sym is) (notes_apart slot text)) ∙ ap in_line_order told)

    pub ends_ok : length k.refs + length rs ≤ most → (d : DumpParts) → d.slot ≡ slot
        → d.refs ≡ k.refs ++ rs → d.notes ≡ sorted → (text : List ℕ) → Opened slot text k
        → Ok d ≡ dump slot text
    ends_ok few d e refs notes text o =
        ap (λ x. Ok x) (ends_parts d e refs notes text o)
        ∙ sym (end_ok slot text k o (omega (arith, end_said)))

    pub ends_in_form : (fault : Option SourceFault) → fault ≡ None
        → WasFed (record { slot = slot; kept = kept_by fault k }) → (d : DumpParts) → d.slot ≡ slot
        → d.refs ≡ k.refs ++ rs → d.notes ≡ sorted → IsDump d
    ends_in_form fault none was d e refs notes =
        let w = was_holding slot k fault none was in
        subst IsDump (sym (ends_parts d e refs notes w.0 (holds_opened slot k w.0 w.1)))
        (in_form slot w.0)

-- what is told at the end holds of whatever text was fed
pub ends_read : (slot : List ℕ) (k : Kept) (fault : Option SourceFault) → fault ≡ None
    → (v : Reading) → record { slot = slot; kept = kept_by fault k } ≡ v
    → (r : Result DumpParts SourceFault)
    → ((text : List ℕ) → Opened slot text k → r ≡ dump slot text) → (text : List ℕ)
    → v ≡ reading v.slot text → r ≡ dump v.slot text
ends_read slot k fault none v is r told =
    subst (λ (w : Reading). (text : List ℕ) → w ≡ reading w.slot text → r ≡ dump w.slot text)
    (is_holding slot k fault none v is)
    (λ text h. told text (holds_opened slot k text h))

pub fault_dump : (slot : List ℕ) (f : SourceFault) (v : Reading) → faulty slot f ≡ v
    → (text : List ℕ) → v ≡ reading v.slot text → Err f ≡ dump v.slot text
fault_dump slot f v is =
    subst (λ (w : Reading). (text : List ℕ) → w ≡ reading w.slot text → Err f ≡ dump w.slot text) is
    (λ text h.
    sym (end_fault slot text f (fault_opened slot text f (ap (λ (w : Reading). w.kept) h))))
