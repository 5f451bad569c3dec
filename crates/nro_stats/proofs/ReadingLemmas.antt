-- Reading a file piece by piece: what was read and what is left is what the text says.
use Rattle.std.proofs.Common.{◌≡◌, ℕ, ◌+◌, List, [], ◌++◌, filter_map, length, refl, sym, ap, ◌∙◌}
use Rattle.std.proofs.Common.{◌≤◌, arith, drop, eqb}
use Rattle.std.proofs.lemmas.List.{append_assoc, append-nil, length-append}
use Rattle.std.proofs.lemmas.List.Elements.{filter_map-append}
use Rattle.std.proofs.lemmas.List.Sums.{count_by-le-length}
use Rattle.std.proofs.Math.Seq.{drop-append_seam}
use Rattle.geo_addr.specs.Lines.{numbered_lines}
use Rattle.geo_terms.specs.DelegationForm.{DelegationParts}
use Rattle.geo_terms.specs.declared.note.LineNote.{LineNote}
use Rattle.line_parts.specs.Parts.{behind, feeds, lines_in}
use Rattle.line_parts.specs.declared.part.LinePart.{LinePart}
use Rattle.line_parts.proofs.GatherLemmas.{behind_none, lines_of_part, one_round}
use Rattle.nro_stats.specs.File.{longest, note_of, notes, row_of, rows}
use Rattle.nro_stats.specs.Parts.{notes_in, rows_in}
use Rattle.nro_stats.specs.Reading.{IsHeld, Kept, WasFed}

pub begun : (slot s : List ℕ) (ds : List DelegationParts) (ns : List LineNote) (left : List ℕ)
    → s ≡ slot → ds ≡ [] → ns ≡ [] → left ≡ []
    → WasFed slot [] (record { slot = s; fed = 0; before = 0; rows = ds; notes = ns; left = left })
begun slot s ds ns left same no_rows no_notes none = record {
  its = same;
  counted = refl;
  read = [];
  rows = no_rows;
  notes = no_notes;
  lines =
      λ more. behind_none (numbered_lines (left ++ more))
      ∙ ap (λ t. numbered_lines (t ++ more)) none;
}

-- one piece more
pub fed_more : (slot text piece : List ℕ) (k : Kept) (fed : ℕ) (left : List ℕ) → WasFed slot text k
    → fed ≡ k.fed + length piece → left ≡ k.left ++ piece
    → WasFed slot (text ++ piece) (record {
      slot = k.slot;
      fed = fed;
      before = k.before;
      rows = k.rows;
      notes = k.notes;
      left = left;
    })
fed_more slot text piece k fed left was count more_left =
    let counted = was.counted in
    record {
      its = was.its;
      counted = omega (arith, counted, count, length-append text piece);
      read = was.read;
      rows = was.rows;
      notes = was.notes;
      lines =
          λ more. ap (λ t. was.read ++ behind k.before (numbered_lines t))
          (ap (λ t. t ++ more) more_left ∙ append_assoc k.left piece more)
          ∙ was.lines (piece ++ more)
          ∙ ap numbered_lines (sym (append_assoc text piece more));
    }

-- the lines of a part more
pub read_more : (slot text : List ℕ) (k : Kept) (p : LinePart) (before : ℕ)
    (ds : List DelegationParts) (ns : List LineNote) (left s : List ℕ) → WasFed slot text k
    → s ≡ k.slot → p.before ≡ k.before → before ≡ k.before + feeds p.text.now
    → ds ≡ k.rows ++ rows_in s p → ns ≡ k.notes ++ notes_in p
    → ((more : List ℕ) → numbered_lines (k.left ++ more)
    ≡ numbered_lines p.text.now ++ behind (feeds p.text.now) (numbered_lines (left ++ more)))
    → WasFed slot text (record {
      slot = k.slot;
      fed = k.fed;
      before = before;
      rows = ds;
      notes = ns;
      left = left;
    })
read_more slot text k p before ds ns left s was same at count found noted split =
    record {
      its = was.its;
      counted = was.counted;
      read = was.read ++ lines_in p;
      rows =
          found ∙ ap (λ s. k.rows ++ rows_in s p) (same ∙ was.its)
          ∙ ap (λ t. t ++ rows_in slot p) was.rows
          ∙ sym (filter_map-append (row_of slot) was.read (lines_in p));
      notes =
          noted ∙ ap (λ t. t ++ notes_in p) was.notes
          ∙ sym (filter_map-append note_of was.read (lines_in p));
      lines =
          λ more.
          ap (λ n. (was.read ++ lines_in p) ++ behind n (numbered_lines (left ++ more))) count
          ∙ one_round was.read (numbered_lines (text ++ more)) k.before p (left ++ more)
          (k.left ++ more) at (split more) (was.lines more);
    }

-- a reader holds what it did, with one piece more, and with the lines of a part more
pub held_none : (s : List ℕ) (ds : List DelegationParts) (ns : List LineNote) (left : List ℕ)
    → ds ≡ [] → ns ≡ [] → left ≡ []
    → IsHeld (record { slot = s; fed = 0; before = 0; rows = ds; notes = ns; left = left })
held_none s ds ns left no_rows no_notes none =
    record {
      text = [];
      was = begun s s ds ns left refl no_rows no_notes none;
      few = omega arith;
      within = omega (arith, ap length none);
    }

pub held_more : (piece : List ℕ) (k : Kept) (fed : ℕ) (left : List ℕ) → IsHeld k
    → fed ≡ k.fed + length piece → left ≡ k.left ++ piece → fed ≤ longest
    → IsHeld (record {
      slot = k.slot;
      fed = fed;
      before = k.before;
      rows = k.rows;
      notes = k.notes;
      left = left;
    })
held_more piece k fed left h count more_left few =
    let within = h.within in
    record {
      text = h.text ++ piece;
      was = fed_more k.slot h.text piece k fed left h.was count more_left;
      few = few;
      within =
          omega (arith, within, count, ap length more_left, length-append k.left piece);
    }

pub held_read : (k : Kept) (p : LinePart) (before : ℕ) (ds : List DelegationParts)
    (ns : List LineNote) (left s : List ℕ) → IsHeld k
    → s ≡ k.slot → p.before ≡ k.before → before ≡ k.before + feeds p.text.now
    → ds ≡ k.rows ++ rows_in s p → ns ≡ k.notes ++ notes_in p
    → ((more : List ℕ) → numbered_lines (k.left ++ more)
    ≡ numbered_lines p.text.now ++ behind (feeds p.text.now) (numbered_lines (left ++ more)))
    → p.text.now ++ left ≡ k.left
    → IsHeld (record {
      slot = k.slot;
      fed = k.fed;
      before = before;
      rows = ds;
      notes = ns;
      left = left;
    })
held_read k p before ds ns left s h same at count found noted split joined =
    let within = h.within in
    record {
      text = h.text;
      was =
          read_more k.slot h.text k p before ds ns left s h.was same at count found noted split;
      few = h.few;
      within =
          omega (
            arith,
            within,
            count,
            count_by-le-length (λ b. eqb b 10) p.text.now,
            ap length joined,
            length-append p.text.now left,
          );
    }

-- what is kept behind the lines that were read
pub left_over : (lines left all kept : List ℕ) → lines ++ left ≡ all
    → kept ≡ drop (length lines) all → kept ≡ left
left_over lines left all kept joined is =
    is ∙ ap (drop (length lines)) (sym joined) ∙ drop-append_seam lines left

pub split_there : (lines left all kept held : List ℕ) → all ≡ held → kept ≡ left
    → ((more : List ℕ) → numbered_lines (all ++ more)
    ≡ numbered_lines lines ++ behind (feeds lines) (numbered_lines (left ++ more)))
    → (more : List ℕ) → numbered_lines (held ++ more)
    ≡ numbered_lines lines ++ behind (feeds lines) (numbered_lines (kept ++ more))
split_there lines left all kept held same is split more =
    ap (λ t. numbered_lines (t ++ more)) (sym same) ∙ split more
    ∙ ap (λ t. numbered_lines lines ++ behind (feeds lines) (numbered_lines (t ++ more))) (sym is)

pub joined_there : (lines left all kept held : List ℕ) → lines ++ left ≡ all → all ≡ held
    → kept ≡ left → lines ++ kept ≡ held
joined_there lines left all kept held joined same is =
    ap (λ t. lines ++ t) is ∙ joined ∙ same

pub found_there : (before now then more : List DelegationParts) → then ≡ before ++ more
    → before ≡ now → then ≡ now ++ more
found_there before now then more is same = is ∙ ap (λ t. t ++ more) same

-- the end of a file
module _ (slot text s : List ℕ) (k : Kept) (p : LinePart) (was : WasFed slot text k)
    (same : s ≡ k.slot) (at : p.before ≡ k.before) (is : p.text.now ≡ k.left) where
  all_read : was.read ++ lines_in p ≡ numbered_lines text
  all_read =
      ap (λ t. was.read ++ t) (sym (lines_of_part p)
      ∙ ap (λ n. behind n (numbered_lines p.text.now)) at
      ∙ ap (λ t. behind k.before (numbered_lines t)) (is ∙ sym (append-nil k.left)))
      ∙ was.lines [] ∙ ap numbered_lines (append-nil text)

  pub ended_rows : (ds : List DelegationParts) → ds ≡ k.rows ++ rows_in s p
      → ds ≡ rows slot text
  ended_rows ds found =
      found ∙ ap (λ s. k.rows ++ rows_in s p) (same ∙ was.its)
      ∙ ap (λ t. t ++ rows_in slot p) was.rows
      ∙ sym (filter_map-append (row_of slot) was.read (lines_in p))
      ∙ ap (filter_map (row_of slot)) all_read

  pub ended_notes : (ns : List LineNote) → ns ≡ k.notes ++ notes_in p → ns ≡ notes text
  ended_notes ns noted =
      noted ∙ ap (λ t. t ++ notes_in p) was.notes
      ∙ sym (filter_map-append note_of was.read (lines_in p))
      ∙ ap (filter_map note_of) all_read
