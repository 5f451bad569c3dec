-- A line without fields takes nothing from the reader, and one with fields takes its row.
use Rattle.std.proofs.Common.{◌∙◌, subst, sym}
use Rattle.csv_lines.specs.Clean.{AreTexts}
use Rattle.csv_lines.specs.Rests.{row_of, rest_of}
use Rattle.csv_lines.proofs.RestLemmas.{handed_blank, handed_fields, handed_no_fields}
use Rattle.csv_lines.proofs.RestLemmas.{handed_not_text, has_row}
use Rattle.csv_lines.proofs.TextLemmas.{fields_are_texts}
use Rattle.csv_lines.proofs.rows.next_row.Goals as goal

pub returns-in-Blank-clause-stands : goal.returns-in-Blank-clause-stands
returns-in-Blank-clause-stands c left stands =
    rw (handed_blank c.args.line.now
    (rw c.rest_of-rest.ensures at (sym c.content_of-content.ensures ∙ c.in-Blank.is))) at stands

pub returns-in-NotText-clause-stands : goal.returns-in-NotText-clause-stands
returns-in-NotText-clause-stands c left stands =
    rw (handed_not_text c.args.line.now
    (rw c.rest_of-rest.ensures at (sym c.content_of-content.ensures ∙ c.in-NotText.is))) at stands

pub returns-in-NoFields-clause-stands : goal.returns-in-NoFields-clause-stands
returns-in-NoFields-clause-stands c left stands =
    rw (handed_no_fields c.args.line.now
    (rw c.rest_of-rest.ensures at (sym c.content_of-content.ensures ∙ c.in-NoFields.is))) at stands

pub returns-in_ok-take_row-in-Fields-clause-row : goal.returns-in_ok-take_row-in-Fields-clause-row
returns-in_ok-take_row-in-Fields-clause-row c is =
    let (left, stands) = c.requires in
    let fields = sym (c.content_of-content.ensures) ∙ c.in-Fields.is in
    let same = c.rest_of-rest.ensures in
    let (some, row) = has_row (rest_of c.args.line.now) (rw same at fields) in
    (rw c.in_ok-take_row-in-Fields.was at
    ((rw same at c.take_row.ensures) left (row_of (rest_of c.args.line.now)) some row
    (rw (handed_fields c.args.line.now left (rw same at fields)) at stands))).0

pub returns-in_ok-take_row-in-Fields-clause-stands :
    goal.returns-in_ok-take_row-in-Fields-clause-stands
returns-in_ok-take_row-in-Fields-clause-stands c left stands =
    let fields = sym (c.content_of-content.ensures) ∙ c.in-Fields.is in
    let same = c.rest_of-rest.ensures in
    let (some, row) = has_row (rest_of c.args.line.now) (rw same at fields) in
    (rw c.in_ok-take_row-in-Fields.was at
    ((rw same at c.take_row.ensures) left (row_of (rest_of c.args.line.now)) some row
    (rw (handed_fields c.args.line.now left (rw same at fields)) at stands))).1

pub returns-in_ok-take_row-in-Fields-clause-texts :
    goal.returns-in_ok-take_row-in-Fields-clause-texts
returns-in_ok-take_row-in-Fields-clause-texts c is =
    let fields = rw c.rest_of-rest.ensures at (sym c.content_of-content.ensures ∙ c.in-Fields.is) in
    subst AreTexts (sym (returns-in_ok-take_row-in-Fields-clause-row c is))
    (fields_are_texts c.args.line.now fields)
