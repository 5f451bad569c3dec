-- A part ends behind the line feed at which the rest of the text was cut.
use Rattle.std.proofs.Common.{◌∙◌, inr, rules, sym}
use Rattle.std.proofs.lemmas.List.{take_rest}
use Rattle.line_parts.proofs.CutLemmas.{cut_end, free_end, marked_end, short_end}
use Rattle.line_parts.proofs.PartLemmas.{cut_ends, cut_joined, cut_short, free_short, marked_short}
use Rattle.line_parts.proofs.cut.cut_behind.Goals as goal

pub returns-else-has_mark-clause-joined : goal.returns-else-has_mark-clause-joined
returns-else-has_mark-clause-joined c =
    cut_joined c.args.size c.args.text.now c.cut_at.result.0.now c.in-Some.after.now
    (rw take_rest at (rw c.in-Some.is at c.cut_at.ensures.joined))

pub returns-else-has_mark-clause-end : goal.returns-else-has_mark-clause-end
returns-else-has_mark-clause-end c =
    inr (cut_ends c.args.size c.args.text.now c.cut_at.result.0.now c.in-Some.after.now
    (rw take_rest at (rw c.in-Some.is at c.cut_at.ensures.joined)))

pub returns-else-has_mark-clause-short : goal.returns-else-has_mark-clause-short
returns-else-has_mark-clause-short c =
    cut_short c.args.size c.args.text.now c.cut_at.result.0.now c.in-Some.after.now (search rules)
    c.cut_at.ensures.free (rw take_rest at (rw c.in-Some.is at c.cut_at.ensures.joined))

pub returns-then-has_mark-clause-short : goal.returns-then-has_mark-clause-short
returns-then-has_mark-clause-short c =
    marked_short c.args.size c.args.text.now c.cut_at.result.0.now c.in-Some.after.now
    (rw take_rest at (rw c.in-Some.is at c.cut_at.ensures.joined))
    (c.has_mark.ensures.with (search rules))

pub returns-in-None-clause-short : goal.returns-in-None-clause-short
returns-in-None-clause-short c =
    free_short c.args.size c.args.text.now c.cut_at.result.0.now
    (rw take_rest at (rw c.in-None.is at c.cut_at.ensures.joined)) c.cut_at.ensures.free

pub returns-then-text-size-clause-first : goal.returns-then-text-size-clause-first
returns-then-text-size-clause-first c =
    (short_end c.args.size c.args.text.now c.if-text-size.true).0

pub returns-then-text-size-clause-rest : goal.returns-then-text-size-clause-rest
returns-then-text-size-clause-rest c =
    (short_end c.args.size c.args.text.now c.if-text-size.true).1

pub returns-else-has_mark-clause-first : goal.returns-else-has_mark-clause-first
returns-else-has_mark-clause-first c =
    (cut_end c.args.size c.args.text.now c.cut_at.result.0.now c.in-Some.after.now (search rules)
    c.cut_at.ensures.free (rw take_rest at (rw c.in-Some.is at c.cut_at.ensures.joined))
    (sym c.has_mark.ensures.exact ∙ c.if-has_mark.false)).0

pub returns-else-has_mark-clause-rest : goal.returns-else-has_mark-clause-rest
returns-else-has_mark-clause-rest c =
    (cut_end c.args.size c.args.text.now c.cut_at.result.0.now c.in-Some.after.now (search rules)
    c.cut_at.ensures.free (rw take_rest at (rw c.in-Some.is at c.cut_at.ensures.joined))
    (sym c.has_mark.ensures.exact ∙ c.if-has_mark.false)).1

pub returns-then-has_mark-clause-first : goal.returns-then-has_mark-clause-first
returns-then-has_mark-clause-first c =
    (marked_end c.args.size c.args.text.now c.cut_at.result.0.now c.in-Some.after.now (search rules)
    c.cut_at.ensures.free (rw take_rest at (rw c.in-Some.is at c.cut_at.ensures.joined))
    (sym c.has_mark.ensures.exact ∙ c.if-has_mark.true)).0

pub returns-then-has_mark-clause-rest : goal.returns-then-has_mark-clause-rest
returns-then-has_mark-clause-rest c =
    (marked_end c.args.size c.args.text.now c.cut_at.result.0.now c.in-Some.after.now (search rules)
    c.cut_at.ensures.free (rw take_rest at (rw c.in-Some.is at c.cut_at.ensures.joined))
    (sym c.has_mark.ensures.exact ∙ c.if-has_mark.true)).1

pub returns-in-None-clause-first : goal.returns-in-None-clause-first
returns-in-None-clause-first c =
    (free_end c.args.size c.args.text.now c.cut_at.result.0.now
    (rw take_rest at (rw c.in-None.is at c.cut_at.ensures.joined)) c.cut_at.ensures.free).0

pub returns-in-None-clause-rest : goal.returns-in-None-clause-rest
returns-in-None-clause-rest c =
    (free_end c.args.size c.args.text.now c.cut_at.result.0.now
    (rw take_rest at (rw c.in-None.is at c.cut_at.ensures.joined)) c.cut_at.ensures.free).1
