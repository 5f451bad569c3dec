use Rattle.std.proofs.Common.{◌≡◌, ◌∙◌, ◌++◌, List, ap, rules}
use Rattle.std.specs.Ordering.{is_lt}
use Rattle.std.specs.List.Sorted.{IsSortedBy}
use Rattle.std.proofs.lemmas.List.Sorted.{answers_always, ranks_by}
use Rattle.authority.proofs.NoteOrder.{note_total}
use Rattle.geo_terms.specs.NoteText.{note_cmp}
use Rattle.geo_terms.specs.Report.{alias_notes, in_order, joint_notes, reader_notes}
use Rattle.geo_terms.specs.Sources.{InForce}
use Rattle.geo_terms.specs.declared.note.Note.{Note}
use Rattle.precedence.proofs.NoteLemmas.{report_is_sorted}
use Rattle.precedence.proofs.sources.Sources.report.Goals as goal

pub returns : goal.returns
returns c =
    let joint : c.in_ok-notes.notes.items ≡ in_order note_cmp (joint_notes c.args.self.now) =
    c.in_ok-notes.ensures
    ∙ ap (λ (s : InForce). in_order note_cmp (joint_notes s)) c.self.view_is in
    let read : c.push_reader_notes.new.notes.items
    ≡ in_order note_cmp (joint_notes c.args.self.now) ++ reader_notes c.args.self.now =
    c.in_ok-push_reader_notes.ensures
    ∙ ap (λ (ns : List Note). ns ++ reader_notes c.args.self.now) joint in
    let all : c.push_alias_notes.new.notes.items ≡ (in_order note_cmp
    (joint_notes c.args.self.now) ++ reader_notes c.args.self.now) ++ alias_notes c.args.self.now =
    c.in_ok-push_alias_notes.ensures
    ∙ ap (λ (ns : List Note). ns ++ alias_notes c.args.self.now) read in
    let sorted : IsSortedBy
    (λ (x y : Note). is_lt (note_cmp x y)) c.sort_unstable_by.new.self.items =
    c.sort_unstable_by.ensures.sorted (λ (x y : Note). is_lt (note_cmp x y))
    (ranks_by note_total (λ (n : Note). n)) (answers_always _ _ _
    (λ f a r q k. let e : r ≡ note_cmp a.0.now a.1.0.now = search rules in ap is_lt e)) in
    report_is_sorted c.args.self.now c.push_alias_notes.new.notes.items
    c.sort_unstable_by.new.self.items all c.sort_unstable_by.ensures.permutation sorted
