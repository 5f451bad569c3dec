use Rattle.std.proofs.Common.{◌≡◌, ◌∙◌, ◌++◌, List, ap, sym, subst, rules, refl, append_assoc}
use Rattle.std.specs.List.{flat_map}
use Rattle.std.specs.List.Sorted.{IsSortedBy}
use Rattle.std.specs.Ordering.{is_lt}
use Rattle.std.proofs.lemmas.List.Sorted.{answers_always, ranks_by}
use Rattle.geo_terms.specs.NoteText.{note_cmp}
use Rattle.geo_terms.specs.Report.{in_order, uncovered_in}
use Rattle.geo_terms.specs.SourceForm.{FeedParts}
use Rattle.geo_terms.specs.declared.note.Note.{Note}
use Rattle.geo_terms.specs.declared.statement.Reference.{Reference}
use Rattle.authority.specs.Members.{HaveAlike, weight}
use Rattle.authority.specs.Ranked.{joint_in, outranked_in, unfed_in}
use Rattle.authority.proofs.NoteOrder.{note_exact, note_total}
use Rattle.authority.proofs.Ordered.{alike_append, alike_from_permutation, alike_in_order}
use Rattle.authority.proofs.Ordered.{ascends_from_sorted}
use Rattle.authority.proofs.notes.joint_notes.Goals as goal

pub returns : goal.returns
returns c =
    let fs : List FeedParts = c.args.feeds.now in
    let rs : List Reference = c.references-refs.result.now in
    let is : rs ≡ c.args.index.now = c.references-refs.ensures in
    let found : List Note = c.in_ok-notes.notes.items in
    let all : List Note = c.push_uncovered.new.notes.items in
    let new : List Note = c.sort_unstable_by.new.self.items in
    let joined : all ≡ found ++ (unfed_in rs fs ++ flat_map (uncovered_in rs) fs) =
    c.in_ok-push_uncovered.ensures ∙ ap
    (λ ns. ns ++ flat_map (uncovered_in c.args.index.now) fs) c.in_ok-push_unfed.ensures
    ∙ append_assoc found (unfed_in rs fs) (flat_map (uncovered_in c.args.index.now) fs)
    ∙ ap (λ qs. found ++ (unfed_in rs fs ++ flat_map (uncovered_in qs) fs)) (sym is) in
    let alike : HaveAlike (joint_in rs fs) all =
    λ f. ap (weight f) joined
    ∙ alike_append (outranked_in rs) found (unfed_in rs fs ++ flat_map (uncovered_in rs) fs)
    (unfed_in rs fs ++ flat_map (uncovered_in rs) fs) c.in_ok-notes.ensures (λ g. refl) f in
    let sorted : IsSortedBy (λ (x y : Note). is_lt (note_cmp x y)) new =
    c.sort_unstable_by.ensures.sorted (λ x y. is_lt (note_cmp x y))
    (ranks_by note_total (λ (n : Note). n))
    (answers_always _ _ _
    (λ f a r q k. let e : r ≡ note_cmp a.0.now a.1.0.now = search rules in ap is_lt e)) in
    subst (λ (qs : List Reference). new ≡ in_order note_cmp (joint_in qs fs)) is
    (alike_in_order note_cmp note_total note_exact (joint_in rs fs) new
    (λ f. alike_from_permutation all new c.sort_unstable_by.ensures.permutation f ∙ alike f)
    (ascends_from_sorted note_cmp note_total new sorted))
