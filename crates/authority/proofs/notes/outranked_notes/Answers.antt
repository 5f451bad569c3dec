use Rattle.std.proofs.Common.{◌≡◌, ◌∙◌, ◌++◌, Bor, List, ap, subst, rules, map, None}
use Rattle.std.specs.List.Sorted.{IsPermutation, IsSortedBy}
use Rattle.std.specs.Ordering.{is_lt}
use Rattle.std.proofs.lemmas.List.Sorted.{IsPermutation-map, answers_always, ranks_by}
use Rattle.geo_terms.proofs.SeenLemmas.{sorted_seen}
use Rattle.geo_terms.specs.declared.note.Rule.TheVariants.{P08}
use Rattle.geo_terms.specs.declared.statement.Reference.{Reference}
use Rattle.authority.specs.Members.{weight}
use Rattle.authority.specs.Ranked.{behind, note_on, ranked_cmp}
use Rattle.authority.proofs.NoteLemmas.{outranked_alike}
use Rattle.authority.proofs.Ordered.{ascends_from_sorted}
use Rattle.authority.proofs.RankedLemmas.{behind_all, ranked_total}
use Rattle.authority.proofs.notes.outranked_notes.Goals as goal

pub returns : goal.returns
returns c =
    let ys : List (Bor Reference) = c.sort_unstable_by.new.self.items in
    let zs : List Reference = map (λ (y : Bor Reference). y.now) ys in
    let sorted : IsSortedBy (λ (x y : Bor Reference). is_lt (ranked_cmp x.now y.now)) ys =
    c.sort_unstable_by.ensures.sorted (λ x y. is_lt (ranked_cmp x.now y.now))
    (ranks_by ranked_total (λ (x : Bor Reference). x.now))
    (answers_always _ _ _
    (λ f a r q k. let e : r ≡ ranked_cmp a.0.now.now a.1.0.now.now = search rules in ap is_lt e)) in
    let borrowed : map (λ (y : Bor Reference). y.now) c.push_borrows.new.borrows.items
    ≡ c.args.refs.now =
    c.in_ok-push_borrows.ensures
    ∙ ap (λ (bs : List (Bor Reference)). map (λ (y : Bor Reference). y.now) bs ++ c.args.refs.now)
    c.new-ranked.ensures.items in
    let same : IsPermutation c.args.refs.now zs =
    subst (λ (rs : List Reference). IsPermutation rs zs) borrowed
    (IsPermutation-map (λ (y : Bor Reference). y.now) c.push_borrows.new.borrows.items ys
    c.sort_unstable_by.ensures.permutation) in
    let found : c.in_ok-notes.notes.items ≡ map (note_on P08) (behind None zs) =
    c.in_ok-notes.ensures ∙ ap (λ (bs : List (Bor Reference)). map (note_on P08)
    (behind None (map (λ (y : Bor Reference). y.now) bs))) c.as_slice.ensures.value in
    let up = ascends_from_sorted ranked_cmp ranked_total zs
    (sorted_seen (λ (y : Bor Reference). y.now) (λ x y. is_lt (ranked_cmp x y)) ys sorted) in
    λ f. ap (weight f) (found ∙ ap (map (note_on P08)) (behind_all zs up))
    ∙ outranked_alike c.args.refs.now zs same f
