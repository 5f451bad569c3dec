-- The notes of references and feeds on one another do not depend on how the references stand.
use Rattle.std.proofs.Common.{◌≡◌, ℕ, ◌+◌, ◌<◌, true, false, cond, not, ◌&&◌, List, [], ◌∷◌, ◌++◌}
use Rattle.std.proofs.Common.{length, get_or, drop, map, refl, sym, ap, ◌∙◌, arith, zero, suc}
use Rattle.std.specs.List.{AllByRecursion, find, flat_map}
use Rattle.std.specs.List.Sorted.{IsPermutation}
use Rattle.std.specs.Option.{is_none}
use Rattle.std.proofs.lemmas.List.Sorted.{list_any-IsPermutation}
use Rattle.geo_terms.proofs.Constancy.{same_filter}
use Rattle.geo_terms.specs.PlaceForm.{same_text}
use Rattle.geo_terms.specs.Precedence.{reference_before}
use Rattle.geo_terms.specs.Report.{is_covered, is_outranked, same_ends, uncovered_in}
use Rattle.geo_terms.specs.SourceForm.{FeedParts}
use Rattle.geo_terms.specs.declared.note.Rule.TheVariants.{P08, P09}
use Rattle.geo_terms.specs.declared.statement.Entry.{Entry}
use Rattle.geo_terms.specs.declared.statement.Reference.{Reference}
use Rattle.first_index.specs.Answers.{AnswerAlike}
use Rattle.authority.proofs.Ordered.{alike_append, alike_from_permutation, alike_kept}
use Rattle.authority.specs.Members.{HaveAlike, weight}
use Rattle.authority.specs.Ranked.{joint_in, note_on, outranked_in, unfed_in}

each : {X : Type 0} (P : X → Type 0) → ((x : X) → P x) → (xs : List X) → AllByRecursion P xs
each P f [] = tt
each P f (x ∷ xs) = (f x, each P f xs)

pub outranked_alike : (given held : List Reference) → IsPermutation given held
    → HaveAlike (outranked_in given) (outranked_in held)
outranked_alike given held same f =
    ap (λ rs. weigh rs) (same_filter (is_outranked held) (is_outranked given) held
    (each (λ q. is_outranked held q ≡ is_outranked given q) (λ q. sym (list_any-IsPermutation
    (λ (t : Reference). same_ends t.range q.range && reference_before t q) given held same)) held))
    ∙ alike_kept (note_on P08) (is_outranked given) given held
    (alike_from_permutation given held same) f
  where
    weigh : List Reference → ℕ
    weigh rs = weight f (map (note_on P08) rs)

uncovered_same : (given held : List Reference) → AnswerAlike given held
    → (fs : List FeedParts) → flat_map (uncovered_in held) fs ≡ flat_map (uncovered_in given) fs
uncovered_same given held h [] = refl
uncovered_same given held h (f ∷ fs) =
    let one : uncovered_in held f ≡ uncovered_in given f =
    ap (map _) (same_filter (λ (e : Entry). not (is_covered held f.url e.block))
    (λ e. not (is_covered given f.url e.block)) f.entries
    (each (λ (e : Entry). not (is_covered held f.url e.block) ≡ not
    (is_covered given f.url e.block)) (λ e. ap not (sym (h.covered f.url e.block))) f.entries)) in
    ap (λ ns. ns ++ flat_map (uncovered_in held) fs) one
    ∙ ap (λ ns. uncovered_in given f ++ ns) (uncovered_same given held h fs)

pub joint_alike : (given held : List Reference) (fs : List FeedParts) → AnswerAlike given held
    → HaveAlike (joint_in given fs) (joint_in held fs)
joint_alike given held fs h =
    alike_append (outranked_in given) (outranked_in held) (unfed_in given fs
    ++ flat_map (uncovered_in given) fs) (unfed_in held fs ++ flat_map (uncovered_in held) fs)
    (outranked_alike given held h.same)
    (alike_append (unfed_in given fs) (unfed_in held fs) (flat_map (uncovered_in given) fs)
    (flat_map (uncovered_in held) fs)
    (alike_kept (note_on P09) (λ r. is_none (find (λ f. same_text f.url r.url) fs)) given held
    (alike_from_permutation given held h.same))
    (λ f. ap (weight f) (uncovered_same given held h fs)))

-- one more reference that was looked at
pub unfed_step : (fs : List FeedParts) (rs : List Reference) (i : ℕ) (r : Reference)
    → r ≡ get_or rs i r → i < length rs
    → unfed_in (drop i rs) fs ≡ cond (is_none (find (λ f. same_text f.url r.url) fs))
    (note_on P09 r ∷ []) [] ++ unfed_in (drop (i + 1) rs) fs
unfed_step fs [] i r e lt = absurd (omega arith)
unfed_step fs (x ∷ rs) zero r e lt =
    elim (is_none (find (λ f. same_text f.url r.url) fs))
    as (λ b. is_none (find (λ f. same_text f.url r.url) fs) ≡ b
    → unfed_in (x ∷ rs) fs ≡ cond b (note_on P09 r ∷ []) [] ++ unfed_in rs fs) [
      | true ↦ λ is. rw (← e, is) refl
      | false ↦ λ is. rw (← e, is) refl
    ] refl
unfed_step fs (x ∷ rs) (suc i) r e lt =
    let n : suc i + 1 ≡ suc (i + 1) = omega arith in
    rw n (unfed_step fs rs i r e (omega arith))
