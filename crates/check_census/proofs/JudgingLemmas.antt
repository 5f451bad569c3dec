-- One entry more, with the notes before it.
use Rattle.std.proofs.Common.{◌≡◌, ℕ, zero, suc, ◌+◌, ◌<◌, ◌≤◌, Bool, true, false, cond, ltb, List}
use Rattle.std.proofs.Common.{[], ◌∷◌, ◌++◌, length, map, take, drop, get_or, Some, slice_get, refl}
use Rattle.std.proofs.Common.{sym, ap, ◌∙◌, arith, append_assoc}
use Rattle.geo_terms.specs.Sources.{InForce}
use Rattle.geo_terms.specs.declared.note.LineNote.{LineNote}
use Rattle.geo_terms.specs.declared.statement.Entry.{Entry}
use Rattle.check_census.specs.Verdicts.{before, behind, entry_verdict, merged, note_verdict}
use Rattle.check_census.specs.declared.verdict.Verdict.{Verdict}

pub before-short : (line : ℕ) (ns : List LineNote) → length (before line ns) ≤ length ns
before-short line [] = omega arith
before-short line (n ∷ ns) = by (ltb n.line line) (before-short line ns)
  where
    by : (b : Bool) → length (before line ns) ≤ length ns
        → length (cond b (n ∷ before line ns) []) ≤ suc (length ns)
    by true rest = omega arith
    by false rest = omega arith

take-before : (line : ℕ) (ns : List LineNote) → take (length (before line ns)) ns ≡ before line ns
take-before line [] = refl
take-before line (n ∷ ns) = by (ltb n.line line) (take-before line ns)
  where
    by : (b : Bool) → take (length (before line ns)) ns ≡ before line ns
        → take (length (cond b (n ∷ before line ns) [])) (n ∷ ns) ≡ cond b (n ∷ before line ns) []
    by true rest = ap (λ ms. n ∷ ms) rest
    by false rest = refl

drop-before : (line : ℕ) (ns : List LineNote) → drop (length (before line ns)) ns ≡ behind line ns
drop-before line [] = refl
drop-before line (n ∷ ns) = by (ltb n.line line) (drop-before line ns)
  where
    by : (b : Bool) → drop (length (before line ns)) ns ≡ behind line ns
        → drop (length (cond b (n ∷ before line ns) [])) (n ∷ ns) ≡ cond b (behind line ns) (n ∷ ns)
    by true rest = rest
    by false rest = refl

drop_at : {X : Type 0} (xs : List X) (i : ℕ) (x : X) → slice_get xs i ≡ Some x
    → drop i xs ≡ x ∷ drop (i + 1) xs
drop_at [] i x is = absurd cc
drop_at (y ∷ ys) zero x is = let e : Some y ≡ Some x = is in let same : y ≡ x = cc in
    ap (λ z. z ∷ ys) same
drop_at (y ∷ ys) (suc i) x is =
    let next : suc i + 1 ≡ suc (i + 1) = omega arith in
    drop_at ys i x is ∙ ap (λ k. x ∷ drop k (y ∷ ys)) (sym next)

-- what a read at an index says
pub read_at : {X : Type 0} (xs : List X) (i : ℕ) (x : X) → i < length xs → x ≡ get_or xs i x
    → slice_get xs i ≡ Some x
read_at [] i x lt is = absurd (omega arith)
read_at (y ∷ ys) zero x lt is = ap Some (sym is)
read_at (y ∷ ys) (suc i) x lt is = read_at ys i x (omega arith) is

pub merged_step : (s : InForce) (url : List ℕ) (es : List Entry) (left : List LineNote)
    (i count : ℕ)
    (e : Entry) (vs more both whole : List Verdict) (earlier later : List LineNote) (v : Verdict)
    → slice_get es i ≡ Some e → count ≡ length (before e.line left) → earlier ≡ take count left
    → later ≡ drop count left → more ≡ vs ++ map note_verdict earlier → both ≡ more ++ v ∷ []
    → v ≡ entry_verdict s url e
    → vs ++ merged s url (drop i es) left ≡ whole
    → both ++ merged s url (drop (i + 1) es) later ≡ whole
merged_step s url es left i count e vs more both whole earlier later v at count_is earlier_is
    later_is more_is both_is v_is so_far =
    let front : earlier ≡ before e.line left =
    earlier_is ∙ ap (λ k. take k left) count_is ∙ take-before e.line left in
    let back : later ≡ behind e.line left =
    later_is ∙ ap (λ k. drop k left) count_is ∙ drop-before e.line left in
    let rest : List Verdict = merged s url (drop (i + 1) es) (behind e.line left) in
    let one : both ≡ (vs ++ map note_verdict (before e.line left)) ++ entry_verdict s url e ∷ [] =
    both_is ∙ ap (λ x. more ++ x ∷ []) v_is
    ∙ ap (λ ms. ms ++ entry_verdict s url e ∷ [])
    (more_is ∙ ap (λ ns. vs ++ map note_verdict ns) front) in
    ap (λ ns. both ++ merged s url (drop (i + 1) es) ns) back
    ∙ ap (λ x. x ++ merged s url (drop (i + 1) es) (behind e.line left)) one
    ∙ append_assoc (vs ++ map note_verdict (before e.line left)) (entry_verdict s url e ∷ [])
    (merged s url (drop (i + 1) es) (behind e.line left))
    ∙ append_assoc vs (map note_verdict (before e.line left))
    (entry_verdict s url e ∷ merged s url (drop (i + 1) es) (behind e.line left))
    ∙ ap (λ xs. vs ++ merged s url xs left) (sym (drop_at es i e at)) ∙ so_far
