-- The lines of the verdicts rise.
use Rattle.std.proofs.Common.{◌≡◌, ◌≢◌, ℕ, zero, suc, ◌+◌, ◌<◌, ◌≤◌, Bool, true, false, cond, ltb}
use Rattle.std.proofs.Common.{List, [], ◌∷◌, ◌++◌, length, map, get_or, refl, sym, ap, subst, ◌∙◌}
use Rattle.std.proofs.Common.{arith}
use Rattle.std.specs.List.Sorted.{IsStrictlyIncreasing}
use Rattle.std.proofs.lemmas.Bool.{ltb-true, ltb-false}
use Rattle.std.proofs.lemmas.List.{map-append}
use Rattle.geo_terms.specs.SourceForm.{FeedParts, IsFeed, ShareNoLine, note_lines}
use Rattle.geo_terms.specs.Sources.{InForce}
use Rattle.geo_terms.specs.declared.note.LineNote.{LineNote}
use Rattle.geo_terms.specs.declared.statement.Entry.{Entry}
use Rattle.check_census.specs.Verdicts.{before, behind, entry_verdict, merged, note_verdict}
use Rattle.check_census.specs.Verdicts.{verdicts}
use Rattle.check_census.specs.declared.verdict.Verdict.{Verdict}

-- the numbers rise, from low on
Up : ℕ → List ℕ → Type 0
Up low [] = Unit {0}
Up low (x ∷ xs) = (low ≤ x) × Up (x + 1) xs

up_lower : (low high : ℕ) (xs : List ℕ) → low ≤ high → Up high xs → Up low xs
unfolding Up
up_lower low high [] le up = tt
up_lower low high (x ∷ xs) le up = (omega (arith, up.0), up.1)

increasing_from_up : (low : ℕ) (xs : List ℕ) → Up low xs → IsStrictlyIncreasing xs
unfolding Up
increasing_from_up low [] up k below = absurd (omega arith)
increasing_from_up low (x ∷ []) up k below = absurd (omega arith)
increasing_from_up low (x ∷ y ∷ ys) up zero below = omega (arith, up.1.0)
increasing_from_up low (x ∷ y ∷ ys) up (suc k) below =
    let later = increasing_from_up (x + 1) (y ∷ ys) up.1 k (omega arith) in
    let step : suc k + 1 ≡ suc (k + 1) = omega arith in
    rw step later

up_from_increasing : (low : ℕ) (xs : List ℕ) → IsStrictlyIncreasing xs
    → (0 < length xs → low ≤ get_or xs 0 0) → Up low xs
unfolding Up
up_from_increasing low [] up head = tt
up_from_increasing low (x ∷ []) up head = (head (omega arith), tt)
up_from_increasing low (x ∷ y ∷ ys) up head =
    let step : x < y = up 0 (omega arith) in (
      head (omega arith),
      up_from_increasing (x + 1) (y ∷ ys)
          (λ k below. (let next_index : suc k + 1 ≡ suc (k + 1) = omega arith in
          subst (λ j. get_or (y ∷ ys) k 0 < get_or (x ∷ y ∷ ys) j 0) next_index
          (up (suc k) (omega arith)))) (λ some. omega arith),
    )

-- no note stands on this line
Free : ℕ → List LineNote → Type 0
Free line [] = Unit {0}
Free line (n ∷ ns) = (line ≢ n.line) × Free line ns

-- and on the line of no entry
FreeOfAll : List Entry → List LineNote → Type 0
FreeOfAll [] ns = Unit {0}
FreeOfAll (e ∷ es) ns = Free e.line ns × FreeOfAll es ns

free_behind : (line : ℕ) (at : ℕ) (ns : List LineNote) → Free line ns → Free line (behind at ns)
unfolding Free
free_behind line at [] free = tt
free_behind line at (n ∷ ns) free = by (ltb n.line at) (free_behind line at ns free.1)
  where
    by : (b : Bool) → Free line (behind at ns) → Free line (cond b (behind at ns) (n ∷ ns))
    by true rest = rest
    by false rest = free

all_free_behind : (at : ℕ) (es : List Entry) (ns : List LineNote) → FreeOfAll es ns
    → FreeOfAll es (behind at ns)
unfolding FreeOfAll
all_free_behind at [] ns free = tt
all_free_behind at (e ∷ es) ns free =
    (free_behind e.line at ns free.0, all_free_behind at es ns free.1)

up_behind : (low line : ℕ) (ns : List LineNote) → Up low (note_lines ns) → Free line ns
    → Up (line + 1) (note_lines (behind line ns))
unfolding Up Free
up_behind low line [] up free = tt
up_behind low line (n ∷ ns) up free =
    by (ltb n.line line) refl (up_behind (n.line + 1) line ns up.1 free.1)
  where
    by : (b : Bool) → ltb n.line line ≡ b → Up (line + 1) (note_lines (behind line ns))
        → Up (line + 1) (note_lines (cond b (behind line ns) (n ∷ ns)))
    by true e rest = rest
    by false e rest = let ge = ltb-false n.line line e in let ne = free.0 in (omega arith, up.1)

lines_of_notes : (ns : List LineNote)
    → map (λ (v : Verdict). v.line) (map note_verdict ns) ≡ note_lines ns
lines_of_notes [] = refl
lines_of_notes (n ∷ ns) = ap (λ ls. n.line ∷ ls) (lines_of_notes ns)

up_before : (low line : ℕ) (ns : List LineNote) (rest : List ℕ) → low ≤ line
    → Up low (note_lines ns)
    → Up (line + 1) rest → Up low (note_lines (before line ns) ++ line ∷ rest)
unfolding Up
up_before low line [] rest le up later = (le, later)
up_before low line (n ∷ ns) rest le up later =
    by (ltb n.line line) refl (λ below. up_before (n.line + 1) line ns rest below up.1 later)
  where
    by : (b : Bool) → ltb n.line line ≡ b
        → (n.line + 1 ≤ line → Up (n.line + 1) (note_lines (before line ns) ++ line ∷ rest))
        → Up low (note_lines (cond b (n ∷ before line ns) []) ++ line ∷ rest)
    by true e more = let lt = ltb-true n.line line e in (up.0, more (omega arith))
    by false e more = (le, later)

up_merged : (s : InForce) (url : List ℕ) (low : ℕ) (es : List Entry) (ns : List LineNote)
    → Up low (map (λ (e : Entry). e.line) es) → Up low (note_lines ns) → FreeOfAll es ns
    → Up low (map (λ (v : Verdict). v.line) (merged s url es ns))
unfolding Up FreeOfAll
up_merged s url low [] ns up_es up_ns free = subst (λ ls. Up low ls) (sym (lines_of_notes ns)) up_ns
up_merged s url low (e ∷ es) ns up_es up_ns free =
    let rest = up_merged s url (e.line + 1) es (behind e.line ns) up_es.1
    (up_behind low e.line ns up_ns free.0) (all_free_behind e.line es ns free.1) in
    let all = up_before low e.line ns
    (map (λ (v : Verdict). v.line) (merged s url es (behind e.line ns))) up_es.0 up_ns rest in
    let split : map (λ (v : Verdict). v.line)
    (map note_verdict (before e.line ns)
    ++ (entry_verdict s url e ∷ merged s url es (behind e.line ns)))
    ≡ note_lines (before e.line ns)
    ++ e.line ∷ map (λ (v : Verdict). v.line) (merged s url es (behind e.line ns)) =
    map-append (λ (v : Verdict). v.line) (map note_verdict (before e.line ns))
    (entry_verdict s url e ∷ merged s url es (behind e.line ns))
    ∙ ap (λ ls. ls ++ e.line ∷ map (λ (v : Verdict). v.line) (merged s url es (behind e.line ns)))
    (lines_of_notes (before e.line ns)) in
    subst (λ ls. Up low ls) (sym split) all

free_from : (line : ℕ) (ns : List LineNote)
    → ((i : ℕ) (d : ℕ) → i < length (note_lines ns) → line ≢ get_or (note_lines ns) i d)
    → Free line ns
unfolding Free
free_from line [] h = tt
free_from line (n ∷ ns) h = (
  h 0 0 (omega arith),
  free_from line ns (λ i d lt. h (suc i) d (omega arith)),
)

all_free_from : (es : List Entry) (ns : List LineNote)
    → ShareNoLine (map (λ (e : Entry). e.line) es) (note_lines ns) → FreeOfAll es ns
unfolding FreeOfAll
all_free_from [] ns h = tt
all_free_from (e ∷ es) ns h = (
  free_from e.line ns (λ i d lt. h 0 0 (omega arith) i d lt),
  all_free_from es ns (λ i d lt. h (suc i) d (omega arith)),
)

-- those of a feed rise
pub verdicts_rise : (s : InForce) (f : FeedParts) → IsFeed f
    → IsStrictlyIncreasing (map (λ (v : Verdict). v.line) (verdicts s f))
verdicts_rise s f is =
    increasing_from_up 0 (map (λ (v : Verdict). v.line) (verdicts s f))
    (up_merged s f.url 0 f.entries f.notes
    (up_from_increasing 0 (map (λ (e : Entry). e.line) f.entries) is.ordered
    (λ some. omega arith)) (up_from_increasing 0 (note_lines f.notes) is.notes
    (λ some. omega arith))
    (all_free_from f.entries f.notes is.apart))
