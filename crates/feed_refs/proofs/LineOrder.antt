-- Notes that are put in one by one are the same notes, on lines that do not fall.
use Rattle.std.proofs.Common.{ℕ, zero, suc, ◌<◌, ◌≤◌, List, [], ◌∷◌, length, arith}
use Rattle.std.specs.Prelude.{nat_lt, slice_index_or}
use Rattle.std.specs.List.Sorted.{IsNonDecreasingBy, IsPermutation}
use Rattle.std.proofs.lemmas.Bool.{cond_both, ltb-true, ltb-false}
use Rattle.std.proofs.lemmas.List.Sorted.{IsPermutation-cons, IsPermutation-middle}
use Rattle.std.proofs.lemmas.List.Sorted.{IsPermutation-refl, IsPermutation-trans}
use Rattle.geo_terms.specs.declared.note.LineNote.{LineNote}
use Rattle.feed_refs.specs.Dumps.{in_line_order, put_in}
use Rattle.feed_refs.specs.Laws.{NotesInOrder}

same_put_in : (n : LineNote) (ns : List LineNote) → IsPermutation (n ∷ ns) (put_in n ns)
same_put_in n [] = IsPermutation-refl (n ∷ [])
same_put_in n (m ∷ ms) =
    cond_both (nat_lt m.line n.line) (m ∷ put_in n ms) (n ∷ m ∷ ms)
    (λ l. IsPermutation (n ∷ m ∷ ms) l)
    (λ lt. IsPermutation-trans (n ∷ m ∷ ms) (m ∷ n ∷ ms) (m ∷ put_in n ms)
    (IsPermutation-middle (n ∷ []) m ms)
    (IsPermutation-cons m (n ∷ ms) (put_in n ms) (same_put_in n ms)))
    (λ ge. IsPermutation-refl (n ∷ m ∷ ms))

same_notes : (ns : List LineNote) → IsPermutation ns (in_line_order ns)
unfolding in_line_order
same_notes [] = IsPermutation-refl []
same_notes (n ∷ ns) =
    IsPermutation-trans (n ∷ ns) (n ∷ in_line_order ns) (put_in n (in_line_order ns))
    (IsPermutation-cons n ns (in_line_order ns) (same_notes ns))
    (same_put_in n (in_line_order ns))

-- lines that do not fall, from one on
abbrev Climbs : ℕ → List LineNote → Type 0
Climbs low [] = Unit {0}
Climbs low (n ∷ ns) = (low ≤ n.line) × Climbs n.line ns

climbs_put_in : (low : ℕ) (n : LineNote) (ns : List LineNote) → low ≤ n.line → Climbs low ns
    → Climbs low (put_in n ns)
climbs_put_in low n [] le up = (le, tt)
climbs_put_in low n (m ∷ ms) le up =
    cond_both (nat_lt m.line n.line) (m ∷ put_in n ms) (n ∷ m ∷ ms) (λ l. Climbs low l)
    (λ lt. let h : m.line < n.line = ltb-true m.line n.line lt in
    (up.0, climbs_put_in m.line n ms (omega arith) up.1))
    (λ ge. let h : n.line ≤ m.line = ltb-false m.line n.line ge in (le, (h, up.1)))

climbs_in_order : (ns : List LineNote) → Climbs 0 (in_line_order ns)
unfolding in_line_order
climbs_in_order [] = tt
climbs_in_order (n ∷ ns) =
    climbs_put_in 0 n (in_line_order ns) (omega arith) (climbs_in_order ns)

low-le-each : (low : ℕ) (ns : List LineNote) → Climbs low ns → (j : ℕ) (d : LineNote)
    → j < length ns → low ≤ (slice_index_or ns j d).line
low-le-each low [] up j d below = absurd (omega (arith, below))
low-le-each low (n ∷ ns) up zero d below = up.0
low-le-each low (n ∷ ns) up (suc j) d below =
    let h : n.line ≤ (slice_index_or ns j d).line =
    low-le-each n.line ns up.1 j d (omega (arith, below)) in omega (arith, up.0)

rising_from : (low : ℕ) (ns : List LineNote) → Climbs low ns → IsNonDecreasingBy (λ n. n.line) ns
rising_from low [] up i j d le below = absurd (omega (arith, below))
rising_from low (n ∷ ns) up zero zero d le below = omega arith
rising_from low (n ∷ ns) up zero (suc j) d le below =
    low-le-each n.line ns up.1 j d (omega (arith, below))
rising_from low (n ∷ ns) up (suc i) zero d le below = absurd (omega (arith, le))
rising_from low (n ∷ ns) up (suc i) (suc j) d le below =
    rising_from n.line ns up.1 i j d (omega (arith, le)) (omega (arith, below))

pub notes_in_order : NotesInOrder
notes_in_order ns = record {
  same = same_notes ns;
  rising = rising_from 0 (in_line_order ns) (climbs_in_order ns);
}
