-- Notes in line order: of the lists of the same notes only one rises.
use Rattle.std.proofs.Common.{◌≡◌, ℕ, zero, suc, ◌+◌, ◌<◌, ◌≤◌, false, List, [], ◌∷◌, get_or, ◌⊎◌}
use Rattle.std.proofs.Common.{inl, inr, refl, sym, ap, subst, arith, ◌∙◌}
use Rattle.std.specs.Prelude.{nat_eq, nat_lt}
use Rattle.std.specs.List.{Contains, IsDistinct, AllByRecursion}
use Rattle.std.specs.List.Sorted.{IsPermutation, IsNonDecreasingBy}
use Rattle.std.proofs.lemmas.Bool.{cond_both, ltb-true, ltb-false, eqb-false, ne_eqb, eq-eqb}
use Rattle.std.proofs.lemmas.Bool.{cases_eq}
use Rattle.std.proofs.lemmas.List.Sorted.{Contains-permutation, IsPermutation-map}
use Rattle.std.proofs.lemmas.List.Sorted.{IsPermutation-sym}
use Rattle.std.proofs.lemmas.Map.Keys.{IsDistinct-IsPermutation}
use Rattle.geo_terms.specs.SourceForm.{note_lines}
use Rattle.geo_terms.specs.declared.note.LineNote.{LineNote}
use Rattle.feed_refs.specs.Dumps.{in_line_order, put_in}
use Rattle.feed_refs.proofs.Rising.{Rises}

abbrev pub Has : List LineNote → LineNote → Type 0
Has [] n = ⊥
Has (m ∷ ms) n = (n ≡ m) ⊎ Has ms n

pub has_from_contains : (ns : List LineNote) (n : LineNote) → Contains ns n → Has ns n
has_from_contains [] n (k, below, is) = absurd (omega (arith, below))
has_from_contains (m ∷ ms) n (zero, below, is) = inl (sym is)
has_from_contains (m ∷ ms) n (suc k, below, is) =
    inr (has_from_contains ms n (k, omega (arith, below), is))

pub contains_from_has : (ns : List LineNote) (n : LineNote) → Has ns n → Contains ns n
contains_from_has [] n h = absurd h
contains_from_has (m ∷ ms) n h = elim h [
  | inl e ↦ (zero, omega arith, sym e)
  | inr i ↦ let c = contains_from_has ms n i in (suc c.0, omega (arith, c.1), c.2)
]

low-le-line : (low : ℕ) (ns : List LineNote) (n : LineNote) → Rises low (note_lines ns) → Has ns n
    → low ≤ n.line
low-le-line low [] n r h = absurd h
low-le-line low (m ∷ ms) n r h = elim h [
  | inl e ↦ subst (λ (k : LineNote). low ≤ k.line) (sym e) r.0
  | inr i ↦ let later : m.line + 1 ≤ n.line =
      low-le-line (m.line + 1) ms n r.1 i in omega (arith, r.0)
]

-- the same notes in line order are the same list
pub one_order : (low : ℕ) (xs ys : List LineNote) → Rises low (note_lines xs)
    → Rises low (note_lines ys)
    → ((n : LineNote) → Has xs n → Has ys n) → ((n : LineNote) → Has ys n → Has xs n) → xs ≡ ys
one_order low [] [] r s there back = refl
one_order low [] (y ∷ ys) r s there back = absurd (back y (inl refl))
one_order low (x ∷ xs) [] r s there back = absurd (there x (inl refl))
one_order low (x ∷ xs) (y ∷ ys) r s there back =
    let head : x ≡ y = elim (there x (inl refl)) [
      | inl e ↦ e
      | inr i ↦ elim (back y (inl refl)) [
        | inl e ↦ sym e
        | inr j ↦
            let a : y.line + 1 ≤ x.line = low-le-line (y.line + 1) ys x s.1 i in
            let b : x.line + 1 ≤ y.line = low-le-line (x.line + 1) xs y r.1 j in
            absurd (omega arith)
      ]
    ] in
    let line : x.line ≡ y.line = ap (λ (n : LineNote). n.line) head in
    let tail : xs ≡ ys =
    one_order (x.line + 1) xs ys r.1
    (subst (λ (k : ℕ). Rises (k + 1) (note_lines ys)) (sym line) s.1)
    (λ n h. elim (there n (inr h)) [
      | inl e ↦ let a : x.line + 1 ≤ n.line = low-le-line (x.line + 1) xs n r.1 h in
          let b : n.line ≡ y.line = ap (λ (m : LineNote). m.line) e in
          absurd (omega arith)
      | inr i ↦ i
    ])
    (λ n h. elim (back n (inr h)) [
      | inl e ↦ let a : y.line + 1 ≤ n.line = low-le-line (y.line + 1) ys n s.1 h in
          let b : n.line ≡ x.line = ap (λ (m : LineNote). m.line) e in
          absurd (omega arith)
      | inr i ↦ i
    ]) in
    λ i. head i ∷ tail i

-- a note that is put in stands among the others
has_put_in : (n : LineNote) (ns : List LineNote) (m : LineNote)
    → (Has (put_in n ns) m → Has (n ∷ ns) m) × (Has (n ∷ ns) m → Has (put_in n ns) m)
has_put_in n [] m = (λ h. h, λ h. h)
has_put_in n (k ∷ ks) m =
    let later = has_put_in n ks m in
    cond_both (nat_lt k.line n.line) (k ∷ put_in n ks) (n ∷ k ∷ ks)
    (λ l. (Has l m → Has (n ∷ k ∷ ks) m) × (Has (n ∷ k ∷ ks) m → Has l m))
    (λ lt. (
      λ h. elim h [
        | inl e ↦ inr (inl e)
        | inr i ↦ elim (later.0 i) [ inl e ↦ inl e | inr j ↦ inr (inr j) ]
      ],
      λ h. elim h [
        | inl e ↦ inr (later.1 (inl e))
        | inr i ↦ elim i [ inl e ↦ inl e | inr j ↦ inr (later.1 (inr j)) ]
      ],
    ))
    (λ ge. (λ h. h, λ h. h))

pub has_ordered : (ns : List LineNote) (m : LineNote)
    → (Has (in_line_order ns) m → Has ns m) × (Has ns m → Has (in_line_order ns) m)
unfolding in_line_order
has_ordered [] m = (λ h. h, λ h. h)
has_ordered (n ∷ ns) m =
    let here = has_put_in n (in_line_order ns) m in
    let later = has_ordered ns m in (
      λ h. elim (here.0 h) [ inl e ↦ inl e | inr i ↦ inr (later.0 i) ],
      λ h. elim h [ inl e ↦ here.1 (inl e) | inr i ↦ here.1 (inr (later.1 i)) ],
    )

-- what holds of all notes of a list
pub each : (P : LineNote → Type 0) (ns : List LineNote) → AllByRecursion P ns → (m : LineNote)
    → Has ns m → P m
each P [] a m h = absurd h
each P (n ∷ ns) a m h = elim h [ inl e ↦ subst P (sym e) a.0 | inr i ↦ each P ns a.1 m i ]

pub all_from_each : (P : LineNote → Type 0) (ns : List LineNote) → ((m : LineNote) → Has ns m → P m)
    → AllByRecursion P ns
all_from_each P [] h = tt
all_from_each P (n ∷ ns) h = (h n (inl refl), all_from_each P ns (λ m i. h m (inr i)))

all_of_lines : (P : ℕ → Type 0) (ns : List LineNote) → AllByRecursion P (note_lines ns)
    → AllByRecursion (λ m. P m.line) ns
all_of_lines P [] a = tt
all_of_lines P (n ∷ ns) a = (a.0, all_of_lines P ns a.1)

rises_put_in : (low : ℕ) (n : LineNote) (ns : List LineNote) → low ≤ n.line
    → Rises low (note_lines ns) → AllByRecursion (λ m. nat_eq n.line m.line ≡ false) ns
    → Rises low (note_lines (put_in n ns))
rises_put_in low n [] le r other = (le, tt)
rises_put_in low n (m ∷ ms) le r other =
    cond_both (nat_lt m.line n.line) (m ∷ put_in n ms) (n ∷ m ∷ ms) (λ l. Rises low (note_lines l))
    (λ lt. let h : m.line < n.line = ltb-true m.line n.line lt in
    (r.0, rises_put_in (m.line + 1) n ms (omega arith) r.1 other.1))
    (λ ge.
    let h : n.line ≤ m.line = ltb-false m.line n.line ge in
    let ne : n.line ≡ m.line → ⊥ = eqb-false n.line m.line other.0 in
    (le, (omega (arith, ne), r.1)))

-- notes on distinct lines rise once they are in line order
pub ordered_rises : (ns : List LineNote) → IsDistinct nat_eq (note_lines ns)
    → Rises 0 (note_lines (in_line_order ns))
unfolding in_line_order IsDistinct
ordered_rises [] d = tt
ordered_rises (n ∷ ns) d =
    rises_put_in 0 n (in_line_order ns) (omega arith) (ordered_rises ns d.1)
    (all_from_each (λ m. nat_eq n.line m.line ≡ false) (in_line_order ns)
    (λ m h. each (λ k. nat_eq n.line k.line ≡ false) ns
    (all_of_lines (λ l. nat_eq n.line l ≡ false) ns d.0) m ((has_ordered ns m).0 h)))

-- the first of notes whose lines do not fall is on no later line than another
first_le : (y : LineNote) (ys : List LineNote) → IsNonDecreasingBy (λ n. n.line) (y ∷ ys)
    → (m : LineNote) → Has ys m → y.line ≤ m.line
first_le y ys up m h =
    let c = contains_from_has ys m h in
    let at : y.line ≤ (get_or ys c.0 m).line =
    up zero (suc c.0) m (omega arith) (omega (arith, c.1)) in
    subst (λ (n : LineNote). y.line ≤ n.line) c.2 at

rises_sorted : (low : ℕ) (ys : List LineNote) → ((m : LineNote) → Has ys m → low ≤ m.line)
    → IsNonDecreasingBy (λ n. n.line) ys → IsDistinct nat_eq (note_lines ys)
    → Rises low (note_lines ys)
unfolding IsDistinct
rises_sorted low [] from up d = tt
rises_sorted low (y ∷ ys) from up d = (
  from y (inl refl),
  rises_sorted (y.line + 1) ys
      (λ m h.
      let le : y.line ≤ m.line = first_le y ys up m h in
      let ne : y.line ≡ m.line → ⊥ =
      eqb-false y.line m.line (each (λ k. nat_eq y.line k.line ≡ false) ys
      (all_of_lines (λ l. nat_eq y.line l ≡ false) ys d.0) m h) in
      omega (arith, ne))
      (λ i j e le below. up (suc i) (suc j) e (omega arith) (omega arith)) d.1,
)

nat_eq_flips : (x y : ℕ) → nat_eq x y ≡ nat_eq y x
nat_eq_flips x y = elim (cases_eq x y) [
  | inl e ↦ eq-eqb x y e ∙ sym (eq-eqb y x (sym e))
  | inr ne ↦ ne_eqb x y ne ∙ sym (ne_eqb y x (λ e. ne (sym e)))
]

-- what a sort by line makes of notes on distinct lines
pub sorted_is : (xs ys : List LineNote) → IsPermutation xs ys → IsNonDecreasingBy (λ n. n.line) ys
    → IsDistinct nat_eq (note_lines xs) → ys ≡ in_line_order xs
sorted_is xs ys same up d =
    let e =
    IsDistinct-IsPermutation nat_eq nat_eq_flips (note_lines xs) (note_lines ys)
    (IsPermutation-map (λ (n : LineNote). n.line) xs ys same) d in
    one_order 0 ys (in_line_order xs) (rises_sorted 0 ys (λ m h. omega arith) up e)
    (ordered_rises xs d)
    (λ m h. (has_ordered xs m).1 (has_from_contains xs m
    (Contains-permutation ys xs m (IsPermutation-sym xs ys same) (contains_from_has ys m h))))
    (λ m h. has_from_contains ys m
    (Contains-permutation xs ys m same (contains_from_has xs m ((has_ordered xs m).0 h))))
