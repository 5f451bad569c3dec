-- What the objects of a text say stands on its lines: references in order,
-- and notes on lines of their own.
use Rattle.std.proofs.Common.{◌≡◌, ℕ, ◌+◌, ◌<◌, ◌≤◌, Bool, true, List, [], ◌∷◌, ◌++◌, map, filter}
use Rattle.std.proofs.Common.{◌⊎◌, inl, inr, refl, sym, subst, ap, ◌∙◌, arith}
use Rattle.std.specs.Prelude.{nat_eq, nat_lt, not}
use Rattle.std.specs.List.{AllByRecursion, IsDistinct, enumerate_from, flat_map, onto_first}
use Rattle.std.specs.List.{slice_split}
use Rattle.std.proofs.lemmas.Bool.{and_parts, both_ways, cond_both, not-true}
use Rattle.std.proofs.lemmas.Grind.{flat_map-append}
use Rattle.std.proofs.lemmas.List.{append-nil, map-append}
use Rattle.geo_addr.specs.Lines.{lines_of, numbered_lines, without_mark}
use Rattle.geo_terms.specs.SourceForm.{note_lines}
use Rattle.geo_terms.specs.declared.note.LineNote.{LineNote}
use Rattle.geo_terms.specs.declared.note.Rule.{Rule}
use Rattle.geo_terms.specs.declared.note.Rule.TheVariants.{P01, P02}
use Rattle.geo_terms.specs.declared.statement.Reference.{Reference}
use Rattle.rpsl_reader.specs.Attributes.{Numbered, attribute, attributes, continues, is_attribute}
use Rattle.rpsl_reader.specs.Attributes.{is_comment, is_end, is_stray}
use Rattle.rpsl_reader.specs.Objects.{group_items, groups, items, longest, objects, size, stray}
use Rattle.rpsl_reader.specs.Objects.{strays, too_long}
use Rattle.rpsl_reader.specs.declared.item.Item.{Item}
use Rattle.rpsl_reader.specs.declared.item.Item.TheVariants.{Whole, Passed}
use Rattle.rpsl_reader.specs.declared.item.Object.{Object}
use Rattle.feed_refs.specs.Dumps.{noted, notes_of, reference_in, references, references_of}
use Rattle.feed_refs.specs.References.{found}
use Rattle.feed_refs.proofs.ObjectLines.{Stands, part_lines, reference_lines, stands}
use Rattle.feed_refs.proofs.Rising.{In, Rises, distinct-append, distinct_from_rises, in-append}
use Rattle.feed_refs.proofs.Rising.{in-lt-past, low-le-in, low-le-past, past, rises-append}
use Rattle.feed_refs.proofs.Rising.{rises_from_less}

abbrev numbers : List Numbered → List ℕ
numbers = map (λ l. l.0)

abbrev stray_notes : List ℕ → List Numbered → List LineNote
stray_notes slot ls = noted slot (strays ls)

-- attributes rise, and so do the lines that are none
attributes_rise : (low : ℕ) (ls : List Numbered) → Rises low (numbers ls)
    → Rises low (part_lines (attributes ls))
unfolding attributes
attributes_rise low [] r = tt
attributes_rise low (l ∷ ls) r =
    let later = attributes_rise (l.0 + 1) ls r.1 in
    cond_both (is_attribute l.1) (attribute l ls ∷ attributes ls) (attributes ls)
    (λ ps. Rises low (part_lines ps))
    (λ e. (r.0, later))
    (λ e. rises_from_less low (l.0 + 1) (part_lines (attributes ls)) (omega (arith, r.0)) later)

strays_rise : (slot : List ℕ) (low : ℕ) (ls : List Numbered) → Rises low (numbers ls)
    → Rises low (note_lines (stray_notes slot ls))
unfolding noted
strays_rise slot low [] r = tt
strays_rise slot low (l ∷ ls) r =
    let later = strays_rise slot (l.0 + 1) ls r.1 in
    cond_both (is_stray l.1) (l ∷ filter (λ m. is_stray m.1) ls) (filter (λ m. is_stray m.1) ls)
    (λ ms. Rises low (note_lines (noted slot (map stray ms))))
    (λ e. (r.0, later)) (λ e. rises_from_less low (l.0 + 1) (note_lines (stray_notes slot ls))
    (omega (arith, r.0)) later)

attribute_in : (l : Numbered) (ls : List Numbered) (x : ℕ) → In x (part_lines (attributes (l ∷ ls)))
    → ((x ≡ l.0) × (is_attribute l.1 ≡ true)) ⊎ In x (part_lines (attributes ls))
unfolding attributes
attribute_in l ls x =
    cond_both (is_attribute l.1)
    (attribute l ls ∷ attributes ls) (attributes ls) (λ ps. In x (part_lines ps)
    → ((x ≡ l.0) × (is_attribute l.1 ≡ true)) ⊎ In x (part_lines (attributes ls)))
    (λ e i. elim i [ inl h ↦ inl (h, e) | inr j ↦ inr j ]) (λ e i. inr i)

stray_in : (slot : List ℕ) (l : Numbered) (ls : List Numbered) (x : ℕ)
    → In x (note_lines (stray_notes slot (l ∷ ls)))
    → ((x ≡ l.0) × (is_stray l.1 ≡ true)) ⊎ In x (note_lines (stray_notes slot ls))
unfolding noted
stray_in slot l ls x =
    cond_both (is_stray l.1) (l ∷ filter (λ m. is_stray m.1) ls) (filter (λ m. is_stray m.1) ls)
    (λ ms. In x (note_lines (noted slot (map stray ms)))
    → ((x ≡ l.0) × (is_stray l.1 ≡ true)) ⊎ In x (note_lines (stray_notes slot ls)))
    (λ e i. elim i [ inl h ↦ inl (h, e) | inr j ↦ inr j ]) (λ e i. inr i)

attribute_none : (x : ℕ) → In x (part_lines (attributes [])) → ⊥
unfolding attributes
attribute_none x i = i

-- no line is both
apart : (slot : List ℕ) (low : ℕ) (ls : List Numbered) → Rises low (numbers ls) → (x y : ℕ)
    → In x (part_lines (attributes ls)) → In y (note_lines (stray_notes slot ls)) → x ≡ y → ⊥
apart slot low [] r x y i j e = absurd (attribute_none x i)
apart slot low (l ∷ ls) r x y i j e =
    elim (attribute_in l ls x i) [
      | inl a ↦ elim (stray_in slot l ls y j) [
        | inl s ↦ both_ways (is_attribute l.1) (not-true (is_attribute l.1)
            (and_parts (not (is_attribute l.1)) (not (continues l.1)) s.1).0) a.1
        | inr k ↦ let h : l.0 + 1 ≤ y = low-le-in (l.0 + 1) (note_lines (stray_notes slot ls)) y
            (strays_rise slot (l.0 + 1) ls r.1) k in let g : x ≡ l.0 = a.0 in omega arith
      ]
      | inr k ↦ elim (stray_in slot l ls y j) [
        | inl s ↦ let h : l.0 + 1 ≤ x = low-le-in (l.0 + 1) (part_lines (attributes ls)) x
            (attributes_rise (l.0 + 1) ls r.1) k in let g : y ≡ l.0 = s.0 in omega arith
        | inr m ↦ apart slot (l.0 + 1) ls r.1 x y k m e
      ]
    ]

-- what items say stands between two lines
pub record Fits (slot : List ℕ) (low high : ℕ) (these : List Item) : Type 0 where
  pub distinct : IsDistinct nat_eq (note_lines (noted slot these))
  pub between : (x : ℕ) → In x (note_lines (noted slot these)) → (low ≤ x) × (x < high)
  pub refs : Rises low (reference_lines (references slot these))
  pub refs_below : (x : ℕ) → In x (reference_lines (references slot these)) → x < high
  pub slots : AllByRecursion (λ r. r.slot ≡ slot) (references slot these)

fits_nothing : (slot : List ℕ) (low high : ℕ) → Fits slot low high []
unfolding noted references IsDistinct
fits_nothing slot low high = record {
  distinct = tt;
  between = λ x i. absurd i;
  refs = tt;
  refs_below = λ x i. absurd i;
  slots = tt;
}

all-append : {X : Type 0} (P : X → Type 0) (xs ys : List X) → AllByRecursion P xs
    → AllByRecursion P ys → AllByRecursion P (xs ++ ys)
all-append P [] ys a b = b
all-append P (x ∷ xs) ys a b = (a.0, all-append P xs ys a.1 b)

noted-append : (slot : List ℕ) (xs ys : List Item)
    → noted slot (xs ++ ys) ≡ noted slot xs ++ noted slot ys
unfolding noted
noted-append slot xs ys = flat_map-append (notes_of slot) xs ys

references-append : (slot : List ℕ) (xs ys : List Item)
    → references slot (xs ++ ys) ≡ references slot xs ++ references slot ys
unfolding references
references-append slot xs ys = flat_map-append (references_of slot) xs ys

fits-append : (slot : List ℕ) (low mid high : ℕ) (xs ys : List Item) → low ≤ mid → mid ≤ high
    → Fits slot low mid xs → Fits slot mid high ys → Fits slot low high (xs ++ ys)
fits-append slot low mid high xs ys le le' f g =
    let lines : note_lines (noted slot (xs ++ ys))
    ≡ note_lines (noted slot xs) ++ note_lines (noted slot ys) =
    ap note_lines (noted-append slot xs ys)
    ∙ map-append (λ (n : LineNote). n.line) (noted slot xs) (noted slot ys) in
    let ref_lines : reference_lines (references slot (xs ++ ys))
    ≡ reference_lines (references slot xs) ++ reference_lines (references slot ys) =
    ap reference_lines (references-append slot xs ys)
    ∙ map-append (λ (r : Reference). r.line) (references slot xs) (references slot ys) in
    record {
      distinct =
          subst (λ l. IsDistinct nat_eq l) (sym lines) (distinct-append (note_lines (noted slot xs))
          (note_lines (noted slot ys)) f.distinct g.distinct
          (λ x y i j e. let h : x < mid = (f.between x i).1 in
          let k : mid ≤ y = (g.between y j).0 in omega arith));
      between =
          λ x i. elim (in-append (note_lines (noted slot xs)) (note_lines (noted slot ys)) x
          (subst (λ l. In x l) lines i)) [
            | inl j ↦ let h = f.between x j in (omega (arith, h.0), omega (arith, h.1))
            | inr j ↦ let h = g.between x j in (omega (arith, h.0), omega (arith, h.1))
          ];
      refs =
          subst (λ l. Rises low l)
          (sym ref_lines) (rises-append low mid (reference_lines (references slot xs))
          (reference_lines (references slot ys)) le f.refs f.refs_below g.refs);
      refs_below =
          λ x i. elim (in-append (reference_lines (references slot xs))
          (reference_lines (references slot ys)) x (subst (λ l. In x l) ref_lines i)) [
            | inl j ↦ let h : x < mid = f.refs_below x j in omega arith
            | inr j ↦ g.refs_below x j
          ];
      slots =
          subst (λ l. AllByRecursion (λ r. r.slot ≡ slot) l)
          (sym (references-append slot xs ys)) (all-append (λ r. r.slot ≡ slot) (references slot xs)
          (references slot ys) f.slots g.slots);
    }

-- a note alone
fits_passed : (slot : List ℕ) (low high line : ℕ) (rule : Rule) → low ≤ line → line < high
    → Fits slot low high (Passed line rule ∷ [])
unfolding noted references IsDistinct
fits_passed slot low high line rule le lt = record {
  distinct = (tt, tt);
  between = λ x i. elim i [ inl e ↦ (omega (arith, e), omega (arith, e)) | inr j ↦ absurd j ];
  refs = tt;
  refs_below = λ x i. absurd i;
  slots = tt;
}

strays_none : (slot : List ℕ) (ms : List Numbered) → references slot (map stray ms) ≡ []
unfolding references
strays_none slot [] = refl
strays_none slot (m ∷ ms) = strays_none slot ms

attribute_number : (ls : List Numbered) (x : ℕ) → In x (part_lines (attributes ls))
    → In x (numbers ls)
unfolding attributes
attribute_number [] x i = i
attribute_number (l ∷ ls) x i =
    elim (attribute_in l ls x i) [ inl h ↦ inl h.0 | inr j ↦ inr (attribute_number ls x j) ]

stray_number : (slot : List ℕ) (ls : List Numbered) (x : ℕ)
    → In x (note_lines (stray_notes slot ls)) → In x (numbers ls)
unfolding noted
stray_number slot [] x i = i
stray_number slot (l ∷ ls) x i =
    elim (stray_in slot l ls x i) [ inl h ↦ inl h.0 | inr j ↦ inr (stray_number slot ls x j) ]

whole_lines : (slot : List ℕ) (o : Object) (ls : List Numbered)
    → note_lines (noted slot (Whole o ∷ strays ls))
    ≡ note_lines (found slot o).notes ++ note_lines (stray_notes slot ls)
unfolding noted
whole_lines slot o ls =
    map-append (λ (n : LineNote). n.line) (found slot o).notes (stray_notes slot ls)

whole_references : (slot : List ℕ) (o : Object) (ls : List Numbered)
    → references slot (Whole o ∷ strays ls) ≡ reference_in (found slot o).what
unfolding references
whole_references slot o ls =
    ap (λ t. reference_in (found slot o).what ++ t) (strays_none slot
    (filter (λ m. is_stray m.1) ls)) ∙ append-nil (reference_in (found slot o).what)

part_in_below : (low : ℕ) (ls : List Numbered) (x : ℕ) → Rises low (numbers ls)
    → In x (part_lines (attributes ls)) → x < past low (numbers ls)
part_in_below low ls x r i = in-lt-past low (numbers ls) x r (attribute_number ls x i)

stray_in_below : (slot : List ℕ) (low : ℕ) (ls : List Numbered) (x : ℕ) → Rises low (numbers ls)
    → In x (note_lines (stray_notes slot ls)) → x < past low (numbers ls)
stray_in_below slot low ls x r i = in-lt-past low (numbers ls) x r (stray_number slot ls x i)

-- the object that some lines make, and the notes on lines that are none of its attributes
object_fits : (slot : List ℕ) (low : ℕ) (l : Numbered) (ls : List Numbered) (o : Object)
    → o.parts ≡ attribute l ls ∷ attributes ls → Rises low (numbers (l ∷ ls))
    → Fits slot low (past low (numbers (l ∷ ls))) (Whole o ∷ strays ls)
object_fits slot low l ls o made r =
    let parts_rise : Rises low (part_lines o.parts) =
    subst (λ ps. Rises low (part_lines ps)) (sym made)
    (r.0, attributes_rise (l.0 + 1) ls r.1) in
    let s : Stands slot low o.parts (found slot o) = stands slot low o parts_rise in
    let high : ℕ = past (l.0 + 1) (numbers ls) in
    let least : l.0 + 1 ≤ high = low-le-past (l.0 + 1) (numbers ls) r.1 in
    let on_part =
    λ (x : ℕ) (i : In x (part_lines o.parts)). subst (λ ps. In x (part_lines ps)) made i in
    let part_below : (x : ℕ) → In x (part_lines o.parts) → x < high =
    λ x i. elim (on_part x i)
    [ inl e ↦ omega (arith, e) | inr j ↦ part_in_below (l.0 + 1) ls x r.1 j ] in
    let stray_rise : Rises (l.0 + 1) (note_lines (stray_notes slot ls)) =
    strays_rise slot (l.0 + 1) ls r.1 in
    let lines : note_lines (noted slot (Whole o ∷ strays ls))
    ≡ note_lines (found slot o).notes ++ note_lines (stray_notes slot ls) = whole_lines slot o ls in
    let refs : references slot (Whole o ∷ strays ls) ≡ reference_in (found slot o).what =
    whole_references slot o ls in
    record {
      distinct =
          subst (λ t. IsDistinct nat_eq t) (sym lines)
          (distinct-append (note_lines (found slot o).notes) (note_lines (stray_notes slot ls))
          (distinct_from_rises low (note_lines (found slot o).notes) s.rises)
          (distinct_from_rises (l.0 + 1) (note_lines (stray_notes slot ls)) stray_rise)
          (λ x y i j e. elim (on_part x (s.inside x i)) [
            | inl h ↦ let k : l.0 + 1 ≤ y =
                low-le-in (l.0 + 1) (note_lines (stray_notes slot ls)) y stray_rise j in omega arith
            | inr h ↦ apart slot (l.0 + 1) ls r.1 x y h j e
          ]));
      between =
          λ x i. elim (in-append (note_lines (found slot o).notes)
          (note_lines (stray_notes slot ls)) x (subst (λ t. In x t) lines i)) [
            | inl j ↦ (
              low-le-in low (note_lines (found slot o).notes) x s.rises j,
              part_below x (s.inside x j),
            )
            | inr j ↦ let k : l.0 + 1 ≤ x =
                low-le-in (l.0 + 1) (note_lines (stray_notes slot ls)) x stray_rise j in
                (omega (arith, r.0), stray_in_below slot (l.0 + 1) ls x r.1 j)
          ];
      refs = subst (λ t. Rises low (reference_lines t)) (sym refs) s.refs_rise;
      refs_below =
          λ x i. part_below x (s.refs_inside x (subst (λ t. In x (reference_lines t)) refs i));
      slots = subst (λ t. AllByRecursion (λ n. n.slot ≡ slot) t) (sym refs) s.slots;
    }

too_long_fits : (slot : List ℕ) (low : ℕ) (ls : List Numbered) → Rises low (numbers ls)
    → Fits slot low (past low (numbers ls)) (too_long ls)
too_long_fits slot low [] r = fits_nothing slot low low
too_long_fits slot low (l ∷ ls) r =
    let least : l.0 + 1 ≤ past (l.0 + 1) (numbers ls) = low-le-past (l.0 + 1) (numbers ls) r.1 in
    fits_passed slot low (past (l.0 + 1) (numbers ls)) l.0 P01 r.0 (omega arith)

items_fit : (slot : List ℕ) (low : ℕ) (ls : List Numbered) → Rises low (numbers ls)
    → Fits slot low (past low (numbers ls)) (items ls)
unfolding items
items_fit slot low [] r = fits_nothing slot low low
items_fit slot low (l ∷ ls) r =
    let high : ℕ = past (l.0 + 1) (numbers ls) in
    let least : l.0 + 1 ≤ high = low-le-past (l.0 + 1) (numbers ls) r.1 in
    cond_both (is_attribute l.1)
    (Whole (record { line = l.0; parts = attribute l ls ∷ attributes ls }) ∷ strays ls)
    (stray l ∷ items ls) (λ these. Fits slot low high these)
    (λ e. object_fits slot low l ls
    (record { line = l.0; parts = attribute l ls ∷ attributes ls }) refl r)
    (λ e. fits-append slot low (l.0 + 1) high (stray l ∷ []) (items ls) (omega (arith, r.0)) least
    (fits_passed slot low (l.0 + 1) l.0 P02 r.0 (omega arith)) (items_fit slot (l.0 + 1) ls r.1))

group_fits : (slot : List ℕ) (low : ℕ) (ls : List Numbered) → Rises low (numbers ls)
    → Fits slot low (past low (numbers ls)) (group_items ls)
unfolding group_items
group_fits slot low ls r =
    cond_both (nat_lt longest (size ls)) (too_long ls) (items ls)
    (λ these. Fits slot low (past low (numbers ls)) these)
    (λ e. too_long_fits slot low ls r) (λ e. items_fit slot low ls r)

-- groups of lines that rise
abbrev GroupsRise : ℕ → List (List Numbered) → Type 0
GroupsRise low [] = Unit {0}
GroupsRise low (g ∷ gs) = Rises low (numbers g) × GroupsRise (past low (numbers g)) gs

groups_from_less : (low high : ℕ) (gs : List (List Numbered)) → low ≤ high → GroupsRise high gs
    → GroupsRise low gs
groups_from_less low high [] le r = tt
groups_from_less low high ([] ∷ gs) le r = (tt, groups_from_less low high gs le r.1)
groups_from_less low high ((l ∷ ls) ∷ gs) le r = ((omega (arith, r.0.0), r.0.1), r.1)

onto_first_rises : (low : ℕ) (l : Numbered) (gs : List (List Numbered)) → low ≤ l.0
    → GroupsRise (l.0 + 1) gs → GroupsRise low (onto_first l gs)
onto_first_rises low l [] le r = ((le, tt), tt)
onto_first_rises low l (g ∷ gs) le r = ((le, r.0), r.1)

split_rises : (p : Numbered → Bool) (low : ℕ) (ls : List Numbered) → Rises low (numbers ls)
    → GroupsRise low (slice_split p ls)
split_rises p low [] r = (tt, tt)
split_rises p low (l ∷ ls) r =
    let later = split_rises p (l.0 + 1) ls r.1 in
    cond_both (p l) ([] ∷ slice_split p ls) (onto_first l (slice_split p ls))
    (λ gs. GroupsRise low gs)
    (λ e. (tt, groups_from_less low (l.0 + 1) (slice_split p ls) (omega (arith, r.0)) later))
    (λ e. onto_first_rises low l (slice_split p ls) r.0 later)

filter_rises : (p : Numbered → Bool) (low : ℕ) (ls : List Numbered) → Rises low (numbers ls)
    → Rises low (numbers (filter p ls))
filter_rises p low [] r = tt
filter_rises p low (l ∷ ls) r =
    let later = filter_rises p (l.0 + 1) ls r.1 in
    cond_both (p l) (l ∷ filter p ls) (filter p ls) (λ ms. Rises low (numbers ms))
    (λ e. (r.0, later))
    (λ e. rises_from_less low (l.0 + 1) (numbers (filter p ls)) (omega (arith, r.0)) later)

numbers_rise : (n : ℕ) (ls : List (List ℕ)) → Rises n (numbers (enumerate_from n ls))
numbers_rise n [] = tt
numbers_rise n (l ∷ ls) = (omega arith, numbers_rise (n + 1) ls)

groups_fit : (slot : List ℕ) (low : ℕ) (gs : List (List Numbered)) → GroupsRise low gs
    → (high : ℕ) × (low ≤ high) × Fits slot low high (flat_map group_items gs)
groups_fit slot low [] r = (low, omega arith, fits_nothing slot low low)
groups_fit slot low (g ∷ gs) r =
    let later = groups_fit slot (past low (numbers g)) gs r.1 in
    let le : low ≤ past low (numbers g) = low-le-past low (numbers g) r.0 in
    let le' : past low (numbers g) ≤ later.0 = later.1 in (
      later.0,
      omega arith,
      fits-append slot low (past low (numbers g)) later.0 (group_items g)
          (flat_map group_items gs) le le' (group_fits slot low g r.0) later.2,
    )

-- what a text says fits on its lines
pub text_fits : (slot text : List ℕ) → (high : ℕ) × (1 ≤ high) × Fits slot 1 high (objects text)
unfolding objects
text_fits slot text =
    groups_fit slot 1 (groups (numbered_lines text))
    (split_rises (λ l. is_end l.1) 1 (filter (λ l. not (is_comment l.1)) (numbered_lines text))
    (filter_rises (λ l. not (is_comment l.1)) 1 (numbered_lines text)
    (numbers_rise 1 (lines_of (without_mark text)))))
