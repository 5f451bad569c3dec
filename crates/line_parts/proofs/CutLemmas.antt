-- Where the parts of a text end.
use Rattle.std.proofs.Common.{◌≡◌, ℕ, ◌+◌, ◌-◌, ◌<◌, ◌≤◌, Bool, true, false, cond, List, [], ◌∷◌}
use Rattle.std.proofs.Common.{◌++◌, ◌≢◌, All, length, take, drop, refl, sym, ap, ◌∙◌, subst, arith}
use Rattle.std.proofs.Common.{ltb, ne_eqb}
use Rattle.std.proofs.lemmas.Bool.{le-ltb, lt-ltb}
use Rattle.std.proofs.lemmas.List.{append_assoc, drop_all, length-append, length-drop}
use Rattle.std.proofs.lemmas.List.{take-append-drop, take_all}
use Rattle.std.proofs.lemmas.List.Elements.{All-tail}
use Rattle.std.proofs.Math.Seq.{drop-append_seam}
use Rattle.std.specs.List.{starts_with}
use Rattle.std.specs.Prelude.{nat_eq}
use Rattle.geo_addr.specs.Lines.{byte_order_mark, without_mark}
use Rattle.line_parts.specs.Parts.{AreCut, first_line, part_end}
use Rattle.line_parts.specs.declared.part.LinePart.{LinePart}

-- a text is shorter without its mark exactly where it begins with one
pub mark_test : (text rest : List ℕ) → rest ≡ without_mark text
    → ltb (length rest) (length text) ≡ starts_with nat_eq text byte_order_mark
mark_test [] rest is = ap (λ (t : List ℕ). ltb (length t) 0) is
mark_test (b ∷ bs) rest is =
    ap (λ (t : List ℕ). ltb (length t) (length (b ∷ bs))) is
    ∙ by_test (starts_with nat_eq (b ∷ bs) byte_order_mark)
  where
    by_test : (t : Bool)
        → ltb (length (cond t (drop 3 (b ∷ bs)) (b ∷ bs))) (length (b ∷ bs)) ≡ t
    by_test true = lt-ltb _ _ (omega (arith, length-drop 3 (b ∷ bs)))
    by_test false = le-ltb _ _ (omega arith)

-- a text without a line feed, and one with its first
first_free : (xs : List ℕ) → All (λ b. b ≢ 10) xs → first_line xs ≡ length xs
unfolding first_line
first_free [] free = refl
first_free (x ∷ xs) free =
    let rest = first_free xs (All-tail (λ b. b ≢ 10) x xs free) in
    rw (ne_eqb x 10 (free 0 10 (omega arith))) (omega (arith, rest))

first_feed : (piece after : List ℕ) → All (λ b. b ≢ 10) piece
    → first_line (piece ++ 10 ∷ after) ≡ length piece + 1
unfolding first_line
first_feed [] after free = refl
first_feed (x ∷ xs) after free =
    let rest = first_feed xs after (All-tail (λ b. b ≢ 10) x xs free) in
    rw (ne_eqb x 10 (free 0 10 (omega arith))) (omega (arith, rest))

-- all of a text
abbrev pub IsAll : ℕ → List ℕ → Type 0
IsAll n text = (text ≡ take n text) × ([] ≡ drop n text)

all_of : (n : ℕ) (text : List ℕ) → length text ≤ n → IsAll n text
all_of n text long = (sym (take_all n text long), sym (drop_all n text long))

either_all : (t : Bool) (m n : ℕ) (text : List ℕ) → length text ≤ m → length text ≤ n
    → IsAll (cond t m n) text
either_all true m n text first second = all_of m text first
either_all false m n text first second = all_of n text second

pub free_end : (size : ℕ) (text piece : List ℕ) → drop size text ≡ piece
    → All (λ b. b ≢ 10) piece → IsAll (part_end size text) text
unfolding part_end
free_end size text piece is free =
    let long = ap first_line is ∙ first_free piece free in
    let left = length-drop size text in
    either_all _ (length text) (size + first_line (drop size text)) text (omega arith)
    (omega (arith, long, left, ap length is))

pub short_end : (size : ℕ) (text : List ℕ) → length text ≤ size → IsAll (part_end size text) text
short_end size text short =
    free_end size text [] (drop_all size text short) (λ k d below. absurd (omega arith))

-- a text cut behind the first line feed from an index on
module _ (size : ℕ) (text piece after : List ℕ) where
  line_end : size ≤ length text → All (λ b. b ≢ 10) piece → drop size text ≡ piece ++ 10 ∷ after
      → size + first_line (drop size text) + length after ≡ length text
  line_end within free cut =
      let long = ap first_line cut ∙ first_feed piece after free in
      let left = length-drop size text in
      omega (arith, long, left, ap length cut, length-append piece (10 ∷ after))

  behind_line : size ≤ length text → All (λ b. b ≢ 10) piece → drop size text ≡ piece ++ 10 ∷ after
      → drop (size + first_line (drop size text)) text ≡ after
  behind_line within free cut =
      let head : List ℕ = take size text ++ (piece ++ 10 ∷ []) in
      let whole : text ≡ head ++ after =
      sym (take-append-drop size text) ∙ ap (λ t. take size text ++ t) (cut
      ∙ sym (append_assoc piece (10 ∷ []) after))
      ∙ sym (append_assoc (take size text) (piece ++ 10 ∷ []) after) in
      let long : size + first_line (drop size text) ≡ length head =
      omega (arith, line_end within free cut, ap length whole, length-append head after) in
      ap (λ n. drop n text) long ∙ ap (drop (length head)) whole ∙ drop-append_seam head after

  pub marked_end : size ≤ length text → All (λ b. b ≢ 10) piece
      → drop size text ≡ piece ++ 10 ∷ after → starts_with nat_eq after byte_order_mark ≡ true
      → IsAll (part_end size text) text
  unfolding part_end
  marked_end within free cut mark =
      let there = ap (λ t. starts_with nat_eq t byte_order_mark) (behind_line within free cut)
      ∙ mark in
      rw there (all_of (length text) text (omega arith))

  pub cut_end : size ≤ length text → All (λ b. b ≢ 10) piece
      → drop size text ≡ piece ++ 10 ∷ after → starts_with nat_eq after byte_order_mark ≡ false
      → (take (length text - length after) text ≡ take (part_end size text) text)
      × (after ≡ drop (part_end size text) text)
  unfolding part_end
  cut_end within free cut mark =
      let there = ap (λ t. starts_with nat_eq t byte_order_mark) (behind_line within free cut)
      ∙ mark in
      let long : length text - length after ≡ size + first_line (drop size text) =
      omega (arith, line_end within free cut) in
      rw there (ap (λ n. take n text) long, sym (behind_line within free cut))

-- one part more
pub AreCut-more : (size : ℕ) (text : List ℕ) (ps : List LinePart) (left : List ℕ) (p : LinePart)
    (rest : List ℕ) → AreCut size text ps left → 0 < length left
    → p.text.now ≡ take (part_end size left) left → rest ≡ drop (part_end size left) left
    → AreCut size text (ps ++ p ∷ []) rest
AreCut-more size text [] left p rest is some one then =
    let P : List ℕ → Type 0 = λ t. (0 < length t) × (p.text.now ≡ take (part_end size t) t)
    × (drop (part_end size t) t ≡ rest) in
    subst P (sym is) (some, one, sym then)
AreCut-more size text (q ∷ ps) left p rest are some one then = (
  are.0,
  are.1,
  AreCut-more size (drop (part_end size text) text) ps left p rest are.2 some one
      then,
)
