-- An open group that loses its lines, or gets one more.
use Rattle.std.proofs.Common.{◌≡◌, ℕ, ◌+◌, ◌-◌, ◌<◌, ◌≤◌, true, false, cond, List, [], ◌∷◌, ◌++◌}
use Rattle.std.proofs.Common.{length, Option, Some, None, refl, sym, ap, ◌∙◌, arith, append_assoc}
use Rattle.std.proofs.Common.{zero-add}
use Rattle.std.proofs.lemmas.Bool.{le-ltb, lt-ltb}
use Rattle.std.proofs.lemmas.List.Sums.{sum_by-append}
use Rattle.rpsl_reader.specs.Attributes.{Numbered, is_comment, is_end}
use Rattle.std.specs.Option.{is_some}
use Rattle.geo_terms.specs.declared.note.Rule.TheVariants.{P01}
use Rattle.rpsl_reader.specs.declared.item.Item.TheVariants.{Passed}
use Rattle.rpsl_reader.specs.Selections.{Wanted, wanted}
use Rattle.rpsl_reader.specs.Changes.{Gathering, IsOpen, group_of, open_group, open_lines}
use Rattle.rpsl_reader.specs.Objects.{longest, size}
use Rattle.rpsl_reader.specs.Reading.{Group, ended_by, first_number, group_after, none, over}
use Rattle.rpsl_reader.specs.Reading.{said_by, with_line, within}

pub none_open : (first : Option ℕ) → IsOpen first 0 []
none_open None = record { counted = refl; short = omega arith; kept = refl }
none_open (Some n) = record { counted = refl; short = omega arith; kept = refl }

pub size-push : (ls : List Numbered) (n : ℕ) (text : List ℕ)
    → size (ls ++ ((n, text) ∷ [])) ≡ size ls + length text
size-push ls n text =
    sum_by-append (λ k. length k.1) ls ((n, text) ∷ [])
    ∙ ap (λ k. size ls + k) (zero-add (length text))

-- one more line that fits
pub more_open : (ls : List Numbered) (bytes n : ℕ) (text : List ℕ) → IsOpen None bytes ls
    → length text ≤ longest - bytes → IsOpen None (bytes + length text) (ls ++ ((n, text) ∷ []))
more_open ls bytes n text o h = record {
  counted = omega (arith, o.counted, size-push ls n text);
  short = omega (arith, o.short);
  kept = refl;
}

pub with_short : (ls : List Numbered) (bytes n : ℕ) (text : List ℕ)
    → bytes ≡ size ls → bytes ≤ longest → length text ≤ longest - bytes
    → with_line (within ls) (n, text) ≡ within (ls ++ ((n, text) ∷ []))
unfolding with_line
with_short ls bytes n text e s h =
    ap (λ t. cond t (over (first_number ls n)) (within (ls ++ ((n, text) ∷ []))))
    (le-ltb longest (size ls + length text) (omega arith))

-- one that does not
pub with_long : (ls : List Numbered) (bytes n : ℕ) (text : List ℕ)
    → bytes ≡ size ls → bytes ≤ longest → longest - bytes < length text
    → with_line (within ls) (n, text) ≡ over (first_number ls n)
unfolding with_line
with_long ls bytes n text e s h =
    ap (λ t. cond t (over (first_number ls n)) (within (ls ++ ((n, text) ∷ []))))
    (lt-ltb longest (size ls + length text) (omega arith))

pub with_over : (n : ℕ) (l : Numbered) → with_line (over n) l ≡ over n
unfolding with_line
with_over n l = refl

-- what a comment, an end and any other line does to a group
pub after_comment : (g : Group) (l : Numbered) → is_comment l.1 ≡ true → group_after g l ≡ g
unfolding group_after
after_comment g l e = ap (λ t. cond t g (cond (is_end l.1) none (with_line g l))) e

pub after_end : (g : Group) (l : Numbered) → is_comment l.1 ≡ false → is_end l.1 ≡ true
    → group_after g l ≡ none
unfolding group_after
after_end g l e f = λ i. cond (e i) g (cond (f i) none (with_line g l))

pub after_other : (g : Group) (l : Numbered) → is_comment l.1 ≡ false → is_end l.1 ≡ false
    → group_after g l ≡ with_line g l
unfolding group_after
after_other g l e f = λ i. cond (e i) g (cond (f i) none (with_line g l))

pub ended_comment : (g : Group) (l : Numbered) → is_comment l.1 ≡ true → ended_by g l ≡ []
unfolding ended_by
ended_comment g l e = ap (λ t. cond t [] (cond (is_end l.1) (said_by g) [])) e

pub ended_end : (g : Group) (l : Numbered) → is_comment l.1 ≡ false → is_end l.1 ≡ true
    → ended_by g l ≡ said_by g
unfolding ended_by
ended_end g l e f = λ i. cond (e i) [] (cond (f i) (said_by g) [])

pub ended_other : (g : Group) (l : Numbered) → is_comment l.1 ≡ false → is_end l.1 ≡ false
    → ended_by g l ≡ []
unfolding ended_by
ended_other g l e f = λ i. cond (e i) [] (cond (f i) (said_by g) [])

-- what such a line gives: nothing
pub quiet_comment : (w : Wanted) (g : Group) (l : Numbered) → is_comment l.1 ≡ true
    → wanted w (ended_by g l) ≡ []
unfolding wanted
quiet_comment w g l e = ap (wanted w) (ended_comment g l e)

pub quiet_other : (w : Wanted) (g : Group) (l : Numbered) → is_comment l.1 ≡ false
    → is_end l.1 ≡ false → wanted w (ended_by g l) ≡ []
unfolding wanted
quiet_other w g l e f = ap (wanted w) (ended_other g l e f)

pub ruleset line_kinds =
    (after_comment, after_end, after_other, quiet_comment, ended_end, quiet_other)

-- a group that is too long
pub say_over : (w : Wanted) (g : Gathering) (n : ℕ) → g.first ≡ Some n
    → wanted w (said_by (open_group g)) ≡ Passed n P01 ∷ []
unfolding wanted
say_over w g n e = ap (λ t. wanted w (said_by (group_of t (open_lines g)))) e

by_first : (f : Option ℕ) (ls : List Numbered) (l : Numbered) → is_some f ≡ true
    → group_of f ls ≡ with_line (group_of f ls) l
unfolding with_line
by_first None ls l e = absurd (let f : false ≡ true = e in cc)
by_first (Some n) ls l e = refl

pub add_over : (g : Gathering) (l : Numbered) → is_some g.first ≡ true
    → open_group g ≡ with_line (open_group g) l
add_over g l e = by_first g.first (open_lines g) l e

pub is_none : (f : Option ℕ) → is_some f ≡ false → f ≡ None
is_none None e = refl
is_none (Some n) e = absurd (let f : true ≡ false = e in cc)

-- a group that gets too long, and one that does not
pub add_long : (f : Option ℕ) (ls : List Numbered) (bytes n : ℕ) (text : List ℕ)
    → f ≡ None → IsOpen f bytes ls → longest - bytes < length text
    → over (first_number ls n) ≡ with_line (group_of f ls) (n, text)
add_long f ls bytes n text e o h =
    sym (ap (λ t. with_line (group_of t ls) (n, text)) e
    ∙ with_long ls bytes n text o.counted o.short h)

pub add_short : (f : Option ℕ) (held lines more : List Numbered) (bytes n : ℕ) (text : List ℕ)
    → f ≡ None → IsOpen f bytes (held ++ lines) → length text ≤ longest - bytes
    → more ≡ lines ++ ((n, text) ∷ [])
    → group_of f (held ++ more) ≡ with_line (group_of f (held ++ lines)) (n, text)
add_short f held lines more bytes n text e o h m =
    (λ i. group_of (e i) (held ++ m i))
    ∙ ap within (sym (append_assoc held lines ((n, text) ∷ [])))
    ∙ sym (ap (λ t. with_line (group_of t (held ++ lines)) (n, text)) e
    ∙ with_short (held ++ lines) bytes n text o.counted o.short h)
