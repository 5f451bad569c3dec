-- The lines of a text that is cut behind a line feed.
use Rattle.std.proofs.Common.{◌≡◌, ℕ, ◌+◌, ◌<◌, ◌≤◌, ◌&&◌, Bool, true, false, cond, List, [], ◌∷◌}
use Rattle.std.proofs.Common.{◌++◌, length, map, take, drop, inl, inr, refl, sym, ap, ap₂, ◌∙◌}
use Rattle.std.proofs.Common.{subst, arith}
use Rattle.std.proofs.Common.{Option, None, Some, eqb, get_or, ne_eqb, All, ◌⊎◌, ◌≢◌, ◌^◌, ◌-◌}
use Rattle.std.specs.List.{enumerate_from, flat_map, onto_first, starts_with}
use Rattle.std.specs.Prelude.{nat_eq}
use Rattle.std.specs.Str.Lines.{strip_carriage_return}
use Rattle.std.proofs.lemmas.Bool.{eqb-true}
use Rattle.std.proofs.lemmas.List.{append_assoc, append-nil, length-append, length-map}
use Rattle.std.proofs.lemmas.List.{length-take-le, map-append}
use Rattle.std.proofs.lemmas.List.{take-append-drop}
use Rattle.std.proofs.lemmas.List.Sums.{sum_by-append}
use Rattle.std.proofs.Math.Seq.{drop-append_seam, take-append_seam}
use Rattle.std.proofs.lemmas.List.Elements.{All-cons, All-nil, All-tail}
use Rattle.std.specs.Iterator.{YieldsFirstBy}
use Rattle.std.proofs.lemmas.List.Splits.{length-slice_split, slice_split_none}
use Rattle.geo_addr.specs.Lines.{byte_order_mark, lines_of, lines_of_pieces, numbered_lines}
use Rattle.geo_addr.specs.Lines.{pieces, without_mark}
use Rattle.std.proofs.lemmas.Grind.{flat_map-append}
use Rattle.line_parts.specs.Parts.{EndsBehind, EndsWithFeed, behind, feeds, lines_in}
use Rattle.line_parts.specs.declared.part.LinePart.{LinePart}
use Rattle.line_parts.proofs.GatherLemmas.{behind_none, behind_twice}

-- a first piece before others is a line
first_of_two : (piece : List ℕ) (others : List (List ℕ)) → 0 < length others
    → lines_of_pieces (piece ∷ others) ≡ strip_carriage_return piece ∷ lines_of_pieces others
first_of_two piece [] some = absurd (omega arith)
first_of_two piece (next ∷ more) some = refl

some_pieces : (text : List ℕ) → 0 < length (pieces 10 text)
some_pieces text = omega (arith, length-slice_split (λ b. eqb b 10) text)

onto_first_append : (x : ℕ) (ps qs : List (List ℕ)) → 0 < length ps
    → onto_first x (ps ++ qs) ≡ onto_first x ps ++ qs
onto_first_append x [] qs some = absurd (omega arith)
onto_first_append x (p ∷ ps) qs some = refl

-- the pieces of two texts with a line feed between them
pieces_append : (xs ys : List ℕ) → pieces 10 (xs ++ 10 ∷ ys) ≡ pieces 10 xs ++ pieces 10 ys
pieces_append [] ys = refl
pieces_append (x ∷ xs) ys = by_byte (eqb x 10) (pieces_append xs ys)
  where
    by_byte : (t : Bool) → pieces 10 (xs ++ 10 ∷ ys) ≡ pieces 10 xs ++ pieces 10 ys
        → cond t ([] ∷ pieces 10 (xs ++ 10 ∷ ys)) (onto_first x (pieces 10 (xs ++ 10 ∷ ys)))
        ≡ cond t ([] ∷ pieces 10 xs) (onto_first x (pieces 10 xs)) ++ pieces 10 ys
    by_byte true rest = ap (λ ps. [] ∷ ps) rest
    by_byte false rest =
        ap (onto_first x) rest
        ∙ onto_first_append x (pieces 10 xs) (pieces 10 ys) (some_pieces xs)

-- all pieces before others are lines
all_lines : (ps qs : List (List ℕ)) → 0 < length qs
    → lines_of_pieces (ps ++ qs) ≡ map strip_carriage_return ps ++ lines_of_pieces qs
all_lines [] qs some = refl
all_lines (p ∷ ps) qs some =
    first_of_two p (ps ++ qs) (omega (arith, longer ps))
    ∙ ap (λ ls. strip_carriage_return p ∷ ls) (all_lines ps qs some)
  where
    longer : (ps : List (List ℕ)) → length qs ≤ length (ps ++ qs)
    longer [] = omega arith
    longer (p ∷ ps) = omega (arith, longer ps)

-- the lines before a line feed, and those behind it
abbrev lines_before : List ℕ → List (List ℕ)
lines_before xs = map strip_carriage_return (pieces 10 xs)

lines_append : (xs ys : List ℕ) → lines_of (xs ++ 10 ∷ ys) ≡ lines_before xs ++ lines_of ys
lines_append xs ys =
    ap lines_of_pieces (pieces_append xs ys)
    ∙ all_lines (pieces 10 xs) (pieces 10 ys) (some_pieces ys)

cond_append : (t : Bool) (ls ms cs : List ℕ) → cond t (ls ++ cs) (ms ++ cs) ≡ cond t ls ms ++ cs
cond_append true ls ms cs = refl
cond_append false ls ms cs = refl

no_mark : (t : Bool) (ls ms : List ℕ) → cond (t && false) ls ms ≡ ms
no_mark true ls ms = refl
no_mark false ls ms = refl

no_long_mark : (t u : Bool) (ls ms : List ℕ) → cond (t && (u && false)) ls ms ≡ ms
no_long_mark true true ls ms = refl
no_long_mark true false ls ms = refl
no_long_mark false u ls ms = refl

-- a mark stands before the first line feed or nowhere
marked : (xs ys : List ℕ) → without_mark (xs ++ 10 ∷ ys) ≡ without_mark xs ++ 10 ∷ ys
marked [] ys = refl
marked (a ∷ []) ys =
    no_mark (eqb 239 a) _ (a ∷ 10 ∷ ys)
    ∙ ap (λ zs. zs ++ 10 ∷ ys) (sym (no_mark (eqb 239 a) [] (a ∷ [])))
marked (a ∷ b ∷ []) ys =
    no_long_mark (eqb 239 a) (eqb 187 b) _ (a ∷ b ∷ 10 ∷ ys)
    ∙ ap (λ zs. zs ++ 10 ∷ ys) (sym (no_long_mark (eqb 239 a) (eqb 187 b) [] (a ∷ b ∷ [])))
marked (a ∷ b ∷ c ∷ xs) ys =
    cond_append (eqb 239 a && (eqb 187 b && (eqb 191 c && true))) xs (a ∷ b ∷ c ∷ xs) (10 ∷ ys)

-- a mark has no line feed
feeds_unmarked : (xs : List ℕ) → feeds (without_mark xs) ≡ feeds xs
feeds_unmarked [] = refl
feeds_unmarked (a ∷ []) = ap feeds (no_mark (eqb 239 a) [] (a ∷ []))
feeds_unmarked (a ∷ b ∷ []) = ap feeds (no_long_mark (eqb 239 a) (eqb 187 b) [] (a ∷ b ∷ []))
feeds_unmarked (a ∷ b ∷ c ∷ xs) = by_bytes (eqb 239 a) (eqb 187 b) (eqb 191 c) refl refl refl
  where
    by_bytes : (t u v : Bool) → eqb 239 a ≡ t → eqb 187 b ≡ u → eqb 191 c ≡ v
        → feeds (cond (t && (u && (v && true))) xs (a ∷ b ∷ c ∷ xs)) ≡ feeds (a ∷ b ∷ c ∷ xs)
    by_bytes true true true p q r =
        rw (
          sym (eqb-true 239 a p),
          sym (eqb-true 187 b q),
          sym (eqb-true 191 c r),
        ) refl
    by_bytes true true false p q r = refl
    by_bytes true false v p q r = refl
    by_bytes false u v p q r = refl

count_before : (xs : List ℕ) → length (lines_before (without_mark xs)) ≡ feeds (xs ++ 10 ∷ [])
count_before xs =
    let before = without_mark xs in
    let pieces_of : length (lines_before before) ≡ length (pieces 10 before) =
    length-map (pieces 10 before) strip_carriage_return in
    let one_more : feeds (xs ++ 10 ∷ []) ≡ feeds xs + 1 =
    sum_by-append (λ b. cond (eqb b 10) 1 0) xs (10 ∷ []) in
    omega (arith, pieces_of, one_more, length-slice_split (λ b. eqb b 10) before, feeds_unmarked xs)

numbers_append : (n : ℕ) (xs ys : List (List ℕ))
    → enumerate_from n (xs ++ ys) ≡ enumerate_from n xs ++ enumerate_from (n + length xs) ys
numbers_append n [] ys =
    let e : n ≡ n + 0 = omega arith in ap (λ k. enumerate_from k ys) e
numbers_append n (x ∷ xs) ys =
    let e : n + 1 + length xs ≡ n + length (x ∷ xs) = omega arith in
    ap (λ t. (n, x) ∷ t) (numbers_append (n + 1) xs ys
    ∙ ap (λ k. enumerate_from (n + 1) xs ++ enumerate_from k ys) e)

-- numbers that are higher
numbers_behind : (k n : ℕ) (xs : List (List ℕ))
    → enumerate_from (k + n) xs ≡ behind k (enumerate_from n xs)
numbers_behind k n [] = refl
numbers_behind k n (x ∷ xs) =
    let e : k + n + 1 ≡ k + (n + 1) = omega arith in
    ap (λ t. (k + n, x) ∷ t) (ap (λ m. enumerate_from m xs) e ∙ numbers_behind k (n + 1) xs)

-- the lines before the line feed at the end, and those behind it
split_lines : (line after : List ℕ)
    → lines_of (without_mark (line ++ 10 ∷ after))
    ≡ lines_before (without_mark line) ++ lines_of after
split_lines line after =
    ap lines_of (marked line after) ∙ lines_append (without_mark line) after

-- the lines of a text that is cut behind a line feed
split_numbered : (line after : List ℕ) → without_mark after ≡ after
    → numbered_lines (line ++ 10 ∷ after)
    ≡ numbered_lines (line ++ 10 ∷ []) ++ behind (feeds (line ++ 10 ∷ [])) (numbered_lines after)
split_numbered line after unmarked =
    let first = lines_before (without_mark line) in
    let alone : numbered_lines (line ++ 10 ∷ []) ≡ enumerate_from 1 first =
    ap (enumerate_from 1) (split_lines line [] ∙ append-nil first) in
    let higher : 1 + length first ≡ feeds (line ++ 10 ∷ []) + 1 =
    omega (arith, count_before line) in
    let rest : enumerate_from (1 + length first) (lines_of after)
    ≡ behind (feeds (line ++ 10 ∷ [])) (numbered_lines after) =
    ap (λ n. enumerate_from n (lines_of after)) higher
    ∙ numbers_behind (feeds (line ++ 10 ∷ [])) 1 (lines_of after)
    ∙ ap (λ t. behind (feeds (line ++ 10 ∷ [])) (enumerate_from 1 (lines_of t))) (sym unmarked) in
    ap (enumerate_from 1) (split_lines line after)
    ∙ numbers_append 1 first (lines_of after)
    ∙ ap₂ ◌++◌ (sym alone) rest

-- the lines of what is left are those of a part and those of what is left then
pub parted : (before : ℕ) (text after left : List ℕ) → text ++ after ≡ left
    → (after ≡ []) ⊎ EndsWithFeed text → without_mark after ≡ after
    → behind before (numbered_lines left)
    ≡ behind before (numbered_lines text) ++ behind (before + feeds text) (numbered_lines after)
parted before text after left joined (inl none) unmarked =
    let whole : left ≡ text = sym joined ∙ ap (λ t. text ++ t) none ∙ append-nil text in
    ap (λ t. behind before (numbered_lines t)) whole
    ∙ sym (append-nil (behind before (numbered_lines text)))
    ∙ ap (λ t. behind before (numbered_lines text) ++ behind (before + feeds text)
    (numbered_lines t)) (sym none)
parted before text after left joined (inr end) unmarked =
    let line = end.line in
    let whole : left ≡ line ++ 10 ∷ after =
    sym joined ∙ ap (λ t. t ++ after) end.is ∙ append_assoc line (10 ∷ []) after in
    ap (λ t. behind before (numbered_lines t)) whole
    ∙ ap (behind before) (split_numbered line after unmarked)
    ∙ map-append (λ l. (before + l.0, l.1)) (numbered_lines (line ++ 10 ∷ [])) _
    ∙ ap (λ t. behind before (numbered_lines (line ++ 10 ∷ [])) ++ t)
    (behind_twice before (feeds (line ++ 10 ∷ [])) (numbered_lines after))
    ∙ ap (λ t. behind before (numbered_lines t) ++ behind (before + feeds t)
    (numbered_lines after)) (sym end.is)

-- a text has no more lines than bytes
onto_lines : (x : ℕ) (ps : List (List ℕ))
    → length (lines_of_pieces (onto_first x ps)) ≤ 1 + length (lines_of_pieces ps)
onto_lines x [] = omega arith
onto_lines x (p ∷ []) = omega arith
onto_lines x (p ∷ next ∷ more) = omega arith

lines_within : (text : List ℕ) → length (lines_of text) ≤ length text
lines_within [] = omega arith
lines_within (x ∷ xs) = by_byte (eqb x 10) (lines_within xs)
  where
    by_byte : (t : Bool) → length (lines_of xs) ≤ length xs
        → length (lines_of_pieces (cond t ([] ∷ pieces 10 xs) (onto_first x (pieces 10 xs))))
        ≤ length (x ∷ xs)
    by_byte true rest =
        let one = ap length (first_of_two [] (pieces 10 xs) (some_pieces xs)) in
        omega (arith, one, rest)
    by_byte false rest = omega (arith, onto_lines x (pieces 10 xs), rest)

cond_length : (t : Bool) (xs : List ℕ) → length (cond t (drop 3 xs) xs) ≤ length xs
cond_length true [] = omega arith
cond_length true (a ∷ []) = omega arith
cond_length true (a ∷ b ∷ []) = omega arith
cond_length true (a ∷ b ∷ c ∷ xs) = omega arith
cond_length false xs = omega arith

numbers_below : (before n top : ℕ) (xs : List (List ℕ)) → before + n + length xs ≤ top
    → All (λ (l : ℕ × List ℕ). before + l.0 < top) (enumerate_from n xs)
numbers_below before n top [] few = All-nil (λ (l : ℕ × List ℕ). before + l.0 < top)
numbers_below before n top (x ∷ xs) few =
    All-cons (λ (l : ℕ × List ℕ). before + l.0 < top) (n, x) (enumerate_from (n + 1) xs)
    (omega arith) (numbers_below before (n + 1) top xs (omega arith))

-- the numbers of the lines of a part are small
pub numbers_fit : (before : ℕ) (text : List ℕ) → before + length text < 2 ^ 64
    → All (λ (l : ℕ × List ℕ). before + l.0 < 2 ^ 64) (numbered_lines text)
numbers_fit before text few =
    numbers_below before 1 (2 ^ 64) (lines_of (without_mark text)) (omega (
      arith,
      few,
      lines_within (without_mark text),
      cond_length (starts_with nat_eq text byte_order_mark) text,
    ))

-- a text without line feeds
free_feeds : (xs : List ℕ) → All (λ b. b ≢ 10) xs → feeds xs ≡ 0
free_feeds xs free =
    let one = slice_split_none (λ b. eqb b 10) xs (λ k d below. ne_eqb (get_or xs k d) 10
    (free k d below)) in
    omega (arith, ap length one, length-slice_split (λ b. eqb b 10) xs)

pub free_short : (size : ℕ) (text piece : List ℕ) → drop size text ≡ piece
    → All (λ b. b ≢ 10) piece → EndsBehind size text
free_short size text piece is free = inl (omega (arith, ap feeds is, free_feeds piece free))

-- a text cut behind the first line feed from an index on
module _ (size : ℕ) (text piece after : List ℕ) where
  abbrev head : List ℕ
  head = take size text ++ piece ++ 10 ∷ []

  pub cut_head : drop size text ≡ piece ++ 10 ∷ after
      → take (length text - length after) text ≡ head
  cut_head cut =
      let whole : text ≡ head ++ after =
      sym (take-append-drop size text) ∙ ap (λ t. take size text ++ t) cut
      ∙ sym (append_assoc (take size text) piece (10 ∷ after))
      ∙ sym (append_assoc (take size text ++ piece) (10 ∷ []) after) in
      let long : length text - length after ≡ length head =
      omega (arith, ap length whole, length-append head after) in
      ap₂ (λ n t. take n t) long whole ∙ take-append_seam head after

  pub cut_joined : drop size text ≡ piece ++ 10 ∷ after
      → take (length text - length after) text ++ after ≡ text
  cut_joined cut =
      ap (λ t. t ++ after) (cut_head cut)
      ∙ append_assoc (take size text ++ piece) (10 ∷ []) after
      ∙ append_assoc (take size text) piece (10 ∷ after)
      ∙ ap (λ t. take size text ++ t) (sym cut) ∙ take-append-drop size text

  pub cut_ends : drop size text ≡ piece ++ 10 ∷ after
      → EndsWithFeed (take (length text - length after) text)
  cut_ends cut = record { line = take size text ++ piece; is = cut_head cut }

  long_head : size ≤ length text → length (take size text) ≡ size
  long_head within = length-take-le size text within

  pub cut_short : size ≤ length text → All (λ b. b ≢ 10) piece
      → drop size text ≡ piece ++ 10 ∷ after
      → EndsBehind size (take (length text - length after) text)
  cut_short within free cut =
      let behind_it : drop size (take (length text - length after) text) ≡ piece ++ 10 ∷ [] =
      ap (drop size) (cut_head cut ∙ append_assoc (take size text) piece (10 ∷ []))
      ∙ ap (λ n. drop n (take size text ++ (piece ++ 10 ∷ []))) (sym (long_head within))
      ∙ drop-append_seam (take size text) (piece ++ 10 ∷ []) in
      let one : feeds (piece ++ 10 ∷ []) ≡ feeds piece + 1 =
      sum_by-append (λ b. cond (eqb b 10) 1 0) piece (10 ∷ []) in
      inl (omega (arith, ap feeds behind_it, one, free_feeds piece free))

  pub marked_short : drop size text ≡ piece ++ 10 ∷ after
      → after ≡ byte_order_mark ++ without_mark after → EndsBehind size text
  marked_short cut mark =
      inr (record {
        before = take size text ++ piece;
        after = without_mark after;
        is =
            sym (take-append-drop size text) ∙ ap (λ t. take size text ++ t) cut
            ∙ sym (append_assoc (take size text) piece (10 ∷ after))
            ∙ ap (λ t. (take size text ++ piece) ++ 10 ∷ t) mark;
      })

-- one part more
pub one_part : (parts more : List LinePart) (p : LinePart) (before n : ℕ)
    (text after left : List ℕ) (whole : List (ℕ × List ℕ)) → more ≡ parts ++ p ∷ []
    → p.before ≡ before → p.text.now ≡ text → n ≡ feeds text → text ++ after ≡ left
    → (after ≡ []) ⊎ EndsWithFeed text → without_mark after ≡ after
    → flat_map lines_in parts ++ behind before (numbered_lines left) ≡ whole
    → flat_map lines_in more ++ behind (before + n) (numbered_lines after) ≡ whole
unfolding lines_in
one_part parts more p before n text after left whole pushed at is count joined end free so_far =
    let rest = behind (before + n) (numbered_lines after) in
    let one : lines_in p ≡ behind before (numbered_lines text) =
    ap₂ (λ m t. behind m (numbered_lines t)) at is in
    let then : rest ≡ behind (before + feeds text) (numbered_lines after) =
    ap (λ m. behind (before + m) (numbered_lines after)) count in
    ap (λ t. flat_map lines_in t ++ rest) pushed
    ∙ ap (λ t. t ++ rest) (flat_map-append lines_in parts (p ∷ []) ∙ ap (λ t.
    flat_map lines_in parts ++ t) (append-nil (lines_in p)))
    ∙ append_assoc (flat_map lines_in parts) (lines_in p) rest
    ∙ ap₂ (λ t r. flat_map lines_in parts ++ (t ++ r)) one then
    ∙ ap (λ t. flat_map lines_in parts ++ t)
    (sym (parted before text after left joined end free))
    ∙ so_far

-- the whole file is a part before which nothing stands
pub one_whole : (p : LinePart) (file : List ℕ) → p.before ≡ 0 → p.text.now ≡ file
    → lines_in p ≡ numbered_lines file
unfolding lines_in
one_whole p file at is =
    ap₂ (λ m t. behind m (numbered_lines t)) at is ∙ behind_none (numbered_lines file)

pub lines_are : (p : LinePart) (lines : List (ℕ × List ℕ)) → lines ≡ numbered_lines p.text.now
    → behind p.before lines ≡ lines_in p
unfolding lines_in
lines_are p lines is = ap (behind p.before) is

-- what holds of all lines holds of those behind the first
pub rest_fits : {A B : Type 0} (P : B → Type 0) (view : A → B) (r : Option A) (old new : List B)
    → YieldsFirstBy view (λ (left : List B). left) old r new → All P old → All P new
rest_fits P view None old new steps all = subst (All P) (steps.0 ∙ sym steps.1) all
rest_fits P view (Some x) old new steps all =
    All-tail P (view x) new (subst (All P) steps all)
