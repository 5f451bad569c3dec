-- A piece that is read line by line: what its lines give, and the state behind them.
use Rattle.std.proofs.Common.{◌≡◌, ◌≢◌, ℕ, suc, ◌+◌, ◌≤◌, inl, inr, Bool, true, false, cond, ◌&&◌}
use Rattle.std.proofs.Common.{List, [], ◌∷◌, ◌++◌, All, length, take, drop, fold, refl, sym, ap}
use Rattle.std.proofs.Common.{◌∙◌, subst, arith, append_assoc, append-nil, length-append, get_or}
use Rattle.std.proofs.Common.{set}
use Rattle.std.proofs.lemmas.Bool.{ne_eqb}
use Rattle.std.proofs.lemmas.Bool.Decides.{leb_tells}
use Rattle.std.proofs.lemmas.List.{length-take-le, set-append_right, take_all, take_more}
use Rattle.std.proofs.lemmas.List.Sums.{fold-append}
use Rattle.std.specs.List.{list_all}
use Rattle.geo_addr.specs.Lines.{is_blank}
use Rattle.rpsl_reader.specs.declared.item.Item.{Item}
use Rattle.rpsl_reader.specs.Reading.{Group, State, after, ended_by, given, group_after, grown}
use Rattle.rpsl_reader.specs.Reading.{line_of, most, newer}
use Rattle.rpsl_reader.specs.Selections.{Wanted, wanted}
use Rattle.rpsl_reader.proofs.Pieces.{after-append, given-append, wanted-append}
use Rattle.rpsl_reader.proofs.Shortened.{AlikeLine, IsHeld, after_alike, ended_alike, front_dropped}
use Rattle.rpsl_reader.proofs.Shortened.{front_taken, grown_held, grown_long, grown_short}
use Rattle.rpsl_reader.proofs.Shortened.{held_alike}

abbrev state : ℕ → List ℕ → Group → State
state n p g = record { lines = n; pending = p; group = g }

-- bytes without a line feed make the line longer, and nothing else
pub given-tail : (n : ℕ) (p : List ℕ) (g : Group) (tail : List ℕ) → All (λ b. b ≢ 10) tail
    → given (state n p g) tail ≡ []
unfolding given
given-tail n p g [] free = refl
given-tail n p g (b ∷ tail) free =
    ap (λ t. cond t (ended_by g (line_of (n + 1) p)) [] ++ given
    (cond t (state (n + 1) [] (group_after g (line_of (n + 1) p))) (state n (grown p b) g)) tail)
    (ne_eqb b 10 (free 0 0 (omega arith)))
    ∙ given-tail n (grown p b) g tail (λ k d l. free (suc k) d (omega arith))

pub after-tail : (n : ℕ) (p : List ℕ) (g : Group) (tail : List ℕ) → All (λ b. b ≢ 10) tail
    → after (state n p g) tail ≡ state n (fold grown p tail) g
unfolding after
after-tail n p g [] free = refl
after-tail n p g (b ∷ tail) free =
    ap (λ t. after (cond t (state (n + 1) [] (group_after g (line_of (n + 1) p)))
    (state n (grown p b) g)) tail) (ne_eqb b 10 (free 0 0 (omega arith)))
    ∙ after-tail n (grown p b) g tail (λ k d l. free (suc k) d (omega arith))

pub given-head : (n : ℕ) (p : List ℕ) (g : Group) (head more : List ℕ) → All (λ b. b ≢ 10) head
    → given (state n p g) (head ++ more) ≡ given (state n (fold grown p head) g) more
given-head n p g head more free =
    given-append (state n p g) head more
    ∙ (λ i. given-tail n p g head free i ++ given (after-tail n p g head free i) more)

pub after-head : (n : ℕ) (p : List ℕ) (g : Group) (head more : List ℕ) → All (λ b. b ≢ 10) head
    → after (state n p g) (head ++ more) ≡ after (state n (fold grown p head) g) more
after-head n p g head more free =
    after-append (state n p g) head more ∙ ap (λ s. after s more) (after-tail n p g head free)

-- a line as it stands, and what is kept of it
fold_held : (p q bs : List ℕ) → IsHeld p q → IsHeld (p ++ bs) (fold grown q bs)
fold_held p q [] h = subst (λ (t : List ℕ). IsHeld t q) (sym (append-nil p)) h
fold_held p q (b ∷ bs) h =
    subst (λ (t : List ℕ). IsHeld t (fold grown (grown q b) bs)) (append_assoc p (b ∷ []) bs)
    (fold_held (p ++ (b ∷ [])) (grown q b) bs (grown_held p q b h))

kept_alike : (n : ℕ) (line : List ℕ) → AlikeLine (line_of n line) (line_of n (fold grown [] line))
kept_alike n line =
    held_alike n line (fold grown [] line) (fold_held [] [] line (inl (refl, omega arith)))

-- so a line that ends in the piece is read as it stands, however long it is
pub given-line : (n : ℕ) (g : Group) (line more : List ℕ) → All (λ b. b ≢ 10) line
    → given (state n [] g) (line ++ 10 ∷ more) ≡ given (state n line g) (10 ∷ more)
unfolding given
given-line n g line more free =
    let a : AlikeLine (line_of (n + 1) line) (line_of (n + 1) (fold grown [] line)) =
    kept_alike (n + 1) line in
    given-head n [] g line (10 ∷ more) free
    ∙ sym (λ i. ended_alike g (line_of (n + 1) line) (line_of (n + 1) (fold grown [] line)) a i
    ++ given (state (n + 1) []
    (after_alike g (line_of (n + 1) line) (line_of (n + 1) (fold grown [] line)) a i)) more)

pub after-line : (n : ℕ) (g : Group) (line more : List ℕ) → All (λ b. b ≢ 10) line
    → after (state n [] g) (line ++ 10 ∷ more) ≡ after (state n line g) (10 ∷ more)
unfolding after
after-line n g line more free =
    let a : AlikeLine (line_of (n + 1) line) (line_of (n + 1) (fold grown [] line)) =
    kept_alike (n + 1) line in
    after-head n [] g line (10 ∷ more) free
    ∙ sym (λ i. after (state (n + 1) []
    (after_alike g (line_of (n + 1) line) (line_of (n + 1) (fold grown [] line)) a i)) more)

-- a line feed ends the line
pub given-feed : (n : ℕ) (p : List ℕ) (g : Group) (more : List ℕ)
    → given (state n p g) (10 ∷ more) ≡ ended_by g (line_of (n + 1) p)
    ++ given (state (n + 1) [] (group_after g (line_of (n + 1) p))) more
unfolding given
given-feed n p g more = refl

pub after-feed : (n : ℕ) (p : List ℕ) (g : Group) (more : List ℕ) → after (state n p g) (10 ∷ more)
    ≡ after (state (n + 1) [] (group_after g (line_of (n + 1) p))) more
unfolding after
after-feed n p g more = refl

-- bytes that fit are kept as they are
pub fold_short : (q bs : List ℕ) → length q + length bs ≤ most + 1 → fold grown q bs ≡ q ++ bs
fold_short q [] h = sym (append-nil q)
fold_short q (b ∷ bs) h =
    ap (λ t. fold grown t bs) (grown_short q b (omega arith))
    ∙ fold_short (q ++ (b ∷ [])) bs (omega (arith, length-append q (b ∷ [])))
    ∙ append_assoc q (b ∷ []) bs

-- past them one byte stands for the others
and_true : (b : Bool) → (b && true) ≡ b
and_true true = refl
and_true false = refl

grown_last : (front : List ℕ) (w b : ℕ) → length front ≡ most
    → grown (front ++ (w ∷ [])) b ≡ front ++ (newer w b ∷ [])
grown_last front w b full =
    grown_long (front ++ (w ∷ [])) b (omega (arith, length-append front (w ∷ []), full))
    ∙ (λ i. front_taken front (w ∷ []) most full i
    ++ (cond (list_all is_blank (front_dropped front (w ∷ []) most full i)) b 120 ∷ []))
    ∙ ap (λ t. front ++ (cond t b 120 ∷ [])) (and_true (is_blank w))

pub fold_last : (front : List ℕ) (w : ℕ) (bs : List ℕ) → length front ≡ most
    → fold grown (front ++ (w ∷ [])) bs ≡ front ++ (fold newer w bs ∷ [])
fold_last front w [] full = refl
fold_last front w (b ∷ bs) full =
    ap (λ t. fold grown t bs) (grown_last front w b full) ∙ fold_last front (newer w b) bs full

-- and once one of them is no blank, it stays
pub newer_stays : (bs : List ℕ) → fold newer 120 bs ≡ 120
newer_stays [] = refl
newer_stays (b ∷ bs) = newer_stays bs

-- what is kept is bounded
pub grown_bounded : (q : List ℕ) (b : ℕ) → length q ≤ most + 1 → length (grown q b) ≤ most + 1
grown_bounded q b h = elim (leb_tells (length q) most) [
  | inl short ↦ subst (λ (t : List ℕ). length t ≤ most + 1) (sym (grown_short q b short.1))
      (omega (arith, length-append q (b ∷ [])))
  | inr long ↦ subst (λ (t : List ℕ). length t ≤ most + 1) (sym (grown_long q b long.1)) (omega (
    arith,
    length-append (take most q) (cond (list_all is_blank (drop most q)) b 120 ∷ []),
    length-take-le most q (omega arith),
  ))
]

pub fold_bounded : (q bs : List ℕ) → length q ≤ most + 1 → length (fold grown q bs) ≤ most + 1
fold_bounded q [] h = h
fold_bounded q (b ∷ bs) h = fold_bounded (grown q b) bs (grown_bounded q b h)

-- bytes of which some do not fit
pub fold_past : (q fits rest line : List ℕ) (w : ℕ) → length q + length fits ≡ most + 1
    → line ≡ q ++ fits → w ≡ get_or line most 0
    → set line most (fold newer w rest) ≡ fold grown q (fits ++ rest)
fold_past q fits rest line w full is at =
    let long : length line ≡ most + 1 = ap length is ∙ length-append q fits ∙ full in
    let front : List ℕ = take most line in
    let front_length : length front ≡ most = length-take-le most line (omega arith) in
    let whole : line ≡ front ++ (w ∷ []) =
    sym (take_all (most + 1) line (omega arith)) ∙ take_more line most 0 (omega arith)
    ∙ ap (λ b. front ++ (b ∷ [])) (sym at) in
    let written : set line most (fold newer w rest) ≡ front ++ (fold newer w rest ∷ []) =
    ap (λ t. set t most (fold newer w rest)) whole
    ∙ set-append_right front (w ∷ []) most most (fold newer w rest) front_length (omega arith) in
    written
    ∙ sym (fold-append grown q fits rest ∙ ap (λ t. fold grown t rest)
    (fold_short q fits (omega arith) ∙ sym is ∙ whole) ∙ fold_last front w rest front_length)

-- a line that ends in a piece, with what follows
pub step_found : (w : Wanted) (n : ℕ) (line text : List ℕ) (g h : Group) (left piece more : List ℕ)
    (old new : List Item) → line_of (n + 1) line ≡ (n + 1, text) → h ≡ group_after g (n + 1, text)
    → new ≡ old ++ wanted w (ended_by g (n + 1, text)) → left ≡ piece ++ 10 ∷ more
    → All (λ b. b ≢ 10) piece
    → new ++ wanted w (given (state (n + 1) piece h) (10 ∷ more))
    ≡ old ++ wanted w (given (state n line g) (10 ∷ left))
step_found w n line text g h left piece more old new is group found cut free =
    let rest : List Item = given (state (n + 1) piece h) (10 ∷ more) in
    let all : given (state n line g) (10 ∷ left) ≡ ended_by g (n + 1, text) ++ rest =
    given-feed n line g left
    ∙ (λ i. ended_by g (is i) ++ given (state (n + 1) [] (group_after g (is i))) (cut i))
    ∙ ap (λ k. ended_by g (n + 1, text) ++ given (state (n + 1) [] k) (piece ++ 10 ∷ more))
    (sym group)
    ∙ ap (λ t. ended_by g (n + 1, text) ++ t) (given-line (n + 1) h piece more free) in
    ap (λ t. t ++ wanted w rest) found
    ∙ append_assoc old (wanted w (ended_by g (n + 1, text))) (wanted w rest)
    ∙ ap (λ t. old ++ t) (sym (ap (wanted w) all ∙ wanted-append w (ended_by g (n + 1, text)) rest))

pub step_state : (n : ℕ) (line text : List ℕ) (g h : Group) (left piece more : List ℕ)
    → line_of (n + 1) line ≡ (n + 1, text) → h ≡ group_after g (n + 1, text)
    → left ≡ piece ++ 10 ∷ more → All (λ b. b ≢ 10) piece
    → after (state (n + 1) piece h) (10 ∷ more) ≡ after (state n line g) (10 ∷ left)
step_state n line text g h left piece more is group cut free =
    sym (after-feed n line g left
    ∙ (λ i. after (state (n + 1) [] (group_after g (is i))) (cut i))
    ∙ ap (λ k. after (state (n + 1) [] k) (piece ++ 10 ∷ more)) (sym group)
    ∙ after-line (n + 1) h piece more free)

-- the last of them
pub end_found : (w : Wanted) (n : ℕ) (line text : List ℕ) (g h : Group) (left : List ℕ)
    (old new : List Item) → line_of (n + 1) line ≡ (n + 1, text) → h ≡ group_after g (n + 1, text)
    → new ≡ old ++ wanted w (ended_by g (n + 1, text)) → All (λ b. b ≢ 10) left
    → new ≡ old ++ wanted w (given (state n line g) (10 ∷ left))
end_found w n line text g h left old new is group found free =
    found
    ∙ ap (λ t. old ++ wanted w t) (sym (given-feed n line g left
    ∙ (λ i. ended_by g (is i) ++ given (state (n + 1) [] (group_after g (is i))) left)
    ∙ ap (λ t. ended_by g (n + 1, text) ++ t)
    (given-tail (n + 1) [] (group_after g (n + 1, text)) left free)
    ∙ append-nil (ended_by g (n + 1, text))))

pub end_state : (n : ℕ) (line text : List ℕ) (g h : Group) (left : List ℕ)
    → line_of (n + 1) line ≡ (n + 1, text) → h ≡ group_after g (n + 1, text)
    → All (λ b. b ≢ 10) left
    → after (state n line g) (10 ∷ left) ≡ state (n + 1) (fold grown [] left) h
end_state n line text g h left is group free =
    after-feed n line g left
    ∙ (λ i. after (state (n + 1) [] (group_after g (is i))) left)
    ∙ ap (λ k. after (state (n + 1) [] k) left) (sym group)
    ∙ after-tail (n + 1) [] h left free

pub ruleset keeping = (fold_short, fold_past, fold_bounded)
