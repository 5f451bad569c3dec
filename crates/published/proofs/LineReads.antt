-- The lines of a feed that was written of lines, and what they say together.
use Rattle.std.proofs.Common.{inl, inr, ◌≡◌, ◌≢◌, ℕ, zero, suc, ◌+◌, ◌-◌, ◌^◌, ◌<◌}
use Rattle.std.proofs.Common.{true, false, ◌==◌, All, AllPairs, List, [], ◌∷◌}
use Rattle.std.proofs.Common.{◌++◌, length, map, filter_map, get_or, Option, None, Some}
use Rattle.std.proofs.Common.{refl, sym, ap, ◌∙◌, arith}
use Rattle.std.specs.Prelude.{nat_eq}
use Rattle.std.specs.List.{enumerate_from, list_all}
use Rattle.std.specs.Str.Lines.{strip_carriage_return}
use Rattle.std.proofs.lemmas.Bool.{and_parts, eqb-true, false_from_ne_true}
use Rattle.std.proofs.lemmas.Bool.Decides.{nat_tests}
use Rattle.std.proofs.lemmas.List.{append_assoc, length-map}
use Rattle.std.proofs.lemmas.List.Elements.{All-cons, All-head, All-nil, All-tail}
use Rattle.std.proofs.lemmas.List.Kept.{AllPairs-cons}
use Rattle.std.proofs.lemmas.List.Splits.{slice_split_at}
use Rattle.std.proofs.lemmas.Nat.{pow_pos}
use Rattle.std.proofs.Math.Pow.{pow-lt}
use Rattle.std.proofs.lemmas.Bool.{cases_order}
use Rattle.geo_addr.specs.Lines.{lines_of, numbered_lines, pieces, without_mark}
use Rattle.geo_addr.specs.Printing.{block_text}
use Rattle.geo_addr.specs.Ranges.{Ends, IsBlock, Prefix, range_of_block}
use Rattle.geo_addr.proofs.LineLemmas.{line_before_feed}
use Rattle.geo_terms.specs.PlaceForm.{PlaceParts}
use Rattle.geo_terms.specs.Report.{same_ends}
use Rattle.geo_terms.specs.declared.note.LineNote.{LineNote}
use Rattle.geo_terms.specs.declared.statement.Entry.{Entry}
use Rattle.csv_lines.specs.Clean.{is_clean}
use Rattle.csv_lines.specs.Repeats.{kept, merged, repeat_faults}
use Rattle.csv_lines.proofs.FateLemmas.{apart_kept, apart_silent}
use Rattle.feed_csv.specs.File.{accepted, entry_by, entry_line, entry_of as file_entry, entry_range}
use Rattle.feed_csv.specs.File.{entry_said, fault_alone, fault_of, faults, refused}
use Rattle.feed_csv.specs.File.{repeat_rules}
use Rattle.feed_csv.proofs.FileLemmas.{faults_are}
use Rattle.publish_least.specs.Lines.{AreInside, InPreorder, IsBefore, IsInside}
use Rattle.publish_least.specs.declared.line.Line.{Line}
use Rattle.published.specs.FeedText.{feed_text, line_text, place_text}
use Rattle.published.specs.Reread.{AreApart, AreClean, AreInForm, FeedsReadBack, IsCleanAt}
use Rattle.published.specs.Reread.{IsLineInForm, entry_of}
use Rattle.published.proofs.BlockBytes.{ascii_block, some_block}
use Rattle.published.proofs.LineText.{line_good_of, line_is, line_reads}

-- ---- the lines of the text

no_line_feed : (xs : List ℕ) → list_all is_clean xs ≡ true → All (λ b. (b == 10) ≡ false) xs
no_line_feed [] e = All-nil (λ b. (b == 10) ≡ false)
no_line_feed (x ∷ xs) e =
    let (one, more) = and_parts (is_clean x) (list_all is_clean xs) e in
    let other : (x == 10) ≡ false = grind (arith, nat_tests) in
    All-cons (λ b. (b == 10) ≡ false) x xs other (no_line_feed xs more)

no_return : (xs : List ℕ) (k : ℕ) → list_all is_clean xs ≡ true → (get_or xs k 0 == 13) ≡ false
no_return [] k e = refl
no_return (x ∷ xs) zero e =
    let (one, more) = and_parts (is_clean x) (list_all is_clean xs) e in
    grind (arith, nat_tests)
no_return (x ∷ xs) (suc k) e =
    let (one, more) = and_parts (is_clean x) (list_all is_clean xs) e in
    no_return xs k more

stripped : (xs : List ℕ) → list_all is_clean xs ≡ true → strip_carriage_return xs ≡ xs
stripped xs e = rw (no_return xs (length xs - 1) e) refl

one_line : (line after : List ℕ) → list_all is_clean line ≡ true
    → lines_of ((line ++ (10 ∷ [])) ++ after) ≡ line ∷ lines_of after
one_line line after e =
    let cut : pieces 10 (line ++ (10 ∷ after)) ≡ line ∷ pieces 10 after =
    slice_split_at (λ b. b == 10) line 10 after (no_line_feed line e) refl in
    ap lines_of (append_assoc line (10 ∷ []) after)
    ∙ line_before_feed (line ++ (10 ∷ after)) line after cut
    ∙ ap (λ t. t ∷ lines_of after) (stripped line e)

no_mark : (xs rest : List ℕ) → All (λ b. b < 128) xs → 0 < length xs
    → without_mark (xs ++ rest) ≡ xs ++ rest
no_mark [] rest low some = absurd (omega arith)
no_mark (x ∷ xs) rest low some =
    let small : x < 128 = low 0 0 (omega arith) in
    let other : nat_eq 239 x ≡ false = grind (arith, nat_tests) in
    rw other refl

module _ (place_of : ℕ → Option PlaceParts) where
  abbrev line_of : Line → List ℕ
  line_of x = line_text x.block (place_of x.leaf)

  abbrev IsForm : Line → Type 0
  IsForm x = IsLineInForm x.block (place_of x.leaf)

  -- what a line needs that is read back
  record IsGoodLine (x : Line) : Type 0 where
    aligned : IsBlock x.block
    form : IsForm x
    clean : IsCleanAt (place_of x.leaf)

  abbrev Goods : List Line → Type 0
  Goods [] = Unit {0}
  Goods (x ∷ ls) = IsGoodLine x × Goods ls

  goods : (ls : List Line) → All (λ x. IsBlock x.block) ls → AreInForm place_of ls
      → AreClean place_of ls → Goods ls
  goods [] aligned form clean = tt
  goods (x ∷ ls) aligned form clean = (
    record {
      aligned = All-head (λ y. IsBlock y.block) x ls aligned;
      form = All-head IsForm x ls form;
      clean = All-head (λ y. IsCleanAt (place_of y.leaf)) x ls clean;
    },
    goods ls (All-tail (λ y. IsBlock y.block) x ls aligned) (All-tail IsForm x ls form)
        (All-tail (λ y. IsCleanAt (place_of y.leaf)) x ls clean),
  )

  clean_line : (x : Line) → IsGoodLine x → list_all is_clean (line_of x) ≡ true
  clean_line x good =
      (line_good_of x.block good.aligned (place_of x.leaf) good.form good.clean).clean.bytes

  text_lines : (ls : List Line) → Goods ls → lines_of (feed_text place_of ls) ≡ map line_of ls
  text_lines [] good = refl
  text_lines (x ∷ ls) good =
      one_line (line_of x) (feed_text place_of ls) (clean_line x good.0)
      ∙ ap (λ t. line_of x ∷ t) (text_lines ls good.1)

  unmarked : (ls : List Line) → Goods ls
      → without_mark (feed_text place_of ls) ≡ feed_text place_of ls
  unmarked [] good = refl
  unmarked (x ∷ ls) good =
      let block = x.block in
      let place = place_of x.leaf in
      let behind = place_text place ++ ((10 ∷ []) ++ feed_text place_of ls) in
      let is : feed_text place_of (x ∷ ls) ≡ block_text block ++ behind =
      append_assoc (line_of x) (10 ∷ []) (feed_text place_of ls)
      ∙ ap (λ t. t ++ ((10 ∷ []) ++ feed_text place_of ls)) (sym (line_is block place))
      ∙ append_assoc (block_text block) (place_text place) ((10 ∷ []) ++ feed_text place_of ls) in
      ap without_mark is ∙ no_mark (block_text block) behind (ascii_block block good.0.aligned)
      (some_block block) ∙ sym is

  -- ---- what they say one by one

  module _ (x : Line) (n : ℕ) (good : IsGoodLine x) where
    read_entry : file_entry (n, line_of x) ≡ Some (entry_of place_of (n, x))
    read_entry =
        ap (entry_by n) (line_reads x.block good.aligned (place_of x.leaf) good.form good.clean)

    read_fault : fault_of (n, line_of x) ≡ None
    read_fault =
        ap (fault_alone n) (line_reads x.block good.aligned (place_of x.leaf) good.form good.clean)

  entries_from : (n : ℕ) (ls : List Line) → Goods ls → filter_map file_entry
      (enumerate_from n (map line_of ls)) ≡ map (entry_of place_of) (enumerate_from n ls)
  entries_from n [] good = refl
  entries_from n (x ∷ ls) good =
      rw (read_entry x n good.0)
      (ap (λ t. entry_of place_of (n, x) ∷ t) (entries_from (n + 1) ls good.1))

  faults_from : (n : ℕ) (ls : List Line) → Goods ls
      → filter_map fault_of (enumerate_from n (map line_of ls)) ≡ []
  faults_from n [] good = refl
  faults_from n (x ∷ ls) good = rw (read_fault x n good.0) (faults_from (n + 1) ls good.1)

-- ---- different blocks have different ranges

same_length : (a b : Prefix) → IsBlock a → IsBlock b → range_of_block a ≡ range_of_block b → a ≡ b
same_length a b one two e =
    let first : a.first ≡ b.first = ap (λ r. r.first) e in
    let last : a.first + (2 ^ (128 - a.len) - 1) ≡ b.first + (2 ^ (128 - b.len) - 1) =
    ap (λ r. r.last) e in
    let some = pow_pos (128 - a.len) in
    let more = pow_pos (128 - b.len) in
    let len : a.len ≡ b.len = elim (cases_order a.len b.len) [
      | inl same ↦ same
      | inr other ↦ elim other [
        | inl less ↦ absurd (let h : 2 ^ (128 - b.len) < 2 ^ (128 - a.len) =
            pow-lt (let g : 128 - b.len < 128 - a.len = omega (arith, two.length_fits) in g) in
            omega arith)
        | inr less ↦ absurd (let h : 2 ^ (128 - a.len) < 2 ^ (128 - b.len) =
            pow-lt (let g : 128 - a.len < 128 - b.len = omega (arith, one.length_fits) in g) in
            omega arith)
      ]
    ] in
    λ i. record { first = first i; len = len i }

same_ends_are : (x y : Ends) → same_ends x y ≡ true → x ≡ y
same_ends_are x y h =
    let (one, two) = and_parts (x.first == y.first) (x.last == y.last) h in
    let first = eqb-true x.first y.first one in
    let last = eqb-true x.last y.last two in
    λ i. record { first = first i; last = last i }

apart_ranges : (a b : Prefix) → IsBlock a → IsBlock b → a ≢ b
    → (same_ends (range_of_block a) (range_of_block b) ≡ false)
    × (same_ends (range_of_block b) (range_of_block a) ≡ false)
apart_ranges a b one two other = (
  false_from_ne_true (same_ends (range_of_block a) (range_of_block b)) (λ h.
      other (same_length a b one two (same_ends_are (range_of_block a) (range_of_block b) h))),
  false_from_ne_true (same_ends (range_of_block b) (range_of_block a)) (λ h. other
      (sym (same_length b a two one (same_ends_are (range_of_block b) (range_of_block a) h)))),
)

module _ (place_of : ℕ → Option PlaceParts) where
  abbrev Differ : Entry → Entry → Type 0
  Differ x y =
      (same_ends (entry_range x) (entry_range y) ≡ false)
      × (same_ends (entry_range y) (entry_range x) ≡ false)

  abbrev Aligned : Line → Type 0
  Aligned x = IsBlock x.block

  apart_from : (x : Line) (m n : ℕ) (ls : List Line) → IsBlock x.block → All Aligned ls
      → All (λ y. x.block ≢ y.block) ls
      → All (Differ (entry_of place_of (m, x))) (map (entry_of place_of) (enumerate_from n ls))
  apart_from x m n [] one blocks apart = All-nil (Differ (entry_of place_of (m, x)))
  apart_from x m n (y ∷ ls) one blocks apart =
      All-cons (Differ (entry_of place_of (m, x))) (entry_of place_of (n, y))
      (map (entry_of place_of) (enumerate_from (n + 1) ls))
      (apart_ranges x.block y.block one (All-head Aligned y ls blocks)
      (All-head (λ z. x.block ≢ z.block) y ls apart))
      (apart_from x m (n + 1) ls one (All-tail Aligned y ls blocks)
      (All-tail (λ z. x.block ≢ z.block) y ls apart))

  entries_apart : (n : ℕ) (ls : List Line) → All Aligned ls → AllPairs (λ x y. x.block ≢ y.block) ls
      → AllPairs Differ (map (entry_of place_of) (enumerate_from n ls))
  entries_apart n [] blocks apart = λ i j d less m. absurd (omega arith)
  entries_apart n (x ∷ ls) blocks apart =
      AllPairs-cons Differ (entry_of place_of (n, x))
      (map (entry_of place_of) (enumerate_from (n + 1) ls))
      (apart_from x n (n + 1) ls (All-head Aligned x ls blocks) (All-tail Aligned x ls blocks)
      (λ k d l. apart 0 (suc k) d (omega arith) (omega arith)))
      (entries_apart (n + 1) ls (All-tail Aligned x ls blocks)
      (λ i j d less m. apart (suc i) (suc j) d (omega arith) (omega arith)))

-- ---- what they say together

length-enumerate : (n : ℕ) (ls : List Line) → length (enumerate_from n ls) ≡ length ls
length-enumerate n [] = refl
length-enumerate n (x ∷ ls) = ap suc (length-enumerate (n + 1) ls)

pub feeds_read_back : FeedsReadBack
feeds_read_back url place_of ls form apart clean =
    let file = feed_text place_of ls in
    let said = map (entry_of place_of) (enumerate_from 1 ls) in
    let good = goods place_of ls apart.aligned form clean in
    let numbered : numbered_lines file ≡ enumerate_from 1 (map (line_of place_of) ls) =
    ap (λ t. enumerate_from 1 (lines_of t)) (unmarked place_of ls good)
    ∙ ap (enumerate_from 1) (text_lines place_of ls good) in
    let all : accepted file ≡ said =
    ap (filter_map file_entry) numbered ∙ entries_from place_of 1 ls good in
    let none : refused file ≡ [] =
    ap (filter_map fault_of) numbered ∙ faults_from place_of 1 ls good in
    let differ = entries_apart place_of 1 ls apart.aligned apart.distinct in
    let kept_are : kept entry_line entry_range entry_said (accepted file) ≡ said =
    ap (λ (es : List Entry). kept entry_line entry_range entry_said es) all
    ∙ apart_kept entry_line entry_range entry_said said differ in
    let late : repeat_faults entry_line entry_range entry_said repeat_rules (accepted file) ≡ [] =
    ap (λ (es : List Entry). repeat_faults entry_line entry_range entry_said repeat_rules es) all
    ∙ apart_silent entry_line entry_range entry_said repeat_rules said differ in
    let no_notes : faults file ≡ [] =
    sym (faults_are file) ∙ ap (λ (fs : List LineNote). merged fs (refused file)) late ∙ none in (
      λ i. record { url = url; entries = kept_are i; notes = no_notes i },
      ap length all ∙ length-map (enumerate_from 1 ls) (entry_of place_of) ∙ length-enumerate 1 ls,
    )

-- ---- lines in preorder

before_apart : (x y : Line) → IsBefore x y → x.block ≢ y.block
before_apart x y (inl less) e =
    let first : x.block.first ≡ y.block.first = ap (λ b. b.first) e in omega arith
before_apart x y (inr longer) e =
    let len : x.block.len ≡ y.block.len = ap (λ b. b.len) e in
    omega (arith, longer.1)

before_all : (x : Line) (ls : List Line) → All (IsBefore x) ls → All (λ y. x.block ≢ y.block) ls
before_all x [] all = All-nil (λ y. x.block ≢ y.block)
before_all x (y ∷ ls) all =
    All-cons (λ z. x.block ≢ z.block) y ls (before_apart x y (All-head (IsBefore x) y ls all))
    (before_all x ls (All-tail (IsBefore x) y ls all))

distinct_blocks : (ls : List Line) → InPreorder ls → AllPairs (λ x y. x.block ≢ y.block) ls
distinct_blocks [] all = λ i j d less m. absurd (omega arith)
distinct_blocks (x ∷ ls) all =
    AllPairs-cons (λ y z. y.block ≢ z.block) x ls (before_all x ls all.0) (distinct_blocks ls all.1)

inside_aligned : (within : Prefix) (ls : List Line) → AreInside within ls
    → All (λ x. IsBlock x.block) ls
inside_aligned within [] inside = All-nil (λ x. IsBlock x.block)
inside_aligned within (x ∷ ls) inside =
    All-cons (λ y. IsBlock y.block) x ls
    (All-head (λ y. IsInside within y.block) x ls inside).aligned
    (inside_aligned within ls (All-tail (λ y. IsInside within y.block) x ls inside))

-- no block comes twice in a preorder
pub preorder_apart : (within : Prefix) (ls : List Line) → AreInside within ls → InPreorder ls
    → AreApart ls
preorder_apart within ls inside all =
    record { aligned = inside_aligned within ls inside; distinct = distinct_blocks ls all }
