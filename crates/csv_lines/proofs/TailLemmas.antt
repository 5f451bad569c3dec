-- Lines with the same tail behind a word have the same fields behind the first.
use Rattle.std.proofs.Common.{◌≡◌, ℕ, Bool, true, false, not, cond, ◌==◌, List, [], ◌∷◌, ◌++◌}
use Rattle.std.proofs.Common.{length, drop, take, reverse, zero, suc, ◌+◌, refl, sym, ap, ◌∙◌, ◌<◌}
use Rattle.std.proofs.Common.{ne_eqb, arith}
use Rattle.std.specs.Prelude.{IsUtf8, Ok, is_some, slice_index}
use Rattle.std.specs.Str.{is_utf8}
use Rattle.std.specs.List.{list_all, prefix_len}
use Rattle.std.proofs.lemmas.Bool.{and_parts, eqb-true}
use Rattle.std.proofs.lemmas.Bool.Decides.{nat_tests}
use Rattle.std.proofs.lemmas.List.{reverse-reverse}
use Rattle.std.proofs.lemmas.Str.{IsUtf8-append, IsUtf8-from_ascii, IsUtf8-from_is_utf8}
use Rattle.std.proofs.lemmas.Str.{is_utf8-from_IsUtf8}
use Rattle.geo_addr.specs.Lines.{is_blank, pieces, trimmed, trimmed_end, trimmed_start}
use Rattle.geo_terms.specs.PlaceForm.{PlaceParts, is_empty}
use Rattle.geo_terms.specs.declared.place.Said.TheVariants.{At}
use Rattle.csv_lines.specs.Fields.{goes_on, is_bare, values_of}
use Rattle.csv_lines.specs.Rests.{column, content_of, handed, rest_of, row_of, said_in}
use Rattle.csv_lines.specs.Tails.{IsCut, IsTail, SaysBare, is_word}
use Rattle.csv_lines.specs.declared.rest.Content.TheVariants.{Blank, NotText, NoFields, Fields}
use Rattle.csv_lines.proofs.BareLemmas.{bare_line, bare_rest, goes_bare, goes_no_comma}
use Rattle.csv_lines.proofs.BareLemmas.{reversed_all}
use Rattle.csv_lines.proofs.TextLemmas.{cut_ascii, end_is}

-- ---- words

word_goes : (b : ℕ) → is_word b ≡ true → goes_on b ≡ true
word_goes b e = grind (arith, nat_tests)

word_ascii : (b : ℕ) → is_word b ≡ true → b < 128
word_ascii b e = grind (arith, nat_tests)

word_no_blank : (b : ℕ) → is_word b ≡ true → is_blank b ≡ false
word_no_blank b e = grind (arith, nat_tests)

no_blanks : (xs : List ℕ) → list_all is_word xs ≡ true → prefix_len is_blank xs ≡ 0
no_blanks [] e = refl
no_blanks (x ∷ xs) e =
    ap (λ (b : Bool). cond b (1 + prefix_len is_blank xs) 0)
    (word_no_blank x (and_parts (is_word x) (list_all is_word xs) e).0)

trimmed_word : (xs : List ℕ) → list_all is_word xs ≡ true → trimmed xs ≡ xs
trimmed_word xs e =
    let start : trimmed_start xs ≡ xs = ap (λ (n : ℕ). drop n xs) (no_blanks xs e) in
    let none : prefix_len is_blank (reverse xs) ≡ 0 =
    no_blanks (reverse xs) (reversed_all is_word xs e) in
    let back : reverse (drop (prefix_len is_blank (reverse xs)) (reverse xs)) ≡ xs =
    ap (λ (n : ℕ). reverse (drop n (reverse xs))) none ∙ reverse-reverse xs in
    ap trimmed_end start ∙ end_is xs ∙ back

-- ---- a word, a comma and a tail

joined_pieces : (first tail : List ℕ) → list_all is_word first ≡ true
    → pieces 44 (first ++ (44 ∷ tail)) ≡ first ∷ pieces 44 tail
joined_pieces [] tail e = refl
joined_pieces (b ∷ bs) tail e =
    let (one, more) = and_parts (is_word b) (list_all is_word bs) e in
    rw (goes_no_comma b (word_goes b one), joined_pieces bs tail more) refl

joined_bare : (first tail : List ℕ) → list_all is_word first ≡ true
    → list_all is_bare (first ++ (44 ∷ tail)) ≡ list_all is_bare tail
joined_bare [] tail e = refl
joined_bare (b ∷ bs) tail e =
    let (one, more) = and_parts (is_word b) (list_all is_word bs) e in
    rw (goes_bare b (word_goes b one), joined_bare bs tail more) refl

one_ascii : (b : ℕ) → b < 128 → (i : ℕ) → slice_index (b ∷ []) i < 128
one_ascii b low zero = low
one_ascii b low (suc i) = omega arith

word_utf8 : (b : ℕ) (bs : List ℕ) → b < 128 → IsUtf8 bs → IsUtf8 (b ∷ bs)
word_utf8 b bs low u =
    IsUtf8-append (b ∷ []) bs (IsUtf8-from_ascii (b ∷ []) (one_ascii b low)) u

joined_utf8 : (first tail : List ℕ) → list_all is_word first ≡ true → IsUtf8 tail
    → IsUtf8 (first ++ (44 ∷ tail))
joined_utf8 [] tail e u = word_utf8 44 tail (omega arith) u
joined_utf8 (b ∷ bs) tail e u =
    let (one, more) = and_parts (is_word b) (list_all is_word bs) e in
    word_utf8 b (bs ++ (44 ∷ tail)) (word_ascii b one) (joined_utf8 bs tail more u)

joined_some : (first tail : List ℕ) → (length (first ++ (44 ∷ tail)) == 0) ≡ false
joined_some [] tail = ne_eqb (suc (length tail)) 0 (λ e. omega arith)
joined_some (b ∷ bs) tail = ne_eqb (suc (length (bs ++ (44 ∷ tail)))) 0 (λ e. omega arith)

-- ---- what a line says, the others say that end as it does

fields_utf8 : (rest : List ℕ) → content_of rest ≡ Fields → is_utf8 rest ≡ true
fields_utf8 rest e = by (is_empty rest) (is_utf8 rest) (is_some (values_of rest)) e
  where
    by : (x u v : Bool) → cond x Blank (cond (not u) NotText (cond v Fields NoFields)) ≡ Fields
        → u ≡ true
    by true u v e = absurd cc
    by false true v e = refl
    by false false v e = absurd cc

module _ (line first tail : List ℕ) (cut : IsCut line first tail) (text : IsUtf8 tail)
    (bare : list_all is_bare tail ≡ true) where
  rest_bare : list_all is_bare (trimmed line) ≡ true
  rest_bare = ap (list_all is_bare) cut.joined ∙ joined_bare first tail cut.word ∙ bare

  rest_text : is_utf8 (trimmed line) ≡ true
  rest_text =
      ap is_utf8 cut.joined
      ∙ is_utf8-from_IsUtf8 (first ++ (44 ∷ tail)) (joined_utf8 first tail cut.word text)

  rest_some : (length (trimmed line) == 0) ≡ false
  rest_some = ap (λ (t : List ℕ). length t == 0) cut.joined ∙ joined_some first tail

  pub cut_fields : (content_of (rest_of line) ≡ Fields)
      × (row_of (rest_of line) ≡ first ∷ pieces 44 tail) × (handed line ≡ [])
  cut_fields =
      let (content, row, nothing) =
      bare_line line (trimmed line) refl rest_some rest_text rest_bare in
      (content, sym row ∙ ap (pieces 44) cut.joined ∙ joined_pieces first tail cut.word, nothing)

pub tail_says : (line first tail : List ℕ) (place : PlaceParts) → IsCut line first tail
    → SaysBare line place → IsTail tail place
tail_says line first tail place cut says =
    let bare : list_all is_bare tail ≡ true =
    sym (joined_bare first tail cut.word) ∙ ap (list_all is_bare) (sym cut.joined) ∙ says.bare in
    let whole : is_utf8 (first ++ (44 ∷ tail)) ≡ true =
    ap is_utf8 (sym cut.joined) ∙ ap is_utf8 (sym (bare_rest line says.bare))
    ∙ fields_utf8 (rest_of line) says.content in
    let text : IsUtf8 tail =
    (cut_ascii first 44 tail (omega arith) (IsUtf8-from_is_utf8 (first ++ (44 ∷ tail)) whole)).1 in
    let said : said_in 1 (first ∷ pieces 44 tail) ≡ Ok (At place) =
    ap (said_in 1) (sym (cut_fields line first tail cut text bare).1) ∙ says.said in
    λ other word found.
    let (content, row, nothing) = cut_fields other word tail found text bare in record {
      content = content;
      word = ap (column 0) row ∙ trimmed_word word found.word;
      said = ap (said_in 1) row ∙ said;
      handed = nothing;
    }

-- ---- the cut of a line

pub word_cut : (text tail : List ℕ) → drop (prefix_len is_word text) text ≡ 44 ∷ tail
    → (text ≡ take (prefix_len is_word text) text ++ (44 ∷ tail))
    × (list_all is_word (take (prefix_len is_word text) text) ≡ true)
word_cut [] tail e = absurd cc
word_cut (b ∷ bs) tail e = by (is_word b) refl e (word_cut bs tail)
  where
    by : (x : Bool) → is_word b ≡ x
        → drop (cond x (1 + prefix_len is_word bs) 0) (b ∷ bs) ≡ 44 ∷ tail
        → (drop (prefix_len is_word bs) bs ≡ 44 ∷ tail
        → (bs ≡ take (prefix_len is_word bs) bs ++ (44 ∷ tail))
        × (list_all is_word (take (prefix_len is_word bs) bs) ≡ true))
        → (b ∷ bs ≡ take (cond x (1 + prefix_len is_word bs) 0) (b ∷ bs) ++ (44 ∷ tail))
        × (list_all is_word (take (cond x (1 + prefix_len is_word bs) 0) (b ∷ bs)) ≡ true)
    by false is h later = (h, refl)
    by true is h later =
        let adds : 1 + prefix_len is_word bs ≡ suc (prefix_len is_word bs) = omega arith in
        let (parts, words) = later (rw adds at h) in
        (rw adds (ap (λ (t : List ℕ). b ∷ t) parts), rw (adds, is) words)

-- the bytes of a word before a comma are all that a text has before the first other byte
pub word_before : (first tail : List ℕ) → list_all is_word first ≡ true
    → (take (prefix_len is_word (first ++ (44 ∷ tail))) (first ++ (44 ∷ tail)) ≡ first)
    × (drop (prefix_len is_word (first ++ (44 ∷ tail))) (first ++ (44 ∷ tail)) ≡ 44 ∷ tail)
word_before [] tail e = (refl, refl)
word_before (b ∷ bs) tail e =
    let (one, more) = and_parts (is_word b) (list_all is_word bs) e in
    let (front, back) = word_before bs tail more in
    let text = b ∷ (bs ++ (44 ∷ tail)) in
    let n = prefix_len is_word (bs ++ (44 ∷ tail)) in
    let adds : 1 + n ≡ suc n = omega arith in
    let count : prefix_len is_word text ≡ suc n =
    ap (λ (x : Bool). cond x (1 + n) 0) one ∙ adds in (
      ap (λ (k : ℕ). take k text) count ∙ ap (λ (t : List ℕ). b ∷ t) front,
      ap (λ (k : ℕ). drop k text) count ∙ back,
    )

no_bytes : (xs : List ℕ) → (length xs == 0) ≡ true → is_empty xs ≡ true
no_bytes [] e = refl
no_bytes (x ∷ xs) e = let none = eqb-true (length (x ∷ xs)) 0 e in absurd (omega arith)

some_bytes : (xs : List ℕ) → (length xs == 0) ≡ false → is_empty xs ≡ false
some_bytes [] e = absurd cc
some_bytes (x ∷ xs) e = refl

-- a text cut behind its word
module _ (line text front after : List ℕ) (n : ℕ) (is : text ≡ trimmed line)
    (count : n ≡ prefix_len is_word text) (at_front : front ≡ take n text)
    (behind : after ≡ drop n text) where
  pub cut_is : (b : ℕ) (tail : List ℕ) → (length front == 0) ≡ false → after ≡ b ∷ tail → b ≡ 44
      → IsCut line front tail
  cut_is b tail some parts comma =
      let left : drop (prefix_len is_word text) text ≡ 44 ∷ tail =
      sym (ap (λ (k : ℕ). drop k text) count) ∙ sym behind ∙ parts
      ∙ ap (λ (x : ℕ). x ∷ tail) comma in
      let (whole, words) = word_cut text tail left in
      let first : take (prefix_len is_word text) text ≡ front =
      sym (ap (λ (k : ℕ). take k text) count) ∙ sym at_front in record {
        joined = sym is ∙ whole ∙ ap (λ (t : List ℕ). t ++ (44 ∷ tail)) first;
        some = some_bytes front some;
        word = ap (list_all is_word) (sym first) ∙ words;
      }

  parts_are : (first tail : List ℕ) → IsCut line first tail
      → (front ≡ first) × (after ≡ 44 ∷ tail)
  parts_are first tail cut =
      let same : text ≡ first ++ (44 ∷ tail) = is ∙ cut.joined in
      let (before, behind_it) = word_before first tail cut.word in (
        at_front ∙ ap (λ (k : ℕ). take k text) count
            ∙ ap (λ (t : List ℕ). take (prefix_len is_word t) t) same ∙ before,
        behind ∙ ap (λ (k : ℕ). drop k text) count
            ∙ ap (λ (t : List ℕ). drop (prefix_len is_word t) t) same ∙ behind_it,
      )

  pub no_word : (length front == 0) ≡ true → (first tail : List ℕ) → IsCut line first tail → ⊥
  no_word none first tail cut =
      let clash : true ≡ false =
      sym (no_bytes front none) ∙ ap is_empty (parts_are first tail cut).0 ∙ cut.some in cc

  pub no_comma : length after ≡ 0 → (first tail : List ℕ) → IsCut line first tail → ⊥
  no_comma none first tail cut =
      let long : length after ≡ suc (length tail) = ap length (parts_are first tail cut).1 in
      absurd (omega arith)

  pub other_byte : (b : ℕ) (next : List ℕ) → after ≡ b ∷ next → (b ≡ 44 → ⊥)
      → (first tail : List ℕ) → IsCut line first tail → ⊥
  other_byte b next parts other first tail cut =
      let same : b ∷ next ≡ 44 ∷ tail = sym parts ∙ (parts_are first tail cut).1 in
      let is44 : b ≡ 44 = cc in other is44
