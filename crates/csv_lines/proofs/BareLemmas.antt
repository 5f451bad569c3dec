-- A text without quotes: its values are its pieces between commas.
-- A file without quotes hands nothing over.
use Rattle.std.proofs.Common.{◌≡◌, ◌≢◌, ℕ, zero, suc, ◌+◌, ◌-◌, ◌<◌, ◌≤◌, Bool, true, false, not}
use Rattle.std.proofs.Common.{cond, ◌&&◌, ◌||◌, ◌==◌, ◌⊎◌, inl, inr, List, [], ◌∷◌, length, map}
use Rattle.std.proofs.Common.{drop, take, reverse, Option, Some, None, refl, sym, ap, subst, ◌∙◌}
use Rattle.std.proofs.Common.{ne_eqb, arith}
use Rattle.std.specs.Prelude.{is_some, nat_eq, option_map, slice_index, slice_index_or, unwrap_or}
use Rattle.std.specs.List.{enumerate_from, list_all, onto_first, prefix_len, starts_with}
use Rattle.std.specs.Str.{is_utf8}
use Rattle.std.specs.Str.Lines.{strip_carriage_return}
use Rattle.std.proofs.lemmas.Bool.{and_parts, eqb-true}
use Rattle.std.proofs.lemmas.Bool.Decides.{nat_tests}
use Rattle.std.proofs.lemmas.List.{reverse-append, reverse-reverse}
use Rattle.std.proofs.lemmas.List.Folds.{list_all-append}
use Rattle.memchr.specs.Find.{Nowhere, NoneBefore, Passes, is_byte}
use Rattle.csv.specs.Records.{field_at}
use Rattle.geo_addr.specs.Lines.{byte_order_mark, is_blank, last_line, lines_of, lines_of_pieces}
use Rattle.geo_addr.specs.Lines.{numbered_lines, pieces, trimmed, trimmed_start, without_mark}
use Rattle.geo_terms.specs.PlaceForm.{is_empty}
use Rattle.csv_lines.specs.Fields.{Field, Plain, Quoted, fields, goes_on, is_bare, is_inner}
use Rattle.csv_lines.specs.Fields.{is_unquoted, scan, value, values_of, with_byte, with_plain}
use Rattle.csv_lines.specs.Rests.{IsBareLine, all_handed, content_of, first_piece, handed}
use Rattle.csv_lines.specs.Rests.{handed_by, rest_of, row_of}
use Rattle.csv_lines.specs.declared.bare.TheConstants.{MOST_FIELDS}
use Rattle.csv_lines.specs.declared.rest.Content.{Content}
use Rattle.csv_lines.specs.declared.rest.Content.TheVariants.{Blank, NotText, NoFields, Fields}
use Rattle.csv_lines.specs.declared.scan.Spot.TheVariants.{Start, Inside}
use Rattle.csv_lines.proofs.TextLemmas.{all_drop, all_take, end_is, trimmed_all}

-- ---- whether a text has a quote

abbrev no_quote : ℕ → Bool
no_quote b = not (b == 34)

unnot : (x : Bool) → not x ≡ true → x ≡ false
unnot true e = absurd cc
unnot false e = refl

false_of : (x : Bool) → (x ≡ true → ⊥) → x ≡ false
false_of true n = absurd (n refl)
false_of false n = refl

nowhere : (text : List ℕ) → ((k : ℕ) → k < length text → is_byte 34 (slice_index text k) ≡ true → ⊥)
    → is_unquoted text ≡ true
nowhere [] free = refl
nowhere (b ∷ bs) free =
    let one : (b == 34) ≡ false = false_of (b == 34) (λ is. free 0 (omega arith) is) in
    rw one (nowhere bs (λ k below is. free (suc k) (omega arith) is))

somewhere : (text : List ℕ) (i : ℕ) → i < length text → is_byte 34 (slice_index text i) ≡ true
    → is_unquoted text ≡ false
somewhere [] i below is = absurd (omega arith)
somewhere (b ∷ bs) zero below is = rw is refl
somewhere (b ∷ bs) (suc i) below is = by (no_quote b) (somewhere bs i (omega arith) is)
  where
    by : (x : Bool) → is_unquoted bs ≡ false → (x && is_unquoted bs) ≡ false
    by true e = e
    by false e = refl

pub unquoted : (text : List ℕ)
    → Nowhere (Passes (is_byte 34) text) 0 (length text) → is_unquoted text ≡ true
unquoted text none = nowhere text (λ k below is. none k (omega arith) below is)

pub quoted : (text : List ℕ) (i : ℕ) → NoneBefore (Passes (is_byte 34) text) 0 (length text) i
    → Passes (is_byte 34) text i → is_unquoted text ≡ false
quoted text i before is = somewhere text i before.high is

-- ---- the values of a text without quotes

abbrev valued : Option (List Field) → Option (List (List ℕ))
valued o = option_map (map value) o

some_is : {A : Type 0} (x y : A) → Some x ≡ Some y → x ≡ y
some_is x y e = cc

with_comma : (o : Option (List Field)) (ps : List (List ℕ)) → valued o ≡ Some ps
    → valued (option_map with_plain o) ≡ Some ([] ∷ ps)
with_comma None ps e = absurd cc
with_comma (Some fs) ps e = ap (λ (t : List (List ℕ)). Some ([] ∷ t)) (some_is (map value fs) ps e)

with_other : (b : ℕ) (o : Option (List Field)) (ps : List (List ℕ)) → ps ≢ [] → valued o ≡ Some ps
    → valued (option_map (with_byte b) o) ≡ Some (onto_first b ps)
with_other b None ps some e = absurd cc
with_other b (Some []) ps some e = absurd (some (sym (some_is [] ps e)))
with_other b (Some (Plain x ∷ more)) ps some e =
    ap (λ (t : List (List ℕ)). Some (onto_first b t)) (some_is (x ∷ map value more) ps e)
with_other b (Some (Quoted x ∷ more)) ps some e =
    ap (λ (t : List (List ℕ)). Some (onto_first b t)) (some_is (x ∷ map value more) ps e)

onto_some : (b : ℕ) (ps : List (List ℕ)) → onto_first b ps ≢ []
onto_some b [] e = cc
onto_some b (p ∷ ps) e = cc

pieces_some : (c : ℕ) (text : List ℕ) → pieces c text ≢ []
pieces_some c [] e = cc
pieces_some c (b ∷ bs) e = by (b == c) e
  where
    by : (x : Bool) → cond x ([] ∷ pieces c bs) (onto_first b (pieces c bs)) ≡ [] → ⊥
    by true h = cc
    by false h = onto_some b (pieces c bs) h

-- from the start of a field, and inside a plain one
scanned : (text : List ℕ) → is_unquoted text ≡ true
    → (valued (scan Start text) ≡ Some (pieces 44 text))
    × (valued (scan Inside text) ≡ Some (pieces 44 text))
unfolding scan
scanned [] e = (refl, refl)
scanned (b ∷ bs) e =
    let (one, more) = and_parts (no_quote b) (is_unquoted bs) e in
    by (b == 44) refl (unnot (b == 34) one) (scanned bs more)
  where
    by : (x : Bool) → (b == 44) ≡ x → (b == 34) ≡ false
        → (valued (scan Start bs) ≡ Some (pieces 44 bs))
        × (valued (scan Inside bs) ≡ Some (pieces 44 bs))
        → (valued (scan Start (b ∷ bs)) ≡ Some (pieces 44 (b ∷ bs)))
        × (valued (scan Inside (b ∷ bs)) ≡ Some (pieces 44 (b ∷ bs)))
    by true comma quote later =
        let made = with_comma (scan Start bs) (pieces 44 bs) later.0 in
        rw (quote, comma) (made, made)
    by false comma quote later =
        let made = with_other b (scan Inside bs) (pieces 44 bs) (pieces_some 44 bs) later.1 in
        rw (quote, comma) (made, made)

pub values_are : (text : List ℕ) (values : List (List ℕ)) → is_unquoted text ≡ true
    → values_of text ≡ Some values → pieces 44 text ≡ values
values_are text values free e = by (list_all is_inner text) e
  where
    by : (x : Bool) → cond x (option_map (map value) (fields text)) None ≡ Some values
        → pieces 44 text ≡ values
    by true h = some_is (pieces 44 text) values (sym (scanned text free).0 ∙ h)
    by false h = absurd cc

-- ---- nothing is handed over of lines without quotes

first_all : (q : ℕ → Bool) (ps : List (List ℕ)) → list_all (list_all q) ps ≡ true
    → list_all q (first_piece ps) ≡ true
first_all q [] e = refl
first_all q (p ∷ ps) e = (and_parts (list_all q p) (list_all (list_all q) ps) e).0

onto_all : (q : ℕ → Bool) (b : ℕ) (ps : List (List ℕ)) → q b ≡ true
    → list_all (list_all q) ps ≡ true → list_all (list_all q) (onto_first b ps) ≡ true
onto_all q b [] one e = rw one refl
onto_all q b (p ∷ ps) one e =
    let (first, more) = and_parts (list_all q p) (list_all (list_all q) ps) e in
    rw (one, first, more) refl

pieces_all : (q : ℕ → Bool) (c : ℕ) (text : List ℕ) → list_all q text ≡ true
    → list_all (list_all q) (pieces c text) ≡ true
pieces_all q c [] e = refl
pieces_all q c (b ∷ bs) e =
    let (one, more) = and_parts (q b) (list_all q bs) e in
    by (b == c) one (pieces_all q c bs more)
  where
    by : (x : Bool) → q b ≡ true → list_all (list_all q) (pieces c bs) ≡ true
        → list_all (list_all q) (cond x ([] ∷ pieces c bs) (onto_first b (pieces c bs))) ≡ true
    by true one later = later
    by false one later = onto_all q b (pieces c bs) one later

strip_all : (q : ℕ → Bool) (l : List ℕ) → list_all q l ≡ true
    → list_all q (strip_carriage_return l) ≡ true
strip_all q l e = by (slice_index l (length l - 1) == 13)
  where
    by : (x : Bool) → list_all q (cond x (take (length l - 1) l) l) ≡ true
    by true = all_take q (length l - 1) l e
    by false = e

last_all : (q : ℕ → Bool) (p : List ℕ) → list_all q p ≡ true
    → list_all (list_all q) (last_line p) ≡ true
last_all q [] e = refl
last_all q (b ∷ bs) e = rw (strip_all q (b ∷ bs) e) refl

lines_all : (q : ℕ → Bool) (ps : List (List ℕ)) → list_all (list_all q) ps ≡ true
    → list_all (list_all q) (lines_of_pieces ps) ≡ true
lines_all q [] e = refl
lines_all q (p ∷ []) e = last_all q p (and_parts (list_all q p) true e).0
lines_all q (p ∷ next ∷ more) e =
    let (first, later) = and_parts (list_all q p) (list_all (list_all q) (next ∷ more)) e in
    rw (strip_all q p first, lines_all q (next ∷ more) later) refl

mark_all : (q : ℕ → Bool) (file : List ℕ) → list_all q file ≡ true
    → list_all q (without_mark file) ≡ true
mark_all q file e = by (starts_with nat_eq file byte_order_mark)
  where
    by : (x : Bool) → list_all q (cond x (drop 3 file) file) ≡ true
    by true = all_drop q 3 file e
    by false = e

-- a rest without quotes is not handed over
pub handed_none : (line : List ℕ) → is_unquoted (rest_of line) ≡ true → handed line ≡ []
unfolding handed
handed_none line free = by (content_of (rest_of line))
  where
    by : (c : Content) → handed_by c (rest_of line) ≡ []
    by Blank = refl
    by NotText = refl
    by NoFields = refl
    by Fields = rw free refl

line_handed : (line : List ℕ) → is_unquoted line ≡ true → handed line ≡ []
line_handed line free =
    handed_none line (trimmed_all no_quote (first_piece (pieces 35 line))
    (first_all no_quote (pieces 35 line) (pieces_all no_quote 35 line free)))

lines_handed : (n : ℕ) (lines : List (List ℕ)) → list_all is_unquoted lines ≡ true
    → all_handed (enumerate_from n lines) ≡ []
lines_handed n [] e = refl
lines_handed n (l ∷ ls) e =
    let (first, later) = and_parts (is_unquoted l) (list_all is_unquoted ls) e in
    rw (line_handed l first, lines_handed (n + 1) ls later) refl

pub nothing_handed : (file : List ℕ) → is_unquoted file ≡ true
    → all_handed (numbered_lines file) ≡ []
nothing_handed file free =
    lines_handed 1
    (lines_of (without_mark file)) (lines_all no_quote (pieces 10 (without_mark file))
    (pieces_all no_quote 10 (without_mark file) (mark_all no_quote file free)))

-- ---- texts without quotes, line ends and comments

abbrev uncommented : ℕ → Bool
uncommented b = not (b == 35)

all_weaker : (p q : ℕ → Bool) → ((b : ℕ) → p b ≡ true → q b ≡ true) → (text : List ℕ)
    → list_all p text ≡ true → list_all q text ≡ true
all_weaker p q weaker [] e = refl
all_weaker p q weaker (b ∷ bs) e =
    let (one, more) = and_parts (p b) (list_all p bs) e in
    rw (weaker b one, all_weaker p q weaker bs more) refl

bare_quote : (b : ℕ) → is_bare b ≡ true → no_quote b ≡ true
bare_quote b e = grind (arith, nat_tests)

bare_inner : (b : ℕ) → is_bare b ≡ true → is_inner b ≡ true
bare_inner b e = grind (arith, nat_tests)

bare_uncommented : (b : ℕ) → is_bare b ≡ true → uncommented b ≡ true
bare_uncommented b e = grind (arith, nat_tests)

pub goes_bare : (b : ℕ) → goes_on b ≡ true → is_bare b ≡ true
goes_bare b e = grind (arith, nat_tests)

pub goes_no_comma : (b : ℕ) → goes_on b ≡ true → (b == 44) ≡ false
goes_no_comma b e = grind (arith, nat_tests)

-- the bytes up to the end of a text that go on are its only field
pub cut_last : (text : List ℕ) → drop (prefix_len goes_on text) text ≡ []
    → (pieces 44 text ≡ take (prefix_len goes_on text) text ∷ []) × (list_all is_bare text ≡ true)
cut_last [] e = (refl, refl)
cut_last (b ∷ bs) e = by (goes_on b) refl e (cut_last bs)
  where
    by : (x : Bool) → goes_on b ≡ x → drop (cond x (1 + prefix_len goes_on bs) 0) (b ∷ bs) ≡ []
        → (drop (prefix_len goes_on bs) bs ≡ []
        → (pieces 44 bs ≡ take (prefix_len goes_on bs) bs ∷ []) × (list_all is_bare bs ≡ true))
        → (pieces 44 (b ∷ bs) ≡ take (cond x (1 + prefix_len goes_on bs) 0) (b ∷ bs) ∷ [])
        × (list_all is_bare (b ∷ bs) ≡ true)
    by false is h later = absurd cc
    by true is h later =
        let adds : 1 + prefix_len goes_on bs ≡ suc (prefix_len goes_on bs) = omega arith in
        let (left, bare) = later (rw adds at h) in
        (rw (goes_no_comma b is, adds, left) refl, rw (goes_bare b is, bare) refl)

-- those up to a comma are its first field
pub cut_comma : (text next : List ℕ) → drop (prefix_len goes_on text) text ≡ 44 ∷ next
    → (pieces 44 text ≡ take (prefix_len goes_on text) text ∷ pieces 44 next)
    × (list_all is_bare text ≡ list_all is_bare next)
cut_comma [] next e = absurd cc
cut_comma (b ∷ bs) next e = by (goes_on b) refl e (cut_comma bs next)
  where
    by : (x : Bool) → goes_on b ≡ x
        → drop (cond x (1 + prefix_len goes_on bs) 0) (b ∷ bs) ≡ 44 ∷ next
        → (drop (prefix_len goes_on bs) bs ≡ 44 ∷ next
        → (pieces 44 bs ≡ take (prefix_len goes_on bs) bs ∷ pieces 44 next)
        × (list_all is_bare bs ≡ list_all is_bare next))
        → (pieces 44 (b ∷ bs)
        ≡ take (cond x (1 + prefix_len goes_on bs) 0) (b ∷ bs) ∷ pieces 44 next)
        × (list_all is_bare (b ∷ bs) ≡ list_all is_bare next)
    by false is h later =
        let head : b ≡ 44 = cc in
        let tail : bs ≡ next = cc in
        (rw (head, tail) refl, rw (head, tail) refl)
    by true is h later =
        let adds : 1 + prefix_len goes_on bs ≡ suc (prefix_len goes_on bs) = omega arith in
        let (left, bare) = later (rw adds at h) in
        (rw (goes_no_comma b is, adds, left) refl, rw (goes_bare b is) bare)

-- a byte that neither goes on nor is a comma is in no bare text
other_byte : (b : ℕ) → goes_on b ≡ false → (b ≡ 44 → ⊥) → is_bare b ≡ false
other_byte b e other = ap (λ (x : Bool). x || goes_on b) (ne_eqb b 44 other) ∙ e

pub cut_other : (text next : List ℕ) (b : ℕ) → drop (prefix_len goes_on text) text ≡ b ∷ next
    → (b ≡ 44 → ⊥) → list_all is_bare text ≡ false
cut_other [] next b e other = absurd cc
cut_other (a ∷ more) next b e other = by (goes_on a) refl e (cut_other more next b)
  where
    by : (x : Bool) → goes_on a ≡ x
        → drop (cond x (1 + prefix_len goes_on more) 0) (a ∷ more) ≡ b ∷ next
        → (drop (prefix_len goes_on more) more ≡ b ∷ next → (b ≡ 44 → ⊥)
        → list_all is_bare more ≡ false) → list_all is_bare (a ∷ more) ≡ false
    by false is h later =
        let head : a ≡ b = cc in
        rw (other_byte a is (λ c. other (sym head ∙ c))) refl
    by true is h later =
        let adds : 1 + prefix_len goes_on more ≡ suc (prefix_len goes_on more) = omega arith in
        rw (goes_bare a is) (later (rw adds at h) other)

no_items : (xs : List ℕ) → length xs ≡ 0 → xs ≡ []
no_items [] e = refl
no_items (x ∷ xs) e = absurd (omega arith)

module _ (text front after : List ℕ) (n : ℕ) (count : n ≡ prefix_len goes_on text)
    (at_front : front ≡ take n text) (behind : after ≡ drop n text) where
  left : drop (prefix_len goes_on text) text ≡ after
  left = sym (ap (λ (k : ℕ). drop k text) count) ∙ sym behind

  first : take (prefix_len goes_on text) text ≡ front
  first = sym (ap (λ (k : ℕ). take k text) count) ∙ sym at_front

  pub last_cut : length after ≡ 0 → (pieces 44 text ≡ front ∷ []) × (list_all is_bare text ≡ true)
  last_cut none =
      let (cut, bare) = cut_last text (left ∙ no_items after none) in
      (cut ∙ ap (λ (t : List ℕ). t ∷ []) first, bare)

  pub comma_cut : (b : ℕ) (next : List ℕ) → after ≡ b ∷ next → b ≡ 44
      → (pieces 44 text ≡ front ∷ pieces 44 next) × (list_all is_bare text ≡ list_all is_bare next)
  comma_cut b next parts is =
      let (cut, bare) = cut_comma text next (left ∙ parts ∙ ap (λ (x : ℕ). x ∷ next) is) in
      (cut ∙ ap (λ (t : List ℕ). t ∷ pieces 44 next) first, bare)

  pub other_cut : (b : ℕ) (next : List ℕ) → after ≡ b ∷ next → (b ≡ 44 → ⊥)
      → list_all is_bare text ≡ false
  other_cut b next parts other = cut_other text next b (left ∙ parts) other

content_by : (x u : Bool) (vs : Option (List (List ℕ))) (ps : List (List ℕ)) → x ≡ false → u ≡ true
    → vs ≡ Some ps
    → cond x Blank (cond (not u) NotText (cond (is_some vs) Fields NoFields)) ≡ Fields
content_by x u vs ps e f g = rw (e, f, g) refl

bare_values : (text : List ℕ) → list_all is_bare text ≡ true
    → values_of text ≡ Some (pieces 44 text)
bare_values text bare =
    ap (λ (x : Bool). cond x (option_map (map value) (fields text)) None)
    (all_weaker is_bare is_inner bare_inner text bare)
    ∙ (scanned text (all_weaker is_bare no_quote bare_quote text bare)).0

-- an empty rest is blank, and a bare one with bytes has fields, which are its pieces
pub blank_of : (rest : List ℕ) → (length rest == 0) ≡ true → content_of rest ≡ Blank
blank_of [] e = refl
blank_of (b ∷ bs) e = let none = eqb-true (length (b ∷ bs)) 0 e in absurd (omega arith)

pub bare_fields : (rest : List ℕ) → (length rest == 0) ≡ false → is_utf8 rest ≡ true
    → list_all is_bare rest ≡ true
    → (content_of rest ≡ Fields) × (pieces 44 rest ≡ row_of rest)
bare_fields [] some text bare = absurd cc
bare_fields (b ∷ bs) some text bare =
    let rest = b ∷ bs in
    let values = bare_values rest bare in (
      content_by false (is_utf8 rest) (values_of rest) (pieces 44 rest) refl text values,
      sym (ap (λ (o : Option (List (List ℕ))). unwrap_or o []) values),
    )

pub bare_unquoted : (text : List ℕ) → list_all is_bare text ≡ true → is_unquoted text ≡ true
bare_unquoted text bare = all_weaker is_bare no_quote bare_quote text bare

-- ---- a line without a comment

-- what holds of blanks and of the text without those at its start holds of the text
untrimmed_start : (q : ℕ → Bool) → ((b : ℕ) → is_blank b ≡ true → q b ≡ true) → (xs : List ℕ)
    → list_all q (trimmed_start xs) ≡ true → list_all q xs ≡ true
untrimmed_start q blank [] e = refl
untrimmed_start q blank (x ∷ xs) e = by (is_blank x) refl e (untrimmed_start q blank xs)
  where
    by : (b : Bool) → is_blank x ≡ b
        → list_all q (drop (cond b (1 + prefix_len is_blank xs) 0) (x ∷ xs)) ≡ true
        → (list_all q (trimmed_start xs) ≡ true → list_all q xs ≡ true) → list_all q (x ∷ xs) ≡ true
    by false is h later = h
    by true is h later =
        let adds : 1 + prefix_len is_blank xs ≡ suc (prefix_len is_blank xs) = omega arith in
        rw (blank x is, later (rw adds at h)) refl

pub reversed_all : (q : ℕ → Bool) (xs : List ℕ) → list_all q xs ≡ true
    → list_all q (reverse xs) ≡ true
reversed_all q [] e = refl
reversed_all q (x ∷ xs) e =
    let (one, more) = and_parts (q x) (list_all q xs) e in
    ap (list_all q) (reverse-append (x ∷ []) xs) ∙ list_all-append q (reverse xs) (x ∷ [])
    ∙ rw (reversed_all q xs more, one) refl

untrimmed : (q : ℕ → Bool) → ((b : ℕ) → is_blank b ≡ true → q b ≡ true) → (xs : List ℕ)
    → list_all q (trimmed xs) ≡ true → list_all q xs ≡ true
untrimmed q blank xs e =
    let start = trimmed_start xs in
    let turned = reversed_all q _ (ap (list_all q) (sym (end_is start)) ∙ e) in
    let behind =
    untrimmed_start q blank (reverse start)
    (ap (list_all q) (sym (reverse-reverse (trimmed_start (reverse start)))) ∙ turned) in
    untrimmed_start q blank xs
    (ap (list_all q) (sym (reverse-reverse start)) ∙ reversed_all q (reverse start) behind)

one_piece : (text : List ℕ) → list_all uncommented text ≡ true → pieces 35 text ≡ text ∷ []
one_piece [] e = refl
one_piece (b ∷ bs) e =
    let (one, more) = and_parts (uncommented b) (list_all uncommented bs) e in
    rw (unnot (b == 35) one, one_piece bs more) refl

blank_uncommented : (b : ℕ) → is_blank b ≡ true → uncommented b ≡ true
blank_uncommented b e = grind (arith, nat_tests)

-- the rest of a line is the line without the blanks around it, where that is bare
pub bare_rest : (line : List ℕ) → list_all is_bare (trimmed line) ≡ true
    → rest_of line ≡ trimmed line
bare_rest line bare =
    let free =
    untrimmed uncommented blank_uncommented line
    (all_weaker is_bare uncommented bare_uncommented (trimmed line) bare) in
    ap (λ (ps : List (List ℕ)). trimmed (first_piece ps)) (one_piece line free)

-- such a line has fields, which are the pieces of its rest, and hands nothing over
pub bare_line : (line rest : List ℕ) → rest ≡ trimmed line → (length rest == 0) ≡ false
    → is_utf8 rest ≡ true → list_all is_bare rest ≡ true
    → (content_of (rest_of line) ≡ Fields) × (pieces 44 rest ≡ row_of (rest_of line))
    × (handed line ≡ [])
bare_line line rest is some text bare =
    let same : rest_of line ≡ rest =
    bare_rest line (subst (λ (t : List ℕ). list_all is_bare t ≡ true) is bare) ∙ sym is in
    let (content, row) = bare_fields rest some text bare in (
      ap content_of same ∙ content,
      row ∙ ap row_of (sym same),
      handed_none line (ap is_unquoted same ∙ bare_unquoted rest bare),
    )

-- ---- the fields of a row by their indexes

pub field_within : {A : Type 0} (f : A → List ℕ) (xs : List A) (n i : ℕ) (d : A) → i < n
    → n ≤ length xs → Some (f (slice_index_or xs i d)) ≡ field_at (map f (take n xs)) i
unfolding field_at
field_within f [] n i d below few = absurd (omega arith)
field_within f (x ∷ xs) zero i d below few = absurd (omega arith)
field_within f (x ∷ xs) (suc n) zero d below few = refl
field_within f (x ∷ xs) (suc n) (suc i) d below few =
    field_within f xs n i d (omega arith) (omega arith)

pub field_past : {A : Type 0} (f : A → List ℕ) (xs : List A) (n i : ℕ) → n ≤ i
    → None ≡ field_at (map f (take n xs)) i
unfolding field_at
field_past f [] zero i past = refl
field_past f [] (suc n) i past = refl
field_past f (x ∷ xs) zero i past = refl
field_past f (x ∷ xs) (suc n) zero past = absurd (omega arith)
field_past f (x ∷ xs) (suc n) (suc i) past = field_past f xs n i (omega arith)

-- ---- the lines that are cut

no_fields : (x u : Bool) (vs : Option (List (List ℕ))) → (x ≡ true) ⊎ (u ≡ false)
    → cond x Blank (cond (not u) NotText (cond (is_some vs) Fields NoFields)) ≡ Fields → ⊥
no_fields true u vs either e = absurd cc
no_fields false true vs (inl h) e = absurd cc
no_fields false true vs (inr h) e = absurd cc
no_fields false false vs either e = absurd cc

pub not_taken : (line rest : List ℕ) → rest ≡ trimmed line
    → ((length rest == 0) ≡ true) ⊎ (is_utf8 rest ≡ false) → IsBareLine line → ⊥
not_taken line rest is either taken =
    let same : rest_of line ≡ rest = bare_rest line taken.bare ∙ sym is in
    no_fields (is_empty rest) (is_utf8 rest) (values_of rest) (by rest either)
    (ap content_of (sym same) ∙ taken.content)
  where
    by : (r : List ℕ) → ((length r == 0) ≡ true) ⊎ (is_utf8 r ≡ false)
        → (is_empty r ≡ true) ⊎ (is_utf8 r ≡ false)
    by [] (inl h) = inl refl
    by (b ∷ bs) (inl h) = let none = eqb-true (length (b ∷ bs)) 0 h in absurd (omega arith)
    by r (inr h) = inr h

pub taken_bare : (line rest : List ℕ) → rest ≡ trimmed line → IsBareLine line
    → list_all is_bare rest ≡ true
taken_bare line rest is taken =
    subst (λ (t : List ℕ). list_all is_bare t ≡ true) (sym is) taken.bare

pub taken_few : (line : List ℕ) (fields : List (List ℕ)) → fields ≡ row_of (rest_of line)
    → IsBareLine line → length fields ≤ MOST_FIELDS
taken_few line fields is taken =
    subst (λ (f : List (List ℕ)). length f ≤ MOST_FIELDS) (sym is) taken.few
