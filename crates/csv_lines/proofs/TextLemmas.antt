-- The fields of a line are UTF-8 where the line is, and have neither `#` nor line ends,
-- and no blanks at their ends.
use Rattle.std.proofs.Common.{inl, inr, ◌≡◌, ℕ, zero, suc, ◌+◌, ◌-◌, ◌<◌, ◌≤◌, Bool, true, false}
use Rattle.std.proofs.Common.{not, cond, ◌&&◌, ◌==◌, List, [], ◌∷◌, ◌++◌, length, map, take, drop}
use Rattle.std.proofs.Common.{reverse, get_or, Some, None, refl, sym, ap, ◌∙◌, subst, ne_eqb, arith}
use Rattle.std.specs.Prelude.{IsUtf8, is_some, option_map}
use Rattle.std.specs.Str.{is_utf8}
use Rattle.std.specs.List.{list_all, onto_first, prefix_len}
use Rattle.std.proofs.lemmas.Bool.{and_parts, cases_Bool, cases_eq, eqb-true}
use Rattle.std.proofs.lemmas.List.{append_assoc, append-nil, reverse-append, reverse-reverse}
use Rattle.std.proofs.lemmas.List.{length-reverse, take-append-drop, length-drop}
use Rattle.std.proofs.lemmas.Str.{IsCharBoundary-after_ascii, IsCharBoundary-before_ascii}
use Rattle.std.proofs.lemmas.Str.{IsUtf8-append, IsUtf8-drop, IsUtf8-from_is_utf8, IsUtf8-nil}
use Rattle.std.proofs.lemmas.Str.{IsUtf8-take}
use Rattle.geo_addr.specs.Lines.{is_blank, pieces, trimmed, trimmed_end, trimmed_start}
use Rattle.geo_terms.specs.PlaceForm.{is_empty}
use Rattle.csv_lines.specs.Clean.{FieldsAreTexts, is_clean}
use Rattle.csv_lines.specs.Fields.{Field, Plain, Quoted, fields, is_inner, scan, value, values_of}
use Rattle.csv_lines.specs.Fields.{with_byte, with_plain, with_quoted}
use Rattle.csv_lines.specs.Rests.{first_piece, rest_of, row_of}
use Rattle.csv_lines.specs.declared.rest.Content.TheVariants.{Blank, NotText, NoFields, Fields}
use Rattle.csv_lines.specs.declared.scan.Spot.{Spot}
use Rattle.csv_lines.specs.declared.scan.Spot.TheVariants.{Start, Inside, Within, Closed}
use Rattle.csv_lines.proofs.CsvLemmas.{grown, grown_byte, grown_none, map_some}
use Rattle.csv_lines.proofs.RestLemmas.{has_row}

-- ---- cuts at ASCII bytes

at_seam : (xs : List ℕ) (b : ℕ) (ys : List ℕ)
    → (take (length xs) (xs ++ (b ∷ ys)) ≡ xs) × (drop (length xs + 1) (xs ++ (b ∷ ys)) ≡ ys)
    × (get_or (xs ++ (b ∷ ys)) (length xs) 0 ≡ b) × (length xs < length (xs ++ (b ∷ ys)))
at_seam [] b ys = (refl, refl, refl, omega arith)
at_seam (x ∷ xs) b ys =
    let (before, after, at, within) = at_seam xs b ys in
    let adds : suc (length xs) + 1 ≡ suc (length xs + 1) = omega arith in
    (ap (λ t. x ∷ t) before, rw adds after, at, omega (arith, within))

pub cut_ascii : (xs : List ℕ) (b : ℕ) (ys : List ℕ) → b < 128
    → IsUtf8 (xs ++ (b ∷ ys)) → IsUtf8 xs × IsUtf8 ys
cut_ascii xs b ys ascii u =
    let (before, after, at, within) = at_seam xs b ys in
    let text = xs ++ (b ∷ ys) in
    let low : get_or text (length xs) 0 < 128 = rw at ascii in (
      subst IsUtf8 before (IsUtf8-take text (length xs) u
          (IsCharBoundary-before_ascii text (length xs) within low)),
      subst IsUtf8 after (IsUtf8-drop text (length xs + 1) u
          (IsCharBoundary-after_ascii text (length xs) u within low)),
    )

-- ---- texts without the blanks at their ends

blank_ascii : (b : ℕ) → is_blank b ≡ true → b < 128
blank_ascii b e = elim (cases_Bool (b == 32)) [
  | inl s ↦ let f = eqb-true b 32 s in omega arith
  | inr s ↦ let f = eqb-true b 9 (rw s at e) in omega arith
]

-- what is left behind the bytes that pass begins with none
none_left : (p : ℕ → Bool) (xs : List ℕ) → prefix_len p (drop (prefix_len p xs) xs) ≡ 0
none_left p [] = refl
none_left p (x ∷ xs) = by (p x) refl (none_left p xs)
  where
    by : (b : Bool) → p x ≡ b → prefix_len p (drop (prefix_len p xs) xs) ≡ 0
        → prefix_len p (drop (cond b (1 + prefix_len p xs) 0) (x ∷ xs)) ≡ 0
    by true e later =
        let adds : 1 + prefix_len p xs ≡ suc (prefix_len p xs) = omega arith in
        rw adds later
    by false e later = rw e refl

prefix_le : (p : ℕ → Bool) (xs : List ℕ) → prefix_len p xs ≤ length xs
prefix_le p [] = omega arith
prefix_le p (x ∷ xs) = by (p x) (prefix_le p xs)
  where
    by : (b : Bool) → prefix_len p xs ≤ length xs → cond b (1 + prefix_len p xs) 0 ≤ length (x ∷ xs)
    by true le = omega arith
    by false le = omega arith

drop_front : (xs ys : List ℕ) → drop (length xs) (xs ++ ys) ≡ ys
drop_front [] ys = refl
drop_front (x ∷ xs) ys = drop_front xs ys

length_rest : (i : ℕ) (xs : List ℕ) → length (drop i xs) ≡ length xs - i
length_rest i xs = omega (arith, length-drop i xs)

-- blanks are taken from the end as they are from the start, the other way round
pub end_is : (xs : List ℕ)
    → trimmed_end xs ≡ reverse (drop (prefix_len is_blank (reverse xs)) (reverse xs))
end_is xs =
    let count = prefix_len is_blank (reverse xs) in
    let left = length xs - count in
    let few : count ≤ length xs = rw (length-reverse xs) at (prefix_le is_blank (reverse xs)) in
    let turned : reverse xs ≡ reverse (drop left xs) ++ reverse (take left xs) =
    ap reverse (sym (take-append-drop left xs)) ∙ reverse-append (take left xs) (drop left xs) in
    let long : length (reverse (drop left xs)) ≡ count =
    length-reverse (drop left xs) ∙ (omega (arith, length_rest left xs)) in
    let rest : drop count (reverse xs) ≡ reverse (take left xs) =
    ap (drop count) turned
    ∙ ap (λ n. drop n (reverse (drop left xs) ++ reverse (take left xs))) (sym long)
    ∙ drop_front (reverse (drop left xs)) (reverse (take left xs)) in
    sym (ap reverse rest ∙ reverse-reverse (take left xs))

start_utf8 : (xs : List ℕ) → IsUtf8 xs → IsUtf8 (trimmed_start xs)
start_utf8 [] u = u
start_utf8 (x ∷ xs) u = by (is_blank x) refl (start_utf8 xs)
  where
    by : (b : Bool) → is_blank x ≡ b → (IsUtf8 xs → IsUtf8 (trimmed_start xs))
        → IsUtf8 (drop (cond b (1 + prefix_len is_blank xs) 0) (x ∷ xs))
    by true e more =
        let adds : 1 + prefix_len is_blank xs ≡ suc (prefix_len is_blank xs) = omega arith in
        rw adds (more (cut_ascii [] x xs (blank_ascii x e) u).1)
    by false e more = u

end_utf8 : (zs : List ℕ) → IsUtf8 (reverse zs) → IsUtf8 (reverse (drop (prefix_len is_blank zs) zs))
end_utf8 [] u = u
end_utf8 (z ∷ zs) u = by (is_blank z) refl (end_utf8 zs)
  where
    by : (b : Bool) → is_blank z ≡ b
        → (IsUtf8 (reverse zs) → IsUtf8 (reverse (drop (prefix_len is_blank zs) zs)))
        → IsUtf8 (reverse (drop (cond b (1 + prefix_len is_blank zs) 0) (z ∷ zs)))
    by true e more =
        let adds : 1 + prefix_len is_blank zs ≡ suc (prefix_len is_blank zs) = omega arith in
        rw adds (more (cut_ascii (reverse zs) z [] (blank_ascii z e)
        (subst IsUtf8 (reverse-append (z ∷ []) zs) u)).0)
    by false e more = u

trimmed_utf8 : (xs : List ℕ) → IsUtf8 xs → IsUtf8 (trimmed xs)
trimmed_utf8 xs u =
    let start = trimmed_start xs in
    subst IsUtf8 (sym (end_is start))
    (end_utf8 (reverse start) (subst IsUtf8 (sym (reverse-reverse start)) (start_utf8 xs u)))

-- ---- what holds of each byte

pub all_drop : (q : ℕ → Bool) (n : ℕ) (xs : List ℕ) → list_all q xs ≡ true
    → list_all q (drop n xs) ≡ true
all_drop q zero xs e = e
all_drop q (suc n) [] e = e
all_drop q (suc n) (x ∷ xs) e = all_drop q n xs (and_parts (q x) (list_all q xs) e).1

pub all_take : (q : ℕ → Bool) (n : ℕ) (xs : List ℕ) → list_all q xs ≡ true
    → list_all q (take n xs) ≡ true
all_take q zero xs e = refl
all_take q (suc n) [] e = e
all_take q (suc n) (x ∷ xs) e =
    let (one, more) = and_parts (q x) (list_all q xs) e in
    rw (one, all_take q n xs more) refl

pub trimmed_all : (q : ℕ → Bool) (xs : List ℕ) → list_all q xs ≡ true
    → list_all q (trimmed xs) ≡ true
trimmed_all q xs e = all_take q _ (trimmed_start xs) (all_drop q (prefix_len is_blank xs) xs e)

prefix_of_take : (p : ℕ → Bool) (n : ℕ) (xs : List ℕ) → prefix_len p xs ≡ 0
    → prefix_len p (take n xs) ≡ 0
prefix_of_take p zero xs e = refl
prefix_of_take p (suc n) [] e = e
prefix_of_take p (suc n) (x ∷ xs) e = by (p x) refl e
  where
    by : (b : Bool) → p x ≡ b → cond b (1 + prefix_len p xs) 0 ≡ 0
        → cond b (1 + prefix_len p (take n xs)) 0 ≡ 0
    by true f h = absurd (omega arith)
    by false f h = refl

clean_ends : (xs : List ℕ)
    → (prefix_len is_blank (trimmed xs) ≡ 0) × (prefix_len is_blank (reverse (trimmed xs)) ≡ 0)
clean_ends xs =
    let start = trimmed_start xs in (
      prefix_of_take is_blank _ start (none_left is_blank xs),
      ap (λ t. prefix_len is_blank (reverse t)) (end_is start) ∙ ap (prefix_len is_blank)
          (reverse-reverse (drop (prefix_len is_blank (reverse start)) (reverse start)))
          ∙ none_left is_blank (reverse start),
    )

-- ---- the values of the fields of a text

abbrev Every : (List ℕ → Type 0) → List (List ℕ) → Type 0
Every P [] = Unit {0}
Every P (v ∷ vs) = P v × Every P vs

every_at : (P : List ℕ → Type 0) (vs : List (List ℕ)) → Every P vs → P []
    → (i : ℕ) → P (get_or vs i [])
every_at P [] all none zero = none
every_at P [] all none (suc i) = none
every_at P (v ∷ vs) all none zero = all.0
every_at P (v ∷ vs) all none (suc i) = every_at P vs all.1 none i

IsAll : (ℕ → Bool) → List ℕ → Type 0
IsAll q v = list_all q v ≡ true

with_byte_all : (q : ℕ → Bool) (b : ℕ) (fs : List Field) → q b ≡ true
    → Every (IsAll q) (map value fs) → Every (IsAll q) (map value (with_byte b fs))
unfolding IsAll
with_byte_all q b [] e all = all
with_byte_all q b (Plain x ∷ more) e all = (rw (e, all.0) refl, all.1)
with_byte_all q b (Quoted x ∷ more) e all = (rw (e, all.0) refl, all.1)

value_bytes : (q : ℕ → Bool) (s : Spot) (text : List ℕ) (fs : List Field) → list_all q text ≡ true
    → scan s text ≡ Some fs → Every (IsAll q) (map value fs)
unfolding scan IsAll
value_bytes q Start [] fs i e =
    subst (λ (t : List Field). Every (λ v. list_all q v ≡ true) (map value t))
    (let f : (Plain [] ∷ []) ≡ fs = cc in f) (refl, tt)
value_bytes q Inside [] fs i e =
    subst (λ (t : List Field). Every (λ v. list_all q v ≡ true) (map value t))
    (let f : (Plain [] ∷ []) ≡ fs = cc in f) (refl, tt)
value_bytes q Within [] fs i e = absurd cc
value_bytes q Closed [] fs i e =
    subst (λ (t : List Field). Every (λ v. list_all q v ≡ true) (map value t))
    (let f : (Quoted [] ∷ []) ≡ fs = cc in f) (refl, tt)
value_bytes q Start (b ∷ bs) fs i e =
    let (one, all) = and_parts (q b) (list_all q bs) i in
    elim (cases_eq b 34) [
      | inl quote ↦ value_bytes q Within bs fs all (rw quote at e)
      | inr quote ↦ elim (cases_eq b 44) [
        | inl comma ↦
            let (more, is, made) = map_some with_plain (scan Start bs) fs (rw comma at e) in
            subst (λ (t : List Field). Every (λ v. list_all q v ≡ true) (map value t)) made
            (refl, value_bytes q Start bs more all is)
        | inr comma ↦
            let (more, is, made) = map_some (with_byte b) (scan Inside bs) fs
            (rw (ne_eqb b 34 quote, ne_eqb b 44 comma) at e) in
            subst (λ (t : List Field). Every (λ v. list_all q v ≡ true) (map value t)) made
            (with_byte_all q b more one (value_bytes q Inside bs more all is))
      ]
    ]
value_bytes q Inside (b ∷ bs) fs i e =
    let (one, all) = and_parts (q b) (list_all q bs) i in
    elim (cases_eq b 34) [
      | inl quote ↦ absurd (let f = rw quote at e in cc)
      | inr quote ↦ elim (cases_eq b 44) [
        | inl comma ↦
            let (more, is, made) = map_some with_plain (scan Start bs) fs (rw comma at e) in
            subst (λ (t : List Field). Every (λ v. list_all q v ≡ true) (map value t)) made
            (refl, value_bytes q Start bs more all is)
        | inr comma ↦
            let (more, is, made) = map_some (with_byte b) (scan Inside bs) fs
            (rw (ne_eqb b 34 quote, ne_eqb b 44 comma) at e) in
            subst (λ (t : List Field). Every (λ v. list_all q v ≡ true) (map value t)) made
            (with_byte_all q b more one (value_bytes q Inside bs more all is))
      ]
    ]
value_bytes q Within (b ∷ bs) fs i e =
    let (one, all) = and_parts (q b) (list_all q bs) i in
    elim (cases_eq b 34) [
      | inl quote ↦ value_bytes q Closed bs fs all (rw quote at e)
      | inr quote ↦
          let (more, is, made) =
          map_some (with_byte b) (scan Within bs) fs (rw (ne_eqb b 34 quote) at e) in
          subst (λ (t : List Field). Every (λ v. list_all q v ≡ true) (map value t)) made
          (with_byte_all q b more one (value_bytes q Within bs more all is))
    ]
value_bytes q Closed (b ∷ bs) fs i e =
    let (one, all) = and_parts (q b) (list_all q bs) i in
    elim (cases_eq b 34) [
      | inl quote ↦
          let (more, is, made) = map_some (with_byte 34) (scan Within bs) fs (rw quote at e) in
          subst (λ (t : List Field). Every (λ v. list_all q v ≡ true) (map value t)) made
          (with_byte_all q 34 more (sym (ap q quote) ∙ one) (value_bytes q Within bs more all is))
      | inr quote ↦ elim (cases_eq b 44) [
        | inl comma ↦
            let (more, is, made) = map_some with_quoted (scan Start bs) fs (rw comma at e) in
            subst (λ (t : List Field). Every (λ v. list_all q v ≡ true) (map value t)) made
            (refl, value_bytes q Start bs more all is)
        | inr comma ↦ absurd (let f = rw (ne_eqb b 34 quote, ne_eqb b 44 comma) at e in cc)
      ]
    ]

-- ---- the values of a UTF-8 text are UTF-8

value_utf8 : (s : Spot) (part text : List ℕ) (fs : List Field)
    → IsUtf8 (part ++ text) → scan s text ≡ Some fs → Every IsUtf8 (grown part (map value fs))
unfolding scan grown
value_utf8 Start part [] fs u e =
    subst (λ (t : List Field). Every IsUtf8 (grown part (map value t)))
    (let f : (Plain [] ∷ []) ≡ fs = cc in f) (u, tt)
value_utf8 Inside part [] fs u e =
    subst (λ (t : List Field). Every IsUtf8 (grown part (map value t)))
    (let f : (Plain [] ∷ []) ≡ fs = cc in f) (u, tt)
value_utf8 Within part [] fs u e = absurd cc
value_utf8 Closed part [] fs u e =
    subst (λ (t : List Field). Every IsUtf8 (grown part (map value t)))
    (let f : (Quoted [] ∷ []) ≡ fs = cc in f) (u, tt)
value_utf8 Start part (b ∷ bs) fs u e =
    elim (cases_eq b 34) [
      | inl quote ↦
          let (before, after) = cut_ascii part b bs (omega arith) u in
          value_utf8 Within part bs fs (IsUtf8-append part bs before after) (rw quote at e)
      | inr quote ↦ elim (cases_eq b 44) [
        | inl comma ↦
            let (before, after) = cut_ascii part b bs (omega arith) u in
            let (more, is, made) = map_some with_plain (scan Start bs) fs (rw comma at e) in
            subst (λ (t : List Field). Every IsUtf8 (grown part (map value t))) made (
              subst IsUtf8 (sym (append-nil part)) before,
              subst (Every IsUtf8) (grown_none (map value more))
                  (value_utf8 Start [] bs more after is),
            )
        | inr comma ↦
            let (more, is, made) = map_some (with_byte b) (scan Inside bs) fs
            (rw (ne_eqb b 34 quote, ne_eqb b 44 comma) at e) in
            subst (λ (t : List Field). Every IsUtf8 (grown part (map value t))) made
            (subst (Every IsUtf8) (grown_byte part b more) (value_utf8 Inside
            (part ++ (b ∷ [])) bs more (subst IsUtf8 (sym (append_assoc part (b ∷ []) bs)) u) is))
      ]
    ]
value_utf8 Inside part (b ∷ bs) fs u e =
    elim (cases_eq b 34) [
      | inl quote ↦ absurd (let f = rw quote at e in cc)
      | inr quote ↦ elim (cases_eq b 44) [
        | inl comma ↦
            let (before, after) = cut_ascii part b bs (omega arith) u in
            let (more, is, made) = map_some with_plain (scan Start bs) fs (rw comma at e) in
            subst (λ (t : List Field). Every IsUtf8 (grown part (map value t))) made (
              subst IsUtf8 (sym (append-nil part)) before,
              subst (Every IsUtf8) (grown_none (map value more))
                  (value_utf8 Start [] bs more after is),
            )
        | inr comma ↦
            let (more, is, made) = map_some (with_byte b) (scan Inside bs) fs
            (rw (ne_eqb b 34 quote, ne_eqb b 44 comma) at e) in
            subst (λ (t : List Field). Every IsUtf8 (grown part (map value t))) made
            (subst (Every IsUtf8) (grown_byte part b more) (value_utf8 Inside
            (part ++ (b ∷ [])) bs more (subst IsUtf8 (sym (append_assoc part (b ∷ []) bs)) u) is))
      ]
    ]
value_utf8 Within part (b ∷ bs) fs u e =
    elim (cases_eq b 34) [
      | inl quote ↦
          let (before, after) = cut_ascii part b bs (omega arith) u in
          value_utf8 Closed part bs fs (IsUtf8-append part bs before after) (rw quote at e)
      | inr quote ↦
          let (more, is, made) =
          map_some (with_byte b) (scan Within bs) fs (rw (ne_eqb b 34 quote) at e) in
          subst (λ (t : List Field). Every IsUtf8 (grown part (map value t))) made
          (subst (Every IsUtf8) (grown_byte part b more) (value_utf8 Within
          (part ++ (b ∷ [])) bs more (subst IsUtf8 (sym (append_assoc part (b ∷ []) bs)) u) is))
    ]
value_utf8 Closed part (b ∷ bs) fs u e =
    elim (cases_eq b 34) [
      | inl quote ↦
          let (more, is, made) = map_some (with_byte 34) (scan Within bs) fs (rw quote at e) in
          subst (λ (t : List Field). Every IsUtf8 (grown part (map value t))) made
          (subst (Every IsUtf8) (grown_byte part 34 more) (value_utf8 Within (part ++ (34 ∷ [])) bs
          more (subst IsUtf8 (sym (append_assoc part (34 ∷ []) bs)) (rw quote at u)) is))
      | inr quote ↦ elim (cases_eq b 44) [
        | inl comma ↦
            let (before, after) = cut_ascii part b bs (omega arith) u in
            let (more, is, made) = map_some with_quoted (scan Start bs) fs (rw comma at e) in
            subst (λ (t : List Field). Every IsUtf8 (grown part (map value t))) made (
              subst IsUtf8 (sym (append-nil part)) before,
              subst (Every IsUtf8) (grown_none (map value more))
                  (value_utf8 Start [] bs more after is),
            )
        | inr comma ↦ absurd (let f = rw (ne_eqb b 34 quote, ne_eqb b 44 comma) at e in cc)
      ]
    ]

-- ---- the fields of a line

onto_free : (q : ℕ → Bool) (b : ℕ) (ps : List (List ℕ)) → q b ≡ true
    → list_all q (first_piece ps) ≡ true → list_all q (first_piece (onto_first b ps)) ≡ true
onto_free q b [] e f = rw e refl
onto_free q b (p ∷ ps) e f = rw (e, f) refl

-- a first piece before `#` has none
first_free : (text : List ℕ) → list_all (λ b. not (b == 35)) (first_piece (pieces 35 text)) ≡ true
first_free [] = refl
first_free (b ∷ bs) = by (b == 35) refl (first_free bs)
  where
    by : (x : Bool) → (b == 35) ≡ x
        → list_all (λ b. not (b == 35)) (first_piece (pieces 35 bs)) ≡ true
        → list_all (λ b. not (b == 35))
        (first_piece (cond x ([] ∷ pieces 35 bs) (onto_first b (pieces 35 bs)))) ≡ true
    by true e later = refl
    by false e later = onto_free (λ b. not (b == 35)) b (pieces 35 bs) (rw e refl) later

text_of_rest : (rest : List ℕ) (u : Bool) → is_utf8 rest ≡ u → cond (is_empty rest) Blank
    (cond (not u) NotText (cond (is_some (values_of rest)) Fields NoFields)) ≡ Fields → IsUtf8 rest
text_of_rest [] u is e = absurd cc
text_of_rest (b ∷ bs) true is e = IsUtf8-from_is_utf8 (b ∷ bs) is
text_of_rest (b ∷ bs) false is e = absurd cc

inner_of : (rest : List ℕ) (vs : List (List ℕ)) → values_of rest ≡ Some vs
    → (list_all is_inner rest ≡ true) × (option_map (map value) (fields rest) ≡ Some vs)
inner_of rest vs e = by (list_all is_inner rest) refl e
  where
    by : (x : Bool)
        → list_all is_inner rest ≡ x → cond x (option_map (map value) (fields rest)) None ≡ Some vs
        → (list_all is_inner rest ≡ true) × (option_map (map value) (fields rest) ≡ Some vs)
    by true i h = (i, h)
    by false i h = absurd cc

pub both_all : (p q : ℕ → Bool) (xs : List ℕ) → list_all p xs ≡ true → list_all q xs ≡ true
    → list_all (λ b. p b && q b) xs ≡ true
both_all p q [] e f = refl
both_all p q (x ∷ xs) e f =
    let (one, more) = and_parts (p x) (list_all p xs) e in
    let (two, rest) = and_parts (q x) (list_all q xs) f in
    rw (one, two, both_all p q xs more rest) refl

pub fields_are_texts : FieldsAreTexts
unfolding IsAll
fields_are_texts line e =
    let rest = rest_of line in
    let row = row_of rest in
    let utf8 = text_of_rest rest (is_utf8 rest) refl e in
    let (some, values) = has_row rest e in
    let (inner, mapped) = inner_of rest row values in
    let (fs, is, made) = map_some (map value) (fields rest) row mapped in
    let texts : Every IsUtf8 row =
    subst (Every IsUtf8) (grown_none (map value fs) ∙ made) (value_utf8 Start [] rest fs utf8 is) in
    let free : list_all (λ b. not (b == 35)) rest ≡ true =
    trimmed_all (λ b. not (b == 35)) (first_piece (pieces 35 line)) (first_free line) in
    let clean : Every (IsAll is_clean) row =
    subst (Every (IsAll is_clean)) made (value_bytes is_clean Start rest fs
    (both_all (λ b. not (b == 35)) is_inner rest free inner) is) in
    record {
      utf8 = λ i. trimmed_utf8 (get_or row i []) (every_at IsUtf8 row texts IsUtf8-nil i);
      clean = λ i.
          let ends = clean_ends (get_or row i []) in
          record {
            bytes =
                trimmed_all is_clean (get_or row i []) (every_at (IsAll is_clean) row clean refl i);
            start = ends.0;
            end = ends.1;
          };
    }
