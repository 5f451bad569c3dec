-- A line that is kept in part is of the same kind as the whole line.
use Rattle.std.proofs.Common.{◌≡◌, ℕ, ◌+◌, ◌-◌, ◌<◌, ◌≤◌, ◌⊎◌, inl, inr, Bool, true, false, cond}
use Rattle.std.proofs.Common.{◌&&◌, ◌||◌, eqb, ltb, List, [], ◌∷◌, ◌++◌, length, take, drop, get_or}
use Rattle.std.proofs.Common.{refl, sym, ap, ◌∙◌, subst, arith, append_assoc, length-append}
use Rattle.std.proofs.Common.{length-drop, nat_eq}
use Rattle.std.proofs.lemmas.Bool.{le-leb, lt-leb, lt-ltb}
use Rattle.std.proofs.Math.Seq.{take-append_seam, drop-append_seam, get_or-append_seam}
use Rattle.std.proofs.Math.Nat.{eq-or-lt_of_le}
use Rattle.std.proofs.lemmas.List.Folds.{list_all-append}
use Rattle.std.specs.List.{list_all, starts_with}
use Rattle.std.specs.Str.Lines.{strip_carriage_return}
use Rattle.geo_addr.specs.Lines.{byte_order_mark, is_blank, without_mark}
use Rattle.rpsl_reader.specs.Attributes.{Numbered, is_comment, is_end}
use Rattle.rpsl_reader.specs.Objects.{longest, size}
use Rattle.rpsl_reader.specs.Reading.{Group, ended_by, group_after, grown, line_of, most, none}
use Rattle.rpsl_reader.specs.Reading.{over, said_by, with_line, within}

-- what is kept of a line past `most` bytes: its front, and one byte for the others
pub record IsCut (p q : List ℕ) : Type 0 where
  pub front : List ℕ
  pub middle : List ℕ
  pub newest : ℕ
  pub front_length : length front ≡ most
  pub whole : p ≡ front ++ (middle ++ (newest ∷ []))
  pub kept : q ≡ front ++ (cond (list_all is_blank middle) newest 120 ∷ [])

-- the second is what is kept of the first
abbrev pub IsHeld : List ℕ → List ℕ → Type 0
IsHeld p q = ((p ≡ q) × (length p ≤ most)) ⊎ IsCut p q

pub grown_short : (q : List ℕ) (b : ℕ) → length q ≤ most → grown q b ≡ q ++ (b ∷ [])
unfolding grown
grown_short q b h =
    ap (λ t. cond t (q ++ (b ∷ []))
    (take most q ++ (cond (list_all is_blank (drop most q)) b 120 ∷ []))) (le-leb (length q) most h)

pub grown_long : (q : List ℕ) (b : ℕ) → most < length q
    → grown q b ≡ take most q ++ (cond (list_all is_blank (drop most q)) b 120 ∷ [])
unfolding grown
grown_long q b h =
    ap (λ t. cond t (q ++ (b ∷ []))
    (take most q ++ (cond (list_all is_blank (drop most q)) b 120 ∷ []))) (lt-leb (length q) most h)

blank_kept : (t : Bool) (z : ℕ)
    → list_all is_blank (cond t z 120 ∷ []) ≡ (t && list_all is_blank (z ∷ []))
blank_kept true z = refl
blank_kept false z = refl

pub front_taken : (xs ys : List ℕ) (n : ℕ) → length xs ≡ n → take n (xs ++ ys) ≡ xs
front_taken xs ys n e = subst (λ (k : ℕ). take k (xs ++ ys) ≡ xs) e (take-append_seam xs ys)

pub front_dropped : (xs ys : List ℕ) (n : ℕ) → length xs ≡ n → drop n (xs ++ ys) ≡ ys
front_dropped xs ys n e = subst (λ (k : ℕ). drop k (xs ++ ys) ≡ ys) e (drop-append_seam xs ys)

-- one more byte of a line of which a part is kept
grown_cut : (p q : List ℕ) (b : ℕ) → IsCut p q → IsCut (p ++ (b ∷ [])) (grown q b)
grown_cut p q b c =
    let w : ℕ = cond (list_all is_blank c.middle) c.newest 120 in
    let long : most < length q =
    rw c.kept (omega (arith, length-append c.front (w ∷ []), c.front_length)) in
    let front : take most q ≡ c.front =
    ap (λ t. take most t) c.kept ∙ front_taken c.front (w ∷ []) most c.front_length in
    let back : drop most q ≡ w ∷ [] =
    ap (λ t. drop most t) c.kept ∙ front_dropped c.front (w ∷ []) most c.front_length in
    let same : list_all is_blank (drop most q) ≡ list_all is_blank (c.middle ++ (c.newest ∷ [])) =
    ap (λ t. list_all is_blank t) back ∙ blank_kept (list_all is_blank c.middle) c.newest
    ∙ sym (list_all-append is_blank c.middle (c.newest ∷ [])) in
    record {
      front = c.front;
      middle = c.middle ++ (c.newest ∷ []);
      newest = b;
      front_length = c.front_length;
      whole = rw c.whole (append_assoc c.front (c.middle ++ (c.newest ∷ [])) (b ∷ []));
      kept = grown_long q b long ∙ (λ i. front i ++ (cond (same i) b 120 ∷ []));
    }

-- one more byte of a line that is kept whole so far
grown_whole : (p q : List ℕ) (b : ℕ) → p ≡ q → length p ≤ most → IsHeld (p ++ (b ∷ [])) (grown q b)
grown_whole p q b same short =
    let room : length q ≤ most = subst (λ (t : List ℕ). length t ≤ most) same short in
    let is : p ++ (b ∷ []) ≡ grown q b =
    ap (λ t. t ++ (b ∷ [])) same ∙ sym (grown_short q b room) in
    elim (eq-or-lt_of_le short) [
      | inl full ↦ inr (record {
        front = p;
        middle = [];
        newest = b;
        front_length = full;
        whole = refl;
        kept = sym is;
      })
      | inr less ↦ inl (is, omega (arith, length-append p (b ∷ [])))
    ]

pub grown_held : (p q : List ℕ) (b : ℕ) → IsHeld p q → IsHeld (p ++ (b ∷ [])) (grown q b)
grown_held p q b (inl whole) = grown_whole p q b whole.0 whole.1
grown_held p q b (inr c) = inr (grown_cut p q b c)

-- the line between two line feeds ends before its one carriage return
strip-push : (xs : List ℕ) (z : ℕ)
    → strip_carriage_return (xs ++ (z ∷ [])) ≡ cond (eqb z 13) xs (xs ++ (z ∷ []))
strip-push xs z =
    let end : length (xs ++ (z ∷ [])) - 1 ≡ length xs = omega (arith, length-append xs (z ∷ [])) in
    let byte : get_or (xs ++ (z ∷ [])) (length (xs ++ (z ∷ [])) - 1) 0 ≡ z =
    ap (λ k. get_or (xs ++ (z ∷ [])) k 0) end ∙ get_or-append_seam xs z [] 0 in
    let rest : take (length (xs ++ (z ∷ [])) - 1) (xs ++ (z ∷ [])) ≡ xs =
    ap (λ k. take k (xs ++ (z ∷ []))) end ∙ take-append_seam xs (z ∷ []) in
    λ i. cond (eqb (byte i) 13) (rest i) (xs ++ (z ∷ []))

and_true : (b : Bool) → (b && true) ≡ b
and_true true = refl
and_true false = refl

and_false : (b : Bool) → (b && false) ≡ false
and_false true = refl
and_false false = refl

-- whether a last byte leaves a line blank
abbrev blank_last : ℕ → Bool
blank_last z = eqb z 13 || is_blank z

end_by : (t : Bool) (xs : List ℕ) (z : ℕ)
    → is_end (cond t xs (xs ++ (z ∷ []))) ≡ (is_end xs && (t || is_blank z))
end_by true xs z = sym (and_true (is_end xs))
end_by false xs z =
    list_all-append is_blank xs (z ∷ []) ∙ ap (λ b. is_end xs && b) (and_true (is_blank z))

-- a line ends an object where all bytes are blank but the carriage return at its end
end-push : (xs : List ℕ) (z : ℕ)
    → is_end (strip_carriage_return (xs ++ (z ∷ []))) ≡ (is_end xs && blank_last z)
end-push xs z = ap is_end (strip-push xs z) ∙ end_by (eqb z 13) xs z

comment-push : (c : ℕ) (xs : List ℕ) (z : ℕ)
    → is_comment (strip_carriage_return ((c ∷ xs) ++ (z ∷ []))) ≡ is_comment (c ∷ [])
comment-push c xs z =
    ap is_comment (strip-push (c ∷ xs) z)
    ∙ elim (eqb z 13)
    as (λ t. is_comment (cond t (c ∷ xs) ((c ∷ xs) ++ (z ∷ []))) ≡ is_comment (c ∷ [])) [
      | true ↦ refl
      | false ↦ refl
    ]

long-push : (xs : List ℕ) (z : ℕ) → length xs ≤ length (strip_carriage_return (xs ++ (z ∷ [])))
long-push xs z =
    let by : (t : Bool) → length xs ≤ length (cond t xs (xs ++ (z ∷ []))) =
    λ t. elim t as (λ b. length xs ≤ length (cond b xs (xs ++ (z ∷ [])))) [
      | true ↦ omega arith
      | false ↦ omega (arith, length-append xs (z ∷ []))
    ] in
    subst (λ (l : List ℕ). length xs ≤ length l) (sym (strip-push xs z)) (by (eqb z 13))

-- a line of a text, before the carriage return is dropped
abbrev marked : ℕ → List ℕ → List ℕ
marked n p = cond (eqb n 1) (without_mark p) p

-- the mark lies in the first three bytes
marked-front : (n : ℕ) (front r : List ℕ) → 3 ≤ length front
    → marked n (front ++ r) ≡ marked n front ++ r
marked-front n [] r h = absurd (omega arith)
marked-front n (x ∷ []) r h = absurd (omega arith)
marked-front n (x ∷ y ∷ []) r h = absurd (omega arith)
marked-front n (x ∷ y ∷ z ∷ front) r h =
    elim (eqb n 1)
    as (λ t. cond t (without_mark (x ∷ y ∷ z ∷ (front ++ r))) (x ∷ y ∷ z ∷ (front ++ r))
    ≡ cond t (without_mark (x ∷ y ∷ z ∷ front)) (x ∷ y ∷ z ∷ front) ++ r) [
      | true ↦ elim (starts_with nat_eq (x ∷ y ∷ z ∷ []) byte_order_mark) as (λ t.
          cond t (front ++ r) (x ∷ y ∷ z ∷ (front ++ r)) ≡ cond t front (x ∷ y ∷ z ∷ front) ++ r) [
            | true ↦ refl
            | false ↦ refl
          ]
      | false ↦ refl
    ]

marked_long : (n : ℕ) (front : List ℕ) → length front ≤ length (marked n front) + 3
marked_long n front =
    elim (eqb n 1) as (λ t. length front ≤ length (cond t (without_mark front) front) + 3) [
      | true ↦ elim (starts_with nat_eq front byte_order_mark)
          as (λ t. length front ≤ length (cond t (drop 3 front) front) + 3) [
            | true ↦ omega (arith, length-drop 3 front)
            | false ↦ omega arith
          ]
      | false ↦ omega arith
    ]

-- two lines of one number and one kind, which have the same bytes or are
-- both longer than a group may be
pub record AlikeLine (l m : Numbered) : Type 0 where
  pub number : l.0 ≡ m.0
  pub comment : is_comment l.1 ≡ is_comment m.1
  pub ends : is_end l.1 ≡ is_end m.1
  pub text : (l.1 ≡ m.1) ⊎ ((longest < length l.1) × (longest < length m.1))

-- the kind of a line whose front is long
comment_front : (a m : List ℕ) (z w : ℕ)
    → 0 < length a → is_comment (strip_carriage_return (a ++ (m ++ (z ∷ []))))
    ≡ is_comment (strip_carriage_return (a ++ (w ∷ [])))
comment_front [] m z w h = absurd (omega arith)
comment_front (c ∷ a) m z w h =
    ap (λ t. is_comment (strip_carriage_return t)) (sym (append_assoc (c ∷ a) m (z ∷ [])))
    ∙ comment-push c (a ++ m) z ∙ sym (comment-push c a w)

end_front : (a m : List ℕ) (z : ℕ) → is_end (strip_carriage_return (a ++ (m ++ (z ∷ []))))
    ≡ is_end (strip_carriage_return (a ++ (cond (list_all is_blank m) z 120 ∷ [])))
end_front a m z =
    let by : (t : Bool)
    → ((is_end a && t) && blank_last z) ≡ (is_end a && blank_last (cond t z 120)) =
    λ t.
    elim t as (λ b. ((is_end a && b) && blank_last z) ≡ (is_end a && blank_last (cond b z 120))) [
      | true ↦ ap (λ b. b && blank_last z) (and_true (is_end a))
      | false ↦ ap (λ b. b && blank_last z) (and_false (is_end a)) ∙ sym (and_false (is_end a))
    ] in
    ap (λ t. is_end (strip_carriage_return t)) (sym (append_assoc a m (z ∷ [])))
    ∙ end-push (a ++ m) z
    ∙ ap (λ b. b && blank_last z) (list_all-append is_blank a m)
    ∙ by (list_all is_blank m)
    ∙ sym (end-push a (cond (list_all is_blank m) z 120))

cut_alike : (n : ℕ) (p q : List ℕ) → IsCut p q → AlikeLine (line_of n p) (line_of n q)
unfolding line_of
cut_alike n p q c =
    let w : ℕ = cond (list_all is_blank c.middle) c.newest 120 in
    let a : List ℕ = marked n c.front in
    let few : 3 ≤ length c.front = omega (arith, c.front_length) in
    let long : longest < length a = omega (arith, c.front_length, marked_long n c.front) in
    let first : marked n p ≡ a ++ (c.middle ++ (c.newest ∷ [])) =
    ap (marked n) c.whole ∙ marked-front n c.front (c.middle ++ (c.newest ∷ [])) few in
    let second : marked n q ≡ a ++ (w ∷ []) =
    ap (marked n) c.kept ∙ marked-front n c.front (w ∷ []) few in
    record {
      number = refl;
      comment =
          ap (λ t. is_comment (strip_carriage_return t)) first
          ∙ comment_front a c.middle c.newest w (omega arith)
          ∙ sym (ap (λ t. is_comment (strip_carriage_return t)) second);
      ends =
          ap (λ t. is_end (strip_carriage_return t)) first ∙ end_front a c.middle c.newest
          ∙ sym (ap (λ t. is_end (strip_carriage_return t)) second);
      text = inr (
        subst (λ (t : List ℕ). longest < length (strip_carriage_return t))
            (sym (first ∙ sym (append_assoc a c.middle (c.newest ∷ []))))
            (omega (arith, long-push (a ++ c.middle) c.newest, length-append a c.middle)),
        subst (λ (t : List ℕ). longest < length (strip_carriage_return t)) (sym second)
            (omega (arith, long-push a w)),
      );
    }

pub same_alike : (l m : Numbered) → l ≡ m → AlikeLine l m
same_alike l m e = record {
  number = ap (λ k. k.0) e;
  comment = ap (λ k. is_comment k.1) e;
  ends = ap (λ k. is_end k.1) e;
  text = inl (ap (λ k. k.1) e);
}

-- what is kept of a line makes a line like it
pub held_alike : (n : ℕ) (p q : List ℕ) → IsHeld p q → AlikeLine (line_of n p) (line_of n q)
held_alike n p q (inl whole) = same_alike (line_of n p) (line_of n q) (ap (line_of n) whole.0)
held_alike n p q (inr c) = cut_alike n p q c

-- a group takes no notice of which of two such lines comes
long_line : (ls : List Numbered) (l : Numbered) → longest < length l.1
    → ltb longest (size ls + length l.1) ≡ true
long_line ls l h = lt-ltb longest (size ls + length l.1) (omega arith)

with_alike : (g : Group) (l m : Numbered) → AlikeLine l m → with_line g l ≡ with_line g m
unfolding with_line
with_alike (over n) l m a = refl
with_alike (within []) l m a = elim a.text [
  | inl e ↦ λ i. cond (ltb longest (size [] + length (e i))) (over (a.number i))
      (within ([] ++ ((a.number i, e i) ∷ [])))
  | inr h ↦
      ap (λ t. cond t (over l.0) (within ([] ++ (l ∷ [])))) (long_line [] l h.0) ∙ ap over a.number
      ∙ sym (ap (λ t. cond t (over m.0) (within ([] ++ (m ∷ [])))) (long_line [] m h.1))
]
with_alike (within (k ∷ ks)) l m a = elim a.text [
  | inl e ↦ λ i. cond (ltb longest (size (k ∷ ks) + length (e i))) (over k.0)
      (within ((k ∷ ks) ++ ((a.number i, e i) ∷ [])))
  | inr h ↦ ap (λ t. cond t (over k.0) (within ((k ∷ ks) ++ (l ∷ [])))) (long_line (k ∷ ks) l h.0)
      ∙ sym (ap (λ t. cond t (over k.0) (within ((k ∷ ks) ++ (m ∷ [])))) (long_line (k ∷ ks) m h.1))
]

pub after_alike : (g : Group) (l m : Numbered) → AlikeLine l m → group_after g l ≡ group_after g m
unfolding group_after
after_alike g l m a = λ i. cond (a.comment i) g (cond (a.ends i) none (with_alike g l m a i))

pub ended_alike : (g : Group) (l m : Numbered) → AlikeLine l m → ended_by g l ≡ ended_by g m
unfolding ended_by
ended_alike g l m a = λ i. cond (a.comment i) [] (cond (a.ends i) (said_by g) [])
