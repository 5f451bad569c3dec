-- What is given on the way and at the end is what the whole text says.
use Rattle.std.proofs.Common.{◌≡◌, ℕ, ◌+◌, ◌<◌, inl, Bool, true, false, cond, ◌&&◌, not, eqb, ltb}
use Rattle.std.proofs.Common.{List, [], ◌∷◌, ◌++◌, length, drop, filter, flat_map, refl, sym, ap}
use Rattle.std.proofs.Common.{◌∙◌, subst, arith, append_assoc, append-nil, nat_eq, zero-add}
use Rattle.std.proofs.lemmas.Bool.{lt-ltb, ltb-true, ne_eqb}
use Rattle.std.proofs.lemmas.Bool.Decides.{nat_tests}
use Rattle.std.proofs.lemmas.List.Sums.{sum_by-append}
use Rattle.std.specs.List.{concat, enumerate_from, onto_first, slice_split, starts_with}
use Rattle.std.specs.Str.Lines.{strip_carriage_return}
use Rattle.geo_addr.specs.Lines.{byte_order_mark, last_line, lines_of_pieces, numbered_lines}
use Rattle.geo_addr.specs.Lines.{pieces, without_mark}
use Rattle.rpsl_reader.specs.declared.item.Item.{Item}
use Rattle.rpsl_reader.specs.Attributes.{Numbered, is_comment, is_end}
use Rattle.rpsl_reader.specs.Laws.{AnyCutting, GivenIsWhole, given_in_pieces}
use Rattle.rpsl_reader.specs.Objects.{group_items, groups, items, longest, objects, size, too_long}
use Rattle.rpsl_reader.specs.Reading.{Group, State, after, ended_by, first_number, given}
use Rattle.rpsl_reader.specs.Reading.{group_after, grown, last, line_of, none, over, said_by, start}
use Rattle.rpsl_reader.specs.Reading.{with_line, within}
use Rattle.rpsl_reader.proofs.Pieces.{after-append, given-append}
use Rattle.rpsl_reader.proofs.Shortened.{AlikeLine, IsHeld, after_alike, ended_alike, grown_held}
use Rattle.rpsl_reader.proofs.Shortened.{held_alike}

-- what an open group and the lines behind it give, the end of the text included
from : Group → List Numbered → List Item
from g [] = said_by g
from g (l ∷ ls) = ended_by g l ++ from (group_after g l) ls

-- the lines that pieces between line feeds are, behind so many others
unfoldable pub lined : ℕ → List (List ℕ) → List Numbered
lined n [] = []
lined n (p ∷ ps) = line_of (n + 1) p ∷ lined (n + 1) ps

-- a list put before the first of some
module _ {X : Type 0} where
  unfoldable pub onto : List X → List (List X) → List (List X)
  onto p [] = p ∷ []
  onto p (x ∷ xs) = (p ++ x) ∷ xs

  pub onto-onto_first : (p : List X) (b : X) (xs : List (List X))
      → onto p (onto_first b xs) ≡ onto (p ++ (b ∷ [])) xs
  unfolding onto
  onto-onto_first p b [] = refl
  onto-onto_first p b (y ∷ ys) = ap (λ t. t ∷ ys) (sym (append_assoc p (b ∷ []) y))

  onto-none_first : (b : X) (xs : List (List X)) → onto [] (onto_first b xs) ≡ onto_first b xs
  unfolding onto
  onto-none_first b [] = refl
  onto-none_first b (y ∷ ys) = refl

  pub onto-none : (p : X → Bool) (xs : List X) → onto [] (slice_split p xs) ≡ slice_split p xs
  unfolding onto
  onto-none p [] = refl
  onto-none p (x ∷ xs) =
      elim (p x) as (λ t. onto [] (cond t ([] ∷ slice_split p xs) (onto_first x (slice_split p xs)))
      ≡ cond t ([] ∷ slice_split p xs) (onto_first x (slice_split p xs))) [
        | true ↦ refl
        | false ↦ onto-none_first x (slice_split p xs)
      ]

-- a line, and what follows it, whether it is kept whole or in part
from_line : (g : Group) (n : ℕ) (p q : List ℕ) (ls : List Numbered) → IsHeld p q
    → ended_by g (line_of n q) ++ from (group_after g (line_of n q)) ls
    ≡ ended_by g (line_of n p) ++ from (group_after g (line_of n p)) ls
from_line g n p q ls h =
    let a : AlikeLine (line_of n p) (line_of n q) = held_alike n p q h in
    sym (λ i. ended_alike g (line_of n p) (line_of n q) a i
    ++ from (after_alike g (line_of n p) (line_of n q) a i) ls)

-- the empty line behind the last line feed ends the group
end_ends : (g : Group) (n : ℕ) → ended_by g (line_of n []) ≡ said_by g
unfolding ended_by line_of
end_ends g n =
    elim (eqb n 1) as (λ t. cond (is_comment (strip_carriage_return (cond t (without_mark []) [])))
    [] (cond (is_end (strip_carriage_return (cond t (without_mark []) []))) (said_by g) [])
    ≡ said_by g) [ true ↦ refl | false ↦ refl ]

end_leaves : (g : Group) (n : ℕ) → group_after g (line_of n []) ≡ none
unfolding group_after line_of
end_leaves g n =
    elim (eqb n 1) as (λ t. cond (is_comment (strip_carriage_return (cond t (without_mark []) [])))
    g (cond (is_end (strip_carriage_return (cond t (without_mark []) []))) none (with_line g (
      n,
      strip_carriage_return (cond t (without_mark []) []),
    ))) ≡ none) [ true ↦ refl | false ↦ refl ]

-- bytes that are read one by one give what their lines do
given_from : (text : List ℕ) (n : ℕ) (p q : List ℕ) (g : Group) → IsHeld p q
    → given (record { lines = n; pending = q; group = g }) (text ++ (10 ∷ 10 ∷ []))
    ≡ from g (lined n (onto p (pieces 10 text)))
unfolding given from lined onto
given_from [] n p q g h =
    let a : AlikeLine (line_of (n + 1) p) (line_of (n + 1) q) = held_alike (n + 1) p q h in
    let rest : Group = group_after g (line_of (n + 1) q) in
    ap (λ t. ended_by g (line_of (n + 1) q) ++ t)
    (append-nil (ended_by rest (line_of (n + 1 + 1) [])) ∙ end_ends rest (n + 1 + 1))
    ∙ from_line g (n + 1) p q [] h
    ∙ ap (λ t. ended_by g (line_of (n + 1) t) ++ said_by (group_after g (line_of (n + 1) t)))
    (sym (append-nil p))
given_from (b ∷ text) n p q g h =
    let more : List ℕ = text ++ (10 ∷ 10 ∷ []) in
    elim (eqb b 10) as (λ t. cond t (ended_by g (line_of (n + 1) q)) [] ++ given (cond t (record {
      lines = n + 1;
      pending = [];
      group = group_after g (line_of (n + 1) q);
    }) (record { lines = n; pending = grown q b; group = g })) more
    ≡ from g (lined n (onto p (cond t ([] ∷ pieces 10 text) (onto_first b (pieces 10 text)))))) [
      | true ↦
          ap (λ t. ended_by g (line_of (n + 1) q) ++ t) (given_from text
          (n + 1) [] [] (group_after g (line_of (n + 1) q)) (inl (refl, omega arith))
          ∙ ap (λ t. from (group_after g (line_of (n + 1) q)) (lined (n + 1) t))
          (onto-none (λ c. eqb c 10) text))
          ∙ from_line g (n + 1) p q (lined (n + 1) (pieces 10 text)) h
          ∙ ap (λ t. ended_by g (line_of (n + 1) t) ++ from (group_after g (line_of (n + 1) t))
          (lined (n + 1) (pieces 10 text))) (sym (append-nil p))
      | false ↦
          given_from text n (p ++ (b ∷ [])) (grown q b) g (grown_held p q b h)
          ∙ ap (λ t. from g (lined n t)) (sym (onto-onto_first p b (pieces 10 text)))
    ]

-- an empty last piece is no line of the text, and as one it would end a
-- group that the end of the text ends
from_last : (g : Group) (n : ℕ) (text : List ℕ)
    → from g ((n, strip_carriage_return text) ∷ []) ≡ from g (enumerate_from n (last_line text))
unfolding from ended_by group_after items
from_last g n [] = append-nil (said_by g)
from_last g n (b ∷ bs) = refl

pub later_line : (n : ℕ) (p : List ℕ) → 1 < n → line_of n p ≡ (n, strip_carriage_return p)
unfolding line_of
later_line n p h =
    ap (λ t. (n, strip_carriage_return (cond t (without_mark p) p)))
    (ne_eqb n 1 (λ e. absurd (omega arith)))

-- pieces behind the first one are the lines of the text
from_pieces : (ps : List (List ℕ)) (n : ℕ) (g : Group) → 0 < n
    → from g (lined n ps) ≡ from g (enumerate_from (n + 1) (lines_of_pieces ps))
unfolding from lined
from_pieces [] n g h = refl
from_pieces (p ∷ []) n g h =
    ap (λ l. from g (l ∷ [])) (later_line (n + 1) p (omega arith)) ∙ from_last g (n + 1) p
from_pieces (p ∷ q ∷ ps) n g h =
    let l : Numbered = (n + 1, strip_carriage_return p) in
    ap (λ k. ended_by g k ++ from (group_after g k) (lined (n + 1) (q ∷ ps)))
    (later_line (n + 1) p (omega arith))
    ∙ ap (λ t. ended_by g l ++ t) (from_pieces (q ∷ ps) (n + 1) (group_after g l) (omega arith))

-- and so is the first one, without the mark
from_first : (p : List ℕ) (ps : List (List ℕ)) (g : Group)
    → from g (lined 0 (p ∷ ps)) ≡ from g (enumerate_from 1 (lines_of_pieces (without_mark p ∷ ps)))
unfolding from lined line_of
from_first p [] g = from_last g 1 (without_mark p)
from_first p (q ∷ ps) g =
    let l : Numbered = (1, strip_carriage_return (without_mark p)) in
    ap (λ t. ended_by g l ++ t) (from_pieces (q ∷ ps) 1 (group_after g l) (omega arith))

-- these are the pieces of a text: the first, with which it begins, and the others
pub record Parts (text : List ℕ) (ps : List (List ℕ)) : Type 0 where
  pub first : List ℕ
  pub others : List (List ℕ)
  pub are : ps ≡ first ∷ others
  pub rest : List ℕ
  pub begins : text ≡ first ++ rest

pub parts_of : (text : List ℕ) → Parts text (pieces 10 text)
parts_of [] = record { first = []; others = []; are = refl; rest = []; begins = refl }
parts_of (b ∷ text) =
    let p : Parts text (pieces 10 text) = parts_of text in
    elim (eqb b 10)
    as (λ t. Parts (b ∷ text) (cond t ([] ∷ pieces 10 text) (onto_first b (pieces 10 text)))) [
      | true ↦ record {
        first = [];
        others = pieces 10 text;
        are = refl;
        rest = b ∷ text;
        begins = refl;
      }
      | false ↦ record {
        first = b ∷ p.first;
        others = p.others;
        are = ap (onto_first b) p.are;
        rest = p.rest;
        begins = ap (λ t. b ∷ t) p.begins;
      }
    ]

and_false : (b : Bool) → (b && false) ≡ false
and_false true = refl
and_false false = refl

-- what begins with the mark still does with more behind it
no_mark : (p r : List ℕ) → starts_with nat_eq (p ++ r) byte_order_mark ≡ false
    → starts_with nat_eq p byte_order_mark ≡ false
no_mark [] r e = refl
no_mark (x ∷ []) r e = and_false (nat_eq 239 x)
no_mark (x ∷ y ∷ []) r e =
    ap (λ t. nat_eq 239 x && t) (and_false (nat_eq 187 y)) ∙ and_false (nat_eq 239 x)
no_mark (x ∷ y ∷ z ∷ p) r e = e

-- the pieces of a text without its mark: the first loses the mark, and the others stay
abbrev pub FirstLoses : List ℕ → List (List ℕ) → Type 0
FirstLoses text [] = ⊥
FirstLoses text (p ∷ ps) = pieces 10 (without_mark text) ≡ without_mark p ∷ ps

loses_none : (text : List ℕ) → starts_with nat_eq text byte_order_mark ≡ false
    → FirstLoses text (pieces 10 text)
loses_none text e =
    let p : Parts text (pieces 10 text) = parts_of text in
    let same : without_mark text ≡ text = ap (λ t. cond t (drop 3 text) text) e in
    let first : without_mark p.first ≡ p.first = ap (λ t. cond t (drop 3 p.first) p.first)
    (no_mark p.first p.rest (ap (λ t. starts_with nat_eq t byte_order_mark) (sym p.begins) ∙ e)) in
    subst (FirstLoses text) (sym p.are)
    (ap (pieces 10) same ∙ p.are ∙ ap (λ t. t ∷ p.others) (sym first))

and_both : (a b : Bool) → (a && b) ≡ true → (a ≡ true) × (b ≡ true)
and_both true b e = (refl, e)
and_both false b e = absurd (let f : false ≡ true = e in cc)

-- a text that begins with the mark
loses_mark : (text : List ℕ)
    → FirstLoses (239 ∷ 187 ∷ 191 ∷ text) (pieces 10 (239 ∷ 187 ∷ 191 ∷ text))
loses_mark text =
    let p : Parts text (pieces 10 text) = parts_of text in
    subst (λ (ps : List (List ℕ)). FirstLoses (239 ∷ 187 ∷ 191 ∷ text)
    (onto_first 239 (onto_first 187 (onto_first 191 ps)))) (sym p.are) p.are

loses_by : (x y z : ℕ) (text : List ℕ) (t : Bool)
    → starts_with nat_eq (x ∷ y ∷ z ∷ text) byte_order_mark ≡ t
    → FirstLoses (x ∷ y ∷ z ∷ text) (pieces 10 (x ∷ y ∷ z ∷ text))
loses_by x y z text false e = loses_none (x ∷ y ∷ z ∷ text) e
loses_by x y z text true e =
    let first : (nat_eq 239 x ≡ true) × ((nat_eq 187 y && (nat_eq 191 z && true)) ≡ true) =
    and_both (nat_eq 239 x) (nat_eq 187 y && (nat_eq 191 z && true)) e in
    let second : (nat_eq 187 y ≡ true) × ((nat_eq 191 z && true) ≡ true) =
    and_both (nat_eq 187 y) (nat_eq 191 z && true) first.1 in
    let third : (nat_eq 191 z ≡ true) × (true ≡ true) = and_both (nat_eq 191 z) true second.1 in
    let is_x : 239 ≡ x = grind (arith, nat_tests) in
    let is_y : 187 ≡ y = grind (arith, nat_tests) in
    let is_z : 191 ≡ z = grind (arith, nat_tests) in
    subst (λ (a : ℕ). FirstLoses (a ∷ y ∷ z ∷ text) (pieces 10 (a ∷ y ∷ z ∷ text))) is_x
    (subst (λ (a : ℕ). FirstLoses (239 ∷ a ∷ z ∷ text) (pieces 10 (239 ∷ a ∷ z ∷ text))) is_y
    (subst (λ (a : ℕ). FirstLoses (239 ∷ 187 ∷ a ∷ text) (pieces 10 (239 ∷ 187 ∷ a ∷ text))) is_z
    (loses_mark text)))

pub loses : (text : List ℕ) → FirstLoses text (pieces 10 text)
loses [] = refl
loses (x ∷ []) = loses_none (x ∷ []) (and_false (nat_eq 239 x))
loses (x ∷ y ∷ []) =
    loses_none (x ∷ y ∷ [])
    (ap (λ t. nat_eq 239 x && t) (and_false (nat_eq 187 y)) ∙ and_false (nat_eq 239 x))
loses (x ∷ y ∷ z ∷ text) =
    loses_by x y z text (starts_with nat_eq (x ∷ y ∷ z ∷ text) byte_order_mark) refl

-- the lines between line feeds give what the numbered lines do
from_lines : (text : List ℕ)
    → from none (lined 0 (pieces 10 text)) ≡ from none (numbered_lines text)
from_lines text =
    let p : Parts text (pieces 10 text) = parts_of text in
    let l : FirstLoses text (p.first ∷ p.others) = subst (FirstLoses text) p.are (loses text) in
    ap (λ t. from none (lined 0 t)) p.are ∙ from_first p.first p.others none
    ∙ ap (λ t. from none (enumerate_from 1 (lines_of_pieces t))) (sym l)

-- the group that some lines make
abbrev head : List Numbered → ℕ
head [] = 0
head (l ∷ ls) = l.0

unfoldable pub gathered : List Numbered → Group
gathered ls = cond (ltb longest (size ls)) (over (head ls)) (within ls)

pub said_gathered : (ls : List Numbered) → said_by (gathered ls) ≡ group_items ls
unfolding gathered group_items
said_gathered [] = refl
said_gathered (l ∷ ls) =
    elim (ltb longest (size (l ∷ ls))) as (λ t. said_by (cond t (over l.0) (within (l ∷ ls)))
    ≡ cond t (too_long (l ∷ ls)) (items (l ∷ ls))) [ true ↦ refl | false ↦ refl ]

head-push : (ls : List Numbered) (l : Numbered) → head (ls ++ (l ∷ [])) ≡ first_number ls l.0
head-push [] l = refl
head-push (m ∷ ls) l = refl

size-push : (ls : List Numbered) (l : Numbered) → size (ls ++ (l ∷ [])) ≡ size ls + length l.1
size-push ls l =
    sum_by-append (λ k. length k.1) ls (l ∷ []) ∙ ap (λ k. size ls + k) (zero-add (length l.1))

pub gathered-push : (ls : List Numbered) (l : Numbered)
    → with_line (gathered ls) l ≡ gathered (ls ++ (l ∷ []))
unfolding gathered with_line
gathered-push [] l = refl
gathered-push (m ∷ ls) l =
    let both : size ((m ∷ ls) ++ (l ∷ [])) ≡ size (m ∷ ls) + length l.1 = size-push (m ∷ ls) l in
    let by : (t : Bool) → ltb longest (size (m ∷ ls)) ≡ t
    → with_line (cond t (over m.0) (within (m ∷ ls))) l ≡ gathered ((m ∷ ls) ++ (l ∷ [])) =
    λ t. elim t as (λ b. ltb longest (size (m ∷ ls)) ≡ b
    → with_line (cond b (over m.0) (within (m ∷ ls))) l ≡ gathered ((m ∷ ls) ++ (l ∷ []))) [
      | true ↦ λ e. sym (ap (λ b. cond b (over m.0) (within ((m ∷ ls) ++ (l ∷ [])))) (lt-ltb longest
          (size ((m ∷ ls) ++ (l ∷ []))) (omega (arith, both, ltb-true longest (size (m ∷ ls)) e))))
      | false ↦
          λ e. ap (λ k. cond (ltb longest k) (over m.0) (within ((m ∷ ls) ++ (l ∷ [])))) (sym both)
    ] in
    by (ltb longest (size (m ∷ ls))) refl

-- a line that ends a group, and what follows
from_end : (ls acc : List Numbered)
    → from (gathered []) ls ≡ flat_map group_items (onto [] (groups ls))
    → said_by (gathered acc) ++ from none ls ≡ flat_map group_items (onto acc ([] ∷ groups ls))
unfolding from onto gathered
from_end ls acc rest =
    (λ i. said_gathered acc i ++ rest i)
    ∙ ap (λ t. group_items acc ++ flat_map group_items t)
    (onto-none (λ (k : Numbered). is_end k.1) (filter (λ k. not (is_comment k.1)) ls))
    ∙ ap (λ t. group_items t ++ flat_map group_items (groups ls)) (sym (append-nil acc))

-- lines that are read one by one give what their groups do
from_groups : (ls acc : List Numbered)
    → from (gathered acc) ls ≡ flat_map group_items (onto acc (groups ls))
unfolding from onto ended_by group_after
from_groups [] acc =
    said_gathered acc ∙ ap group_items (sym (append-nil acc))
    ∙ sym (append-nil (group_items (acc ++ [])))
from_groups (l ∷ ls) acc =
    elim (is_comment l.1) as (λ c. cond c [] (cond (is_end l.1) (said_by (gathered acc)) [])
    ++ from (cond c (gathered acc) (cond (is_end l.1) none (with_line (gathered acc) l))) ls
    ≡ flat_map group_items (onto acc (slice_split (λ k. is_end k.1) (cond (not c)
    (l ∷ filter (λ k. not (is_comment k.1)) ls) (filter (λ k. not (is_comment k.1)) ls))))) [
      | true ↦ from_groups ls acc
      | false ↦ elim (is_end l.1) as (λ e. cond e (said_by (gathered acc)) []
          ++ from (cond e none (with_line (gathered acc) l)) ls
          ≡ flat_map group_items (onto acc (cond e ([] ∷ groups ls) (onto_first l (groups ls))))) [
            | true ↦ from_end ls acc (from_groups ls [])
            | false ↦ ap (λ g. from g ls) (gathered-push acc l) ∙ from_groups ls (acc ++ (l ∷ []))
                ∙ ap (λ t. flat_map group_items t) (sym (onto-onto_first acc l (groups ls)))
          ]
    ]

pub given_is_whole : GivenIsWhole
unfolding last objects after gathered
given_is_whole text =
    sym (given-append start text (10 ∷ 10 ∷ []))
    ∙ given_from text 0 [] [] none (inl (refl, omega arith))
    ∙ ap (λ t. from none (lined 0 t)) (onto-none (λ c. eqb c 10) text)
    ∙ from_lines text
    ∙ from_groups (numbered_lines text) []
    ∙ ap (λ t. flat_map group_items t) (onto-none (λ (l : Numbered). is_end l.1)
    (filter (λ l. not (is_comment l.1)) (numbered_lines text)))

pieces_from : (s : State) (ps : List (List ℕ))
    → given_in_pieces s ps ≡ given s (concat ps) ++ last (after s (concat ps))
unfolding after given
pieces_from s [] = refl
pieces_from s (p ∷ ps) =
    ap (λ t. given s p ++ t) (pieces_from (after s p) ps)
    ∙ sym (append_assoc (given s p) (given (after s p) (concat ps))
    (last (after (after s p) (concat ps))))
    ∙ sym (λ i. given-append s p (concat ps) i ++ last (after-append s p (concat ps) i))

pub any_cutting : AnyCutting
any_cutting ps = pieces_from start ps ∙ given_is_whole (concat ps)
