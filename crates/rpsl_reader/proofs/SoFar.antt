-- What is given on the way is what the groups say that have ended.
use Rattle.std.proofs.Common.{◌≡◌, ℕ, ◌+◌, ◌<◌, inl, Bool, true, false, cond, not, eqb}
use Rattle.std.proofs.Common.{List, [], ◌∷◌, ◌++◌, map, filter, flat_map, refl, sym, ap}
use Rattle.std.proofs.Common.{◌∙◌, subst, arith, append-nil}
use Rattle.std.specs.List.{concat, enumerate_from, onto_first, slice_split}
use Rattle.std.specs.Str.Lines.{strip_carriage_return}
use Rattle.geo_addr.specs.Lines.{pieces, without_mark}
use Rattle.rpsl_reader.specs.declared.item.Item.{Item}
use Rattle.rpsl_reader.specs.Attributes.{Numbered, is_comment, is_end}
use Rattle.rpsl_reader.specs.Ended.{but_last, ended_lines, said_so_far}
use Rattle.rpsl_reader.specs.Laws.{GivenSoFar, given_by_pieces}
use Rattle.rpsl_reader.specs.Objects.{group_items, groups}
use Rattle.rpsl_reader.specs.Reading.{Group, State, after, ended_by, given, group_after, grown}
use Rattle.rpsl_reader.specs.Reading.{line_of, none, said_by, start, with_line}
use Rattle.rpsl_reader.proofs.Pieces.{given-append}
use Rattle.rpsl_reader.proofs.Shortened.{AlikeLine, IsHeld, after_alike, ended_alike, grown_held}
use Rattle.rpsl_reader.proofs.Shortened.{held_alike}
use Rattle.rpsl_reader.proofs.WholeText.{FirstLoses, Parts, gathered, gathered-push, lined, loses}
use Rattle.rpsl_reader.proofs.WholeText.{later_line, onto, onto-none, onto-onto_first, parts_of}
use Rattle.rpsl_reader.proofs.WholeText.{said_gathered}

-- what an open group and the lines behind it give, while more lines may follow
ended_from : Group → List Numbered → List Item
ended_from g [] = []
ended_from g (l ∷ ls) = ended_by g l ++ ended_from (group_after g l) ls

-- there is always a last part, behind any that is put before
module _ {X : Type 0} where
  but_last-onto_first : (x : List X) (b : X) (xs : List (List X))
      → but_last (x ∷ onto_first b xs) ≡ x ∷ but_last (onto_first b xs)
  but_last-onto_first x b [] = refl
  but_last-onto_first x b (y ∷ ys) = refl

  but_last-split : (p : X → Bool) (x : List X) (xs : List X)
      → but_last (x ∷ slice_split p xs) ≡ x ∷ but_last (slice_split p xs)
  but_last-split p x [] = refl
  but_last-split p x (y ∷ ys) =
      elim (p y) as (λ t. but_last (x ∷ cond t ([] ∷ slice_split p ys)
      (onto_first y (slice_split p ys)))
      ≡ x ∷ but_last (cond t ([] ∷ slice_split p ys) (onto_first y (slice_split p ys)))) [
        | true ↦ refl
        | false ↦ but_last-onto_first x y (slice_split p ys)
      ]

-- a line, and what follows it, whether it is kept whole or in part
ended_line : (g : Group) (n : ℕ) (p q : List ℕ) (ls : List Numbered) → IsHeld p q
    → ended_by g (line_of n q) ++ ended_from (group_after g (line_of n q)) ls
    ≡ ended_by g (line_of n p) ++ ended_from (group_after g (line_of n p)) ls
ended_line g n p q ls h =
    let a : AlikeLine (line_of n p) (line_of n q) = held_alike n p q h in
    sym (λ i. ended_alike g (line_of n p) (line_of n q) a i
    ++ ended_from (after_alike g (line_of n p) (line_of n q) a i) ls)

-- bytes that are read one by one give what the lines do that have ended
given_lines : (text : List ℕ) (n : ℕ) (p q : List ℕ) (g : Group) → IsHeld p q
    → given (record { lines = n; pending = q; group = g }) text
    ≡ ended_from g (lined n (but_last (onto p (pieces 10 text))))
unfolding given ended_from lined onto
given_lines [] n p q g h = refl
given_lines (b ∷ text) n p q g h =
    elim (eqb b 10) as (λ t. cond t (ended_by g (line_of (n + 1) q)) [] ++ given (cond t (record {
      lines = n + 1;
      pending = [];
      group = group_after g (line_of (n + 1) q);
    }) (record { lines = n; pending = grown q b; group = g })) text
    ≡ ended_from g (lined n (but_last (onto p
    (cond t ([] ∷ pieces 10 text) (onto_first b (pieces 10 text))))))) [
      | true ↦
          ap (λ t. ended_by g (line_of (n + 1) q) ++ t) (given_lines text
          (n + 1) [] [] (group_after g (line_of (n + 1) q)) (inl (refl, omega arith))
          ∙ ap (λ t. ended_from (group_after g (line_of (n + 1) q)) (lined (n + 1) (but_last t)))
          (onto-none (λ c. eqb c 10) text))
          ∙ ended_line g (n + 1) p q (lined (n + 1) (but_last (pieces 10 text))) h
          ∙ ap (λ t. ended_by g (line_of (n + 1) t)
          ++ ended_from (group_after g (line_of (n + 1) t))
          (lined (n + 1) (but_last (pieces 10 text)))) (sym (append-nil p))
          ∙ ap (λ t. ended_from g (lined n t))
          (sym (but_last-split (λ c. eqb c 10) (p ++ []) text))
      | false ↦
          given_lines text n (p ++ (b ∷ [])) (grown q b) g (grown_held p q b h)
          ∙ ap (λ t. ended_from g (lined n (but_last t)))
          (sym (onto-onto_first p b (pieces 10 text)))
    ]

-- pieces that a line feed ends are the lines of the text that have ended
lined_later : (ps : List (List ℕ)) (n : ℕ) → 0 < n
    → lined n ps ≡ enumerate_from (n + 1) (map strip_carriage_return ps)
unfolding lined
lined_later [] n h = refl
lined_later (p ∷ ps) n h =
    let first : line_of (n + 1) p ≡ (n + 1, strip_carriage_return p) =
    later_line (n + 1) p (omega arith) in
    let rest = lined_later ps (n + 1) (omega arith) in
    λ i. first i ∷ rest i

lined_first : (p : List ℕ) (ps : List (List ℕ)) → lined 0 (but_last (p ∷ ps))
    ≡ enumerate_from 1 (map strip_carriage_return (but_last (without_mark p ∷ ps)))
unfolding lined line_of
lined_first p [] = refl
lined_first p (q ∷ ps) =
    ap (λ t. (1, strip_carriage_return (without_mark p)) ∷ t)
    (lined_later (but_last (q ∷ ps)) 1 (omega arith))

lined_all : (text : List ℕ) → lined 0 (but_last (pieces 10 text)) ≡ ended_lines text
lined_all text =
    let p : Parts text (pieces 10 text) = parts_of text in
    let l : FirstLoses text (p.first ∷ p.others) = subst (FirstLoses text) p.are (loses text) in
    ap (λ t. lined 0 (but_last t)) p.are ∙ lined_first p.first p.others
    ∙ ap (λ t. enumerate_from 1 (map strip_carriage_return (but_last t))) (sym l)

-- a line that ends a group, and what follows
ended_end : (ls acc : List Numbered)
    → ended_from (gathered []) ls ≡ flat_map group_items (but_last (onto [] (groups ls)))
    → said_by (gathered acc) ++ ended_from none ls
    ≡ flat_map group_items (but_last (onto acc ([] ∷ groups ls)))
unfolding ended_from onto gathered
ended_end ls acc rest =
    (λ i. said_gathered acc i ++ rest i)
    ∙ ap (λ t. group_items acc ++ flat_map group_items (but_last t))
    (onto-none (λ (k : Numbered). is_end k.1) (filter (λ k. not (is_comment k.1)) ls))
    ∙ ap (λ t. group_items t ++ flat_map group_items (but_last (groups ls))) (sym (append-nil acc))
    ∙ ap (λ t. flat_map group_items t) (sym (but_last-split (λ (k : Numbered). is_end k.1)
    (acc ++ []) (filter (λ k. not (is_comment k.1)) ls)))

-- lines that are read one by one give what the groups do that have ended
ended_groups_give : (ls acc : List Numbered)
    → ended_from (gathered acc) ls ≡ flat_map group_items (but_last (onto acc (groups ls)))
unfolding ended_from onto ended_by group_after
ended_groups_give [] acc = refl
ended_groups_give (l ∷ ls) acc =
    elim (is_comment l.1) as (λ c. cond c [] (cond (is_end l.1) (said_by (gathered acc)) [])
    ++ ended_from (cond c (gathered acc) (cond (is_end l.1) none (with_line (gathered acc) l))) ls
    ≡ flat_map group_items (but_last (onto acc (slice_split (λ k. is_end k.1) (cond (not c)
    (l ∷ filter (λ k. not (is_comment k.1)) ls) (filter (λ k. not (is_comment k.1)) ls)))))) [
      | true ↦ ended_groups_give ls acc
      | false ↦ elim (is_end l.1) as (λ e. cond e (said_by (gathered acc)) []
          ++ ended_from (cond e none (with_line (gathered acc) l)) ls
          ≡ flat_map group_items
          (but_last (onto acc (cond e ([] ∷ groups ls) (onto_first l (groups ls)))))) [
            | true ↦ ended_end ls acc (ended_groups_give ls [])
            | false ↦
                ap (λ g. ended_from g ls) (gathered-push acc l)
                ∙ ended_groups_give ls (acc ++ (l ∷ []))
                ∙ ap (λ t. flat_map group_items (but_last t))
                (sym (onto-onto_first acc l (groups ls)))
          ]
    ]

-- what a text has given while more may follow
pub given_text : (text : List ℕ) → given start text ≡ said_so_far text
unfolding said_so_far gathered
given_text text =
    given_lines text 0 [] [] none (inl (refl, omega arith))
    ∙ ap (λ t. ended_from none (lined 0 (but_last t))) (onto-none (λ c. eqb c 10) text)
    ∙ ap (λ t. ended_from none t) (lined_all text)
    ∙ ended_groups_give (ended_lines text) []
    ∙ ap (λ t. flat_map group_items (but_last t)) (onto-none (λ (l : Numbered). is_end l.1)
    (filter (λ l. not (is_comment l.1)) (ended_lines text)))

-- pieces, one after the other, have given what they do as one
given_pieces : (s : State) (ps : List (List ℕ)) → given_by_pieces s ps ≡ given s (concat ps)
unfolding given
given_pieces s [] = refl
given_pieces s (p ∷ ps) =
    ap (λ t. given s p ++ t) (given_pieces (after s p) ps) ∙ sym (given-append s p (concat ps))

pub given_so_far : GivenSoFar
given_so_far ps = given_pieces start ps ∙ given_text (concat ps)
