-- The numbers of places do not matter: the feed of a tree of numbers is that of the tree of the
-- places that they stand for.
use Rattle.std.proofs.Common.{inl, inr, ◌≡◌, ℕ, suc, ◌+◌, ◌≤◌, Bool, true, false, not}
use Rattle.std.proofs.Common.{cond, List, [], ◌∷◌, ◌++◌, map, length, get_or, Option}
use Rattle.std.proofs.Common.{None, refl, sym, ap, ap₂, ◌∙◌, subst, arith}
use Rattle.std.specs.List.{IsDistinct, enumerate_from, position_or_len}
use Rattle.std.proofs.lemmas.List.Elements.{All-cons, All-nil}
use Rattle.std.proofs.lemmas.List.{append_assoc, append-nil, length-map}
use Rattle.geo_addr.specs.Ranges.{Prefix}
use Rattle.geo_terms.specs.Numbers.{place_at, same_place}
use Rattle.geo_terms.specs.PlaceForm.{PlaceParts}
use Rattle.trie_core.specs.Tree.{Tree, leaf, node, AllLeaves, map_tree}
use Rattle.trie_core.specs.Laws.{IsEquality}
use Rattle.least_nodes.specs.Layout.{each_once, leaves}
use Rattle.least_nodes.proofs.Elements.{In, In-append, In-left, In-right, In-each_once-new}
use Rattle.least_nodes.proofs.Elements.{In_or_not, each_once-new, each_once-old}
use Rattle.mmdb_file.specs.FileImage.{same_answer}
use Rattle.mmdb_file.proofs.PlaceTreeLemmas.{answer_equality, numbers_apart}
use Rattle.publish_least.specs.Choice.{lines_of, part_of}
use Rattle.publish_least.specs.declared.line.Line.{Line}
use Rattle.published.specs.FeedText.{feed_text, line_text}
use Rattle.geo_terms.specs.declared.statement.Entry.{Entry}
use Rattle.published.specs.PlaceLines.{NumbersDoNotMatter, answers, number_in, numbered, published}
use Rattle.published.specs.PlaceLines.{published_feed, published_lines}
use Rattle.published.specs.Reread.{AreClean, IsCleanAt, entry_of, said_by}
use Rattle.published.proofs.Renumber.{AllNamed, chosen-name, chosen_named, relabelled}

-- ---- the number of an element of a list leads back to it

pub finds : {X : Type 0} (eq : X → X → Bool) → IsEquality eq → (x d : X) (xs : List X) → In x xs
    → get_or xs (position_or_len (eq x) xs) d ≡ x
finds eq equality x d [] is = absurd is
finds eq equality x d (y ∷ ys) is = by (eq x y) refl is (finds eq equality x d ys)
  where
    by : (b : Bool)
        → eq x y ≡ b → In x (y ∷ ys) → (In x ys → get_or ys (position_or_len (eq x) ys) d ≡ x)
        → get_or (y ∷ ys) (cond (not b) (1 + position_or_len (eq x) ys) 0) d ≡ x
    by true e is later = sym ((equality x y).0 e)
    by false e (inl same) later =
        absurd (let f : eq x y ≡ true = (equality x y).1 same in
        let g : true ≡ false = sym f ∙ e in cc)
    by false e (inr rest) later =
        let adds : 1 + position_or_len (eq x) ys ≡ suc (position_or_len (eq x) ys) = omega arith in
        rw adds (later rest)

-- the list of what was seen stays in front
seen_first : {X : Type 0} (eq : X → X → Bool) → IsEquality eq
    → (seen xs : List X) → (more : List X) × (each_once eq seen xs ≡ seen ++ more)
seen_first eq equality seen [] = ([], sym (append-nil seen))
seen_first eq equality seen (x ∷ xs) = elim (In_or_not eq equality x seen) [
  | inl old ↦ let (more, is) = seen_first eq equality seen xs in
      (more, each_once-old eq equality seen x xs old ∙ is)
  | inr new ↦
      let (more, is) = seen_first eq equality (seen ++ x ∷ []) xs in
      (x ∷ more, each_once-new eq equality seen x xs new ∙ is ∙ append_assoc seen (x ∷ []) more)
]

-- and each leaf is in the list
seen_in : {X : Type 0} (eq : X → X → Bool) → IsEquality eq → (x : X) (seen xs : List X) → In x seen
    → In x (each_once eq seen xs)
seen_in eq equality x seen xs is =
    let (more, e) = seen_first eq equality seen xs in
    subst (In x) (sym e) (In-left x seen more is)

-- no place is the first answer
pub first_number : (t : Tree (Option PlaceParts)) → number_in (answers t) None ≡ 0
first_number t =
    let (more, e) = seen_first same_answer answer_equality (None ∷ []) (leaves t) in
    ap (λ xs. number_in xs None) e

-- the number of no place stands for none
pub no_place : (t : Tree (Option PlaceParts)) → numbered (answers t) 0 ≡ None
no_place t =
    let (more, e) = seen_first same_answer answer_equality (None ∷ []) (leaves t) in
    ap (λ xs. numbered xs 0) e

map_twice : {A B C : Type 0} (g : B → C) (f : A → B) (t : Tree A)
    → map_tree g (map_tree f t) ≡ map_tree (λ x. g (f x)) t
map_twice g f (leaf a) = refl
map_twice g f (node l r) = ap₂ node (map_twice g f l) (map_twice g f r)

leaf_named : {A B : Type 0} (f : A → B) (t : Tree A) (x : A)
    → In x (leaves t) → In (f x) (leaves (map_tree f t))
leaf_named f (leaf a) x (inl same) = inl (ap f same)
leaf_named f (leaf a) x (inr none) = absurd none
leaf_named f (node l r) x is = elim (In-append x (leaves l) (leaves r) is) [
  | inl left ↦ In-left (f x) (leaves (map_tree f l)) (leaves (map_tree f r)) (leaf_named f l x left)
  | inr right ↦
      In-right (f x) (leaves (map_tree f l)) (leaves (map_tree f r)) (leaf_named f r x right)
]

leaves_pass : (P Q : ℕ → Type 0) (t : Tree ℕ) → AllLeaves P t
    → ((x : ℕ) → In x (leaves t) → P x → Q x) → AllLeaves Q t
leaves_pass P Q (leaf a) all h = h a (inl refl) all
leaves_pass P Q (node l r) all h = (
  leaves_pass P Q l all.0 (λ x is. h x (In-left x (leaves l) (leaves r) is)),
  leaves_pass P Q r all.1 (λ x is. h x (In-right x (leaves l) (leaves r) is)),
)

module _ (places : List PlaceParts) (distinct : IsDistinct same_place places) (t : Tree ℕ)
    (few : AllLeaves (λ k. k ≤ length places) t) where
  abbrev whole : Tree (Option PlaceParts)
  whole = map_tree (place_at places) t

  abbrev order : List (Option PlaceParts)
  order = answers whole

  abbrev renumbered : ℕ → ℕ
  renumbered k = number_in order (place_at places k)

  -- a number of the table whose place is among the answers
  record IsNamed (k : ℕ) : Type 0 where
    low : k ≤ length places
    back : numbered order (renumbered k) ≡ place_at places k

  named_apart : (x y : ℕ) → IsNamed x → IsNamed y → renumbered x ≡ renumbered y → x ≡ y
  named_apart x y a b same =
      numbers_apart places distinct x y a.low b.low (sym a.back ∙ ap (numbered order) same ∙ b.back)

  zero_is : renumbered 0 ≡ 0
  zero_is = first_number whole

  zero_named : IsNamed 0
  zero_named = record {
    low = omega arith;
    back =
        finds same_answer answer_equality None None order
        (seen_in same_answer answer_equality None (None ∷ []) (leaves whole) (inl refl));
  }

  all_named : AllLeaves IsNamed t
  all_named = leaves_pass (λ k. k ≤ length places) IsNamed t few (λ x is fits. record {
    low = fits;
    back = finds same_answer answer_equality (place_at places x) None order
        (In-each_once-new same_answer answer_equality (place_at places x) (None ∷ []) (leaves whole)
        (leaf_named (place_at places) t x is));
  })

  lines_same : (xs : List Line) → AllNamed renumbered IsNamed named_apart zero_named zero_is xs
      → feed_text (place_at places) xs ≡ feed_text (numbered order) (map (relabelled renumbered) xs)
  lines_same [] all = refl
  lines_same (x ∷ xs) all =
      ap₂ (λ p text. (line_text x.block p ++ (10 ∷ [])) ++ text) (sym all.0.back)
      (lines_same xs all.1)

  entries_same : (n : ℕ) (xs : List Line)
      → AllNamed renumbered IsNamed named_apart zero_named zero_is xs
      → map (entry_of (place_at places)) (enumerate_from n xs)
      ≡ map (entry_of (numbered order)) (enumerate_from n (map (relabelled renumbered) xs))
  entries_same n [] all = refl
  entries_same n (x ∷ xs) all =
      ap₂ (λ p (es : List Entry). record { line = n; block = x.block; said = said_by p } ∷ es)
      (sym all.0.back) (entries_same (n + 1) xs all.1)

  clean_leaves : (s : Tree ℕ) → AllLeaves IsCleanAt (map_tree (place_at places) s)
      → AllLeaves (λ k. IsCleanAt (place_at places k)) s
  clean_leaves (leaf a) all = all
  clean_leaves (node l r) all = (clean_leaves l all.0, clean_leaves r all.1)

  same_self : (x y : ℕ)
      → IsCleanAt (place_at places x) → IsCleanAt (place_at places y) → x ≡ y → x ≡ y
  same_self x y a b e = e

  clean_lines : (xs : List Line)
      → AllNamed (λ x. x) (λ k. IsCleanAt (place_at places k)) same_self tt refl xs
      → AreClean (place_at places) xs
  clean_lines [] all = All-nil (λ x. IsCleanAt (place_at places x.leaf))
  clean_lines (x ∷ xs) all =
      All-cons (λ x. IsCleanAt (place_at places x.leaf)) x xs all.0 (clean_lines xs all.1)

  module _ (within : Prefix) where
    chosen : published_lines whole within
        ≡ map (relabelled renumbered) (lines_of (part_of t within) within)
    unfolding published_lines
    chosen =
        ap (λ s. lines_of (part_of s within) within)
        (map_twice (number_in order) (place_at places) t)
        ∙ chosen-name renumbered IsNamed named_apart zero_named zero_is t within all_named

    same_feed : feed_text (place_at places) (lines_of (part_of t within) within)
        ≡ published whole within
    unfolding published
    same_feed =
        lines_same (lines_of (part_of t within) within)
        (chosen_named renumbered IsNamed named_apart zero_named zero_is t within all_named)
        ∙ ap (feed_text (numbered order)) (sym chosen)

    same_count : length (lines_of (part_of t within) within) ≡ length (published_lines whole within)
    same_count =
        sym (length-map (lines_of (part_of t within) within) (relabelled renumbered))
        ∙ ap length (sym chosen)

pub numbers_do_not_matter : NumbersDoNotMatter
unfolding published_feed
numbers_do_not_matter places distinct t few within =
    let lines = lines_of (part_of t within) within in
    let named = chosen_named (renumbered places distinct t few) (IsNamed places distinct t few)
    (named_apart places distinct t few) (zero_named places distinct t few)
    (zero_is places distinct t few) t within (all_named places distinct t few) in
    record {
      text = same_feed places distinct t few within;
      count = same_count places distinct t few within;
      said = λ url.
          let entries = entries_same places distinct t few 1 lines named
          ∙ ap (λ xs. map (entry_of (numbered (order places distinct t few))) (enumerate_from 1 xs))
          (sym (chosen places distinct t few within)) in
          λ i. record { url = url; entries = entries i; notes = [] };
      clean = λ all. clean_lines places distinct t few lines
          (chosen_named (λ x. x) (λ k. IsCleanAt (place_at places k)) (same_self places distinct t
          few) tt refl t within (clean_leaves places distinct t few t all));
    }
