-- The published lines of sources say what the sources say, and no fewer lines do.
use Rattle.std.proofs.Common.{inl, ◌≡◌, ℕ, ◌-◌, ◌^◌, ◌<◌, ◌≤◌, Bool, true}
use Rattle.std.proofs.Common.{false, cond, nat_le, List, [], ◌∷◌, map, length, Option, None}
use Rattle.std.proofs.Common.{Some, option_map, refl, sym, ap, ◌∙◌, subst, arith}
use Rattle.std.proofs.lemmas.List.{length-map}
use Rattle.std.proofs.lemmas.List.Elements.{All-map}
use Rattle.geo_addr.specs.Bits.{bits_of}
use Rattle.geo_addr.specs.Ranges.{Prefix, IsBlock, IsWithin, range_of_block, holds}
use Rattle.geo_addr.proofs.Blocks.{block_ends_within}
use Rattle.geo_terms.specs.PlaceForm.{PlaceParts}
use Rattle.geo_terms.specs.Precedence.{record_at}
use Rattle.geo_terms.specs.Sources.{InForce}
use Rattle.trie_core.specs.Tree.{Tree, leaf, node, height, look, map_tree}
use Rattle.trie_core.proofs.RenameLemmas.{height-map_tree, look-map_tree}
use Rattle.trie_core.proofs.TreeLemmas.{TreeOfFunction-holds}
use Rattle.feed_csv.specs.File.{feed}
use Rattle.least_nodes.specs.Layout.{leaves}
use Rattle.least_nodes.proofs.Elements.{In, In-left, In-right, In-each_once-new}
use Rattle.mmdb_file.specs.FileImage.{record_tree, same_answer}
use Rattle.mmdb_file.proofs.PlaceTreeLemmas.{answer_equality}
use Rattle.publish_least.specs.Choice.{lines_of, part_of}
use Rattle.publish_least.specs.Lines.{AreInside, IsInside, IsPlain, answer, leaf_or, longer}
use Rattle.publish_least.specs.Lines.{longest}
use Rattle.publish_least.specs.declared.line.Line.{Line}
use Rattle.publish_least.proofs.PartLemmas.{height-part, look-part}
use Rattle.publish_least.proofs.Whole.{least_answers, least_fewest, least_inside}
use Rattle.published.specs.PlaceLines.{answers, number_in, numbered, published, published_feed}
use Rattle.published.specs.PlaceLines.{published_lines}
use Rattle.published.specs.Shortest.{IsShortestFeed, PublishedIsShortest, SayAs}
use Rattle.published.proofs.Numbering.{finds, first_number, no_place}
use Rattle.published.proofs.Renumber.{relabelled}

-- ---- the answer of lines with other numbers

module _ (f : ℕ → ℕ) (zero_is : f 0 ≡ 0) where
  longer-name : (x : Line) (o : Option Line) → longer (relabelled f x) (option_map (relabelled f) o)
      ≡ option_map (relabelled f) (longer x o)
  longer-name x None = refl
  longer-name x (Some y) = by (nat_le y.block.len x.block.len)
    where
      by : (b : Bool) → cond b (Some (relabelled f x)) (Some (relabelled f y))
          ≡ option_map (relabelled f) (cond b (Some x) (Some y))
      by true = refl
      by false = refl

  longest-name : (test : Prefix → Bool) (xs : List Line)
      → longest test (map (relabelled f) xs) ≡ option_map (relabelled f) (longest test xs)
  longest-name test [] = refl
  longest-name test (x ∷ xs) =
      by (test x.block) (ap (longer (relabelled f x)) (longest-name test xs)
      ∙ longer-name x (longest test xs)) (longest-name test xs)
    where
      by : (b : Bool) → longer (relabelled f x) (longest test (map (relabelled f) xs))
          ≡ option_map (relabelled f) (longer x (longest test xs))
          → longest test (map (relabelled f) xs) ≡ option_map (relabelled f) (longest test xs)
          → cond b (longer (relabelled f x) (longest test (map (relabelled f) xs)))
          (longest test (map (relabelled f) xs))
          ≡ option_map (relabelled f) (cond b (longer x (longest test xs)) (longest test xs))
      by true first second = first
      by false first second = second

  leaf-name : (o : Option Line) → leaf_or 0 (option_map (relabelled f) o) ≡ f (leaf_or 0 o)
  leaf-name None = sym zero_is
  leaf-name (Some x) = refl

  answer-name : (xs : List Line) (a : ℕ) → answer (map (relabelled f) xs) a ≡ f (answer xs a)
  answer-name xs a =
      ap (leaf_or 0) (longest-name (λ b. holds (range_of_block b) a) xs)
      ∙ leaf-name (longest (λ b. holds (range_of_block b) a) xs)

-- ---- what a tree answers is one of its leaves

look_leaf : {A : Type 0} (t : Tree A) (w : List Bool) (x : A) → look t w ≡ Some x → In x (leaves t)
look_leaf (leaf a) w x is = inl (let same : a ≡ x = cc in sym same)
look_leaf (node l r) [] x is = absurd cc
look_leaf (node l r) (false ∷ w) x is = In-left x (leaves l) (leaves r) (look_leaf l w x is)
look_leaf (node l r) (true ∷ w) x is = In-right x (leaves l) (leaves r) (look_leaf r w x is)

module _ (s : InForce) (within : Prefix) (block : IsBlock within) (plain : IsPlain within) where
  abbrev whole : Tree (Option PlaceParts)
  whole = record_tree s

  abbrev order : List (Option PlaceParts)
  order = answers whole

  abbrev g : Option PlaceParts → ℕ
  g = number_in order

  abbrev t : Tree ℕ
  t = map_tree g whole

  low : height t ≤ 128
  unfolding record_tree
  low =
      let same : height t ≡ height whole = height-map_tree g whole in
      let within_128 = (TreeOfFunction-holds same_answer answer_equality (record_at s) 128).0.0 in
      omega arith

  low_part : height (part_of t within) ≤ 128 - within.len
  low_part = height-part t within low

  below_end : (a : ℕ) → IsWithin (range_of_block within) a → a < 2 ^ 128
  below_end a inside =
      let end =
      block_ends_within within.first (128 - within.len) (omega arith) block.within block.aligned in
      omega (arith, inside.1)

  whole_is : (a : ℕ) → a < 2 ^ 128 → look whole (bits_of 128 a) ≡ Some (record_at s a)
  unfolding record_tree
  whole_is a below = (TreeOfFunction-holds same_answer answer_equality (record_at s) 128).1 a below

  part_is : (a : ℕ) → IsWithin (range_of_block within) a
      → look (part_of t within) (bits_of (128 - within.len) a) ≡ Some (g (record_at s a))
  part_is a inside =
      sym (look-part t within block a inside)
      ∙ look-map_tree g whole (bits_of 128 a)
      ∙ ap (option_map g) (whole_is a (below_end a inside))

  back : (a : ℕ) → a < 2 ^ 128 → numbered order (g (record_at s a)) ≡ record_at s a
  back a below =
      finds same_answer answer_equality (record_at s a) None order
      (In-each_once-new same_answer answer_equality (record_at s a) (None ∷ []) (leaves whole)
      (look_leaf whole (bits_of 128 a) (record_at s a) (whole_is a below)))

  some_number : (m n : ℕ) → Some m ≡ Some n → m ≡ n
  some_number m n e = cc

  inside : AreInside within (published_lines whole within)
  unfolding published_lines
  inside = least_inside (part_of t within) within block plain low_part

  say : SayAs (record_at s) within (numbered order) (published_lines whole within)
  unfolding published_lines
  say a inside =
      let number = some_number (answer (lines_of (part_of t within) within) a) (g (record_at s a))
      (sym (least_answers (part_of t within) within block plain low_part a inside)
      ∙ part_is a inside) in
      ap (numbered order) number ∙ back a (below_end a inside)

  module _ (other : ℕ → Option PlaceParts) (others : List Line) (none : other 0 ≡ None)
      (inside : AreInside within others) (says : SayAs (record_at s) within other others) where
    abbrev f : ℕ → ℕ
    f k = g (other k)

    zero_is : f 0 ≡ 0
    zero_is = ap g none ∙ first_number whole

    fewest : length (published_lines whole within) ≤ length others
    unfolding published_lines
    fewest =
        subst (λ (n : ℕ). length (lines_of (part_of t within) within) ≤ n)
        (length-map others (relabelled f))
        (least_fewest (part_of t within) within block plain low_part (map (relabelled f) others)
        (All-map (λ x. IsInside within x.block) (relabelled f) others inside)
        (λ a at. part_is a at ∙ ap Some (sym (answer-name f zero_is others a ∙ ap g (says a at)))))

pub published_is_shortest : PublishedIsShortest
published_is_shortest s within block plain = record {
  none = no_place (record_tree s);
  inside = inside s within block plain;
  say = say s within block plain;
  fewest = fewest s within block plain;
}

-- what is published of clean sources is a shortest feed
pub shortest_feed : (s : InForce) (within : Prefix) (bytes : List ℕ) → IsBlock within
    → IsPlain within → bytes ≡ published (record_tree s) within
    → ((url : List ℕ) → feed url bytes ≡ published_feed url (record_tree s) within)
    → IsShortestFeed s within bytes
unfolding published published_feed
shortest_feed s within bytes block plain text reads = record {
  place_of = numbered (answers (record_tree s));
  lines = published_lines (record_tree s) within;
  shortest = published_is_shortest s within block plain;
  text = text;
  reads_back = reads;
}
