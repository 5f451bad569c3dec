-- The least lines under a block of a store's root.
use Rattle.std.proofs.Common.{◌≡◌, ℕ, ◌-◌, ◌≤◌, List, length, sym, ap, subst, ◌∙◌}
use Rattle.geo_addr.specs.Bits.{bits_of}
use Rattle.geo_addr.specs.Ranges.{Prefix, IsBlock, IsWithin, range_of_block}
use Rattle.trie_core.specs.declared.node.Root.{Root}
use Rattle.trie_core.specs.declared.node.Pair.{Pair}
use Rattle.trie_core.specs.Tree.{Tree, height, look}
use Rattle.trie_core.specs.Store.{tree_of, leaf_at}
use Rattle.publish_least.specs.declared.line.Line.{Line}
use Rattle.publish_least.specs.Lines.{AreInside, AnswerAs, AreFewest, InPreorder, IsPlain}
use Rattle.publish_least.specs.Price.{cost}
use Rattle.publish_least.specs.Choice.{lines_of, part_of}
use Rattle.publish_least.proofs.PartLemmas.{look-part}
use Rattle.publish_least.proofs.Whole.{least_inside, least_preorder, least_answers, least_fewest}
use Rattle.publish_least.proofs.Whole.{least_price}

module _ (pairs : List Pair) (root : Root) (within : Prefix) (t : Tree ℕ)
    (is : t ≡ part_of (tree_of pairs root) within) (block : IsBlock within) (plain : IsPlain within)
    (low : height t ≤ 128 - within.len)
    (lines : List Line) (same : lines ≡ lines_of t within) where
  pub lines_are : lines ≡ lines_of (part_of (tree_of pairs root) within) within
  lines_are = same ∙ ap (λ s. lines_of s within) is

  pub are_inside : AreInside within lines
  are_inside = subst (AreInside within) (sym same) (least_inside t within block plain low)

  pub in_preorder : InPreorder lines
  in_preorder = subst InPreorder (sym same) (least_preorder t within block plain low)

  leaf_is : (a : ℕ) → IsWithin (range_of_block within) a
      → leaf_at pairs root a ≡ look t (bits_of (128 - within.len) a)
  leaf_is a inside =
      look-part (tree_of pairs root) within block a inside
      ∙ ap (λ s. look s (bits_of (128 - within.len) a)) (sym is)

  pub answer_as : AnswerAs (leaf_at pairs root) within lines
  answer_as =
      subst (AnswerAs (leaf_at pairs root) within) (sym same)
      (λ a inside. leaf_is a inside ∙ least_answers t within block plain low a inside)

  pub are_fewest : AreFewest (leaf_at pairs root) within lines
  are_fewest =
      subst (AreFewest (leaf_at pairs root) within)
      (sym same) (λ others inside answers. least_fewest t within block plain low others inside
      (λ a at. sym (leaf_is a at) ∙ answers a at))

  pub price_is : length lines ≡ cost (part_of (tree_of pairs root) within) 0
  price_is = ap length same ∙ least_price t within block plain low ∙ ap (λ s. cost s 0) is
