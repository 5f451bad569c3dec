-- The least lines of a tree under a block: what holds of its numbers holds of the block.
use Rattle.std.proofs.Common.{◌≡◌, inl, inr, ℕ, ◌+◌, ◌-◌, ◌*◌, ◌/◌, ◌^◌, ◌<◌, ◌≤◌, Bool}
use Rattle.std.proofs.Common.{true, false, ◌&&◌, if◌then◌else◌, max, nat_eq, List, [], ◌∷◌, ◌++◌}
use Rattle.std.proofs.Common.{length, All, Some, refl, sym, ap, ◌∙◌, arith}
use Rattle.std.specs.Prelude.{nat_le}
use Rattle.std.proofs.lemmas.Bool.{cases_lt}
use Rattle.std.proofs.lemmas.Bool.Decides.{Decides-ltb}
use Rattle.std.proofs.lemmas.List.Elements.{All-head, All-tail}
use Rattle.std.proofs.lemmas.Nat.{pow_pos}
use Rattle.std.proofs.Math.Pow.{pow-lt}
use Rattle.geo_addr.specs.Bits.{bits_of}
use Rattle.geo_addr.specs.Ranges.{Prefix, IsBlock, IsWithin, range_of_block, ground_first}
use Rattle.geo_addr.specs.Ranges.{holds, is_v4}
use Rattle.trie_core.specs.Tree.{Tree, height, look}
use Rattle.least_nodes.specs.Layout.{leaves, each_once}
use Rattle.publish_least.specs.declared.line.Line.{Line}
use Rattle.publish_least.specs.Lines.{longest, leaf_or, answer, IsInside, AreInside, AnswerAs}
use Rattle.publish_least.specs.Lines.{AreFewest, InPreorder, IsPlain}
use Rattle.publish_least.specs.Price.{cost, has}
use Rattle.publish_least.specs.Choice.{order_after, lines_of}
use Rattle.geo_addr.proofs.Blocks.{block_ends_within}
use Rattle.publish_least.proofs.HasLemmas.{has-first, has-cases, has-append}
use Rattle.publish_least.proofs.PriceLemmas.{or_left, or_right}
use Rattle.publish_least.proofs.Spans.{spans, Fits}
use Rattle.publish_least.proofs.LongestLemmas.{Each, Each-weaker, longest-agree}
use Rattle.publish_least.proofs.LowerBound.{cost_least}
use Rattle.publish_least.proofs.Greedy.{IsOrdered, IsNth, All-from_each, length-lines_below}
use Rattle.publish_least.proofs.Greedy.{lines_fit, lines_answer, InPreorder-lines}

-- the number of a block among those of its length
abbrev pub block_number : Prefix → ℕ
block_number b = b.first / 2 ^ (128 - b.len)

pub IsNth-of_block : (b : Prefix) → IsBlock b → IsNth (128 - b.len) (block_number b) b
IsNth-of_block b block =
    let fits = block.length_fits in
    let aligned = block.aligned in
    let some = pow_pos (128 - b.len) in
    record { long = omega arith; at = omega arith }

-- a smaller power of two has a smaller exponent
power_below : (i j : ℕ) → 2 ^ i ≤ 2 ^ j → i ≤ j
power_below i j fits = elim (cases_lt j i) [
  | inl less ↦ absurd (let h = pow-lt less in omega arith)
  | inr no-less ↦ no-less
]

-- what lies inside a block, as numbers and as addresses
pub Fits-from_inside : (within b : Prefix) → IsBlock within → IsInside within b
    → Fits (128 - within.len) (block_number within) b
Fits-from_inside within b block inside =
    let nth = IsNth-of_block within block in
    let at = nth.at in
    let some = pow_pos (128 - b.len) in
    let more = pow_pos (128 - within.len) in
    let first = inside.first in
    let last = inside.last in
    record {
      length = inside.aligned.length_fits;
      short = power_below (128 - b.len) (128 - within.len) (omega arith);
      first = omega arith;
      last = omega arith;
      aligned = inside.aligned.aligned;
    }

inside_from_Fits : (within b : Prefix) → IsBlock within
    → Fits (128 - within.len) (block_number within) b → b.first < 2 ^ 128 → IsInside within b
inside_from_Fits within b block fits below =
    let nth = IsNth-of_block within block in
    let at = nth.at in
    let some = pow_pos (128 - b.len) in
    let more = pow_pos (128 - within.len) in
    let first = fits.first in
    let last = fits.last in
    record {
      aligned = record { length_fits = fits.length; within = below; aligned = fits.aligned };
      first = omega arith;
      last = omega arith;
    }

-- the ground of a block of a plain block is all of it
ground_whole : (within b : Prefix) → IsPlain within → IsInside within b
    → ground_first (range_of_block b) ≡ b.first
unfolding ground_first
ground_whole within b (inl v4) inside =
    let last = inside.last in
    ap (λ (p : Bool). if p then b.first else max b.first (2 ^ 32))
    ((Decides-ltb (range_of_block b).last (2 ^ 32)).1 (omega arith))
ground_whole within b (inr v6) inside = by (is_v4 (range_of_block b))
  where
    by : (p : Bool) → (if p then b.first else max b.first (2 ^ 32)) ≡ b.first
    by true = refl
    by false = let first = inside.first in omega arith

pub holds-plain : (within b : Prefix) (a : ℕ) → IsPlain within → IsInside within b
    → holds (range_of_block b) a ≡ spans b a
unfolding holds
holds-plain within b a plain inside =
    ap (λ f. nat_le f a && nat_le a (range_of_block b).last) (ground_whole within b plain inside)

Each-from_All : {X : Type 0} (P : X → Type 0) (xs : List X) → All P xs → Each P xs
Each-from_All P [] all = tt
Each-from_All P (x ∷ xs) all = (All-head P x xs all, Each-from_All P xs (All-tail P x xs all))

-- ---- the order of the leaves

kept : (seen xs : List ℕ) (x : ℕ) → has seen x ≡ true → has (each_once nat_eq seen xs) x ≡ true
kept seen [] x is = is
kept seen (y ∷ ys) x is =
    by (has seen y) (kept seen ys x is) (kept (seen ++ y ∷ []) ys x
    (has-append seen (y ∷ []) x ∙ or_left (has seen x) (has (y ∷ []) x) is))
  where
    by : (p : Bool) → has (each_once nat_eq seen ys) x ≡ true
        → has (each_once nat_eq (seen ++ y ∷ []) ys) x ≡ true → has
        (if p then each_once nat_eq seen ys else each_once nat_eq (seen ++ y ∷ []) ys) x ≡ true
    by true old new = old
    by false old new = new

listed : (seen xs : List ℕ) (x : ℕ) → has xs x ≡ true → has (each_once nat_eq seen xs) x ≡ true
listed seen [] x is = absurd (cc)
listed seen (y ∷ ys) x is =
    elim (has-cases x y ys is) [
      | inl here ↦ by (has seen y) refl (λ old. kept seen ys x (ap (has seen) here ∙ old))
          (kept (seen ++ y ∷ []) ys x (has-append seen (y ∷ []) x
          ∙ or_right (has seen x) (has (y ∷ []) x) (ap (has (y ∷ [])) here ∙ has-first y [])))
      | inr later ↦
          by (has seen y) refl (λ old. listed seen ys x later) (listed (seen ++ y ∷ []) ys x later)
    ]
  where
    by : (p : Bool) → has seen y ≡ p → (has seen y ≡ true → has (each_once nat_eq seen ys) x ≡ true)
        → has (each_once nat_eq (seen ++ y ∷ []) ys) x ≡ true
        → has (if p then each_once nat_eq seen ys else each_once nat_eq (seen ++ y ∷ []) ys) x
        ≡ true
    by true is old new = old is
    by false is old new = new

pub IsOrdered-order_after : (seen : List ℕ) (t : Tree ℕ) → IsOrdered (order_after seen t) t
IsOrdered-order_after seen t x is = listed seen (leaves t) x is

pub IsOrdered-kept : (seen : List ℕ) (t s : Tree ℕ) → IsOrdered seen s
    → IsOrdered (order_after seen t) s
IsOrdered-kept seen t s ordered x is = kept seen (leaves t) x (ordered x is)

-- ---- all of it

module _ (t : Tree ℕ) (within : Prefix) (block : IsBlock within) (plain : IsPlain within)
    (low : height t ≤ 128 - within.len) where
  order : List ℕ
  order = order_after (0 ∷ []) t

  lines_fit_block : Each (λ x. Fits (128 - within.len) (block_number within) x.block)
      (lines_of t within)
  lines_fit_block =
      lines_fit (order_after (0 ∷ []) t) t (128 - within.len) (block_number within) within 0 low
      (IsNth-of_block within block)

  -- the addresses of the block, as numbers
  from_first : (a : ℕ) → IsWithin (range_of_block within) a
      → block_number within * 2 ^ (128 - within.len) ≤ a
  from_first a is =
      let nth = IsNth-of_block within block in let at = nth.at in
      let first = is.0 in omega arith

  to_last : (a : ℕ) → IsWithin (range_of_block within) a
      → a < block_number within * 2 ^ (128 - within.len) + 2 ^ (128 - within.len)
  to_last a is =
      let nth = IsNth-of_block within block in let at = nth.at in let last = is.1 in
      let some = pow_pos (128 - within.len) in omega arith

  is_within : (a : ℕ) → block_number within * 2 ^ (128 - within.len) ≤ a
      → a < block_number within * 2 ^ (128 - within.len) + 2 ^ (128 - within.len)
      → IsWithin (range_of_block within) a
  is_within a from to =
      let nth = IsNth-of_block within block in
      let at = nth.at in let some = pow_pos (128 - within.len) in
      (omega arith, omega arith)

  -- lines inside the block answer by the ends of their blocks
  same_answer : (lines : List Line) (a : ℕ) → AreInside within lines
      → answer lines a ≡ leaf_or 0 (longest (λ c. spans c a) lines)
  same_answer lines a inside =
      ap (leaf_or 0) (longest-agree (λ b. holds (range_of_block b) a) (λ c. spans c a) lines
      (Each-weaker (λ x. IsInside within x.block) (λ x. holds (range_of_block x.block) a
      ≡ spans x.block a) (λ x is. holds-plain within x.block a plain is) lines
      (Each-from_All (λ x. IsInside within x.block) lines inside)))

  pub least_inside : AreInside within (lines_of t within)
  least_inside =
      All-from_each (λ x. IsInside within x.block) (lines_of t within)
      (Each-weaker (λ x. Fits (128 - within.len) (block_number within) x.block)
      (λ x. IsInside within x.block)
      (λ x fits.
      let nth = IsNth-of_block within block in
      let at = nth.at in
      let last = fits.last in
      let some = pow_pos (128 - x.block.len) in
      let end : within.first + (2 ^ (128 - within.len) - 1) < 2 ^ 128 =
      block_ends_within within.first (128 - within.len) (omega arith) block.within block.aligned in
      inside_from_Fits within x.block block fits (omega arith)) (lines_of t within) lines_fit_block)

  pub least_preorder : InPreorder (lines_of t within)
  least_preorder =
      InPreorder-lines (order_after (0 ∷ []) t) t (128 - within.len)
      (block_number within) within 0 low (IsNth-of_block within block)

  pub least_answers : AnswerAs (λ a. look t (bits_of (128 - within.len) a)) within
      (lines_of t within)
  least_answers a is =
      lines_answer (order_after (0 ∷ []) t) t (128 - within.len) (block_number within) within 0 a
      (IsOrdered-order_after (0 ∷ []) t) low (IsNth-of_block within block) (from_first a is)
      (to_last a is)
      ∙ ap Some (sym (same_answer (lines_of t within) a least_inside))

  pub least_price : length (lines_of t within) ≡ cost t 0
  least_price =
      length-lines_below (order_after (0 ∷ []) t) t within 0 (IsOrdered-order_after (0 ∷ []) t)

  pub least_fewest : AreFewest (λ a. look t (bits_of (128 - within.len) a)) within
      (lines_of t within)
  least_fewest others inside answers =
      let price = least_price in
      let fewest : cost t 0 ≤ length others =
      cost_least t (128 - within.len) (block_number within) 0 others low
      (Each-weaker (λ x. IsInside within x.block) (λ x. Fits (128 - within.len)
      (block_number within) x.block) (λ x is. Fits-from_inside within x.block block is) others
      (Each-from_All (λ x. IsInside within x.block) others inside))
      (λ a from to. answers a (is_within a from to) ∙ ap Some (same_answer others a inside)) in
      omega arith
