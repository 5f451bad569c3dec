-- No list of lines that answers as a tree does is shorter than the tree's price.
use Rattle.std.proofs.Common.{◌≡◌, ℕ, zero, suc, ◌+◌, ◌-◌, ◌*◌, ◌^◌, ◌<◌, ◌≤◌, Bool, true}
use Rattle.std.proofs.Common.{false, nat_eq, if◌then◌else◌, List, [], ◌∷◌, length, Option, None}
use Rattle.std.proofs.Common.{Some, refl, sym, ap, subst, ◌∙◌, arith}
use Rattle.std.proofs.Math.Nat.{two-pow-succ}
use Rattle.std.proofs.lemmas.Nat.{pow_pos}
use Rattle.geo_addr.specs.Bits.{bits_of}
use Rattle.geo_addr.proofs.BitsLemmas.{bits_of-lower, bits_of-upper, bits_of-add_multiple}
use Rattle.trie_core.specs.Tree.{Tree, leaf, node, height, look}
use Rattle.trie_core.proofs.TreeLemmas.{nat_equality}
use Rattle.publish_least.specs.declared.line.Line.{Line}
use Rattle.publish_least.specs.Lines.{longest, leaf_or}
use Rattle.publish_least.specs.Price.{cost, has, best}
use Rattle.publish_least.proofs.PriceLemmas.{miss, halves_of, node_priced}
use Rattle.publish_least.proofs.Spans.{spans, Fits, doubled, doubled_more}
use Rattle.publish_least.proofs.LongestLemmas.{Each, leaf_or-or_else, Split, split}

-- the way of an address of the lower half, and of one of the upper half
pub bits_of-in_lower : (n q a : ℕ) → q * 2 ^ suc n ≤ a → a < q * 2 ^ suc n + 2 ^ n
    → bits_of (suc n) a ≡ false ∷ bits_of n a
bits_of-in_lower n q a from to =
    let r : ℕ = a - q * 2 ^ suc n in
    let is : a ≡ r + 2 ^ suc n * q = omega arith in
    let low = doubled n q in
    let half : a ≡ r + 2 ^ n * (2 * q) = omega arith in
    ap (bits_of (suc n)) is ∙ bits_of-add_multiple (suc n) r q ∙ bits_of-lower n r (omega arith)
    ∙ ap (λ w. false ∷ w) (sym (bits_of-add_multiple n r (2 * q)) ∙ sym (ap (bits_of n) half))

pub bits_of-in_upper : (n q a : ℕ) → q * 2 ^ suc n + 2 ^ n ≤ a → a < q * 2 ^ suc n + 2 ^ suc n
    → bits_of (suc n) a ≡ true ∷ bits_of n a
bits_of-in_upper n q a from to =
    let r : ℕ = a - (q * 2 ^ suc n + 2 ^ n) in
    let power : 2 ^ suc n ≡ 2 ^ n + 2 ^ n = two-pow-succ n in
    let is : a ≡ (2 ^ n + r) + 2 ^ suc n * q = omega arith in
    let high = doubled_more n q in
    let half : a ≡ r + 2 ^ n * (2 * q + 1) = omega arith in
    ap (bits_of (suc n)) is
    ∙ bits_of-add_multiple (suc n) (2 ^ n + r) q ∙ bits_of-upper n r (omega arith)
    ∙ ap (λ w. true ∷ w) (sym (bits_of-add_multiple n r (2 * q + 1)) ∙ sym (ap (bits_of n) half))

-- lines answer as a tree does in the q-th block of 2 ^ n addresses, where d is inherited
abbrev pub AnswersBlock : ℕ → ℕ → Tree ℕ → ℕ → List Line → Type 0
AnswersBlock n q t d lines =
    (a : ℕ) → q * 2 ^ n ≤ a → a < q * 2 ^ n + 2 ^ n
    → look t (bits_of n a) ≡ Some (leaf_or d (longest (λ b. spans b a) lines))

leaf_price : (b : Bool) → b ≡ true → (if b then 0 else 1) ≤ 0
leaf_price true is = omega arith
leaf_price false is = absurd (cc)

some_price : (b : Bool) (n : ℕ) → (if b then 0 else 1) ≤ suc n
some_price true n = omega arith
some_price false n = omega arith

miss_at_most : (b : Bool) → miss b ≤ 1
miss_at_most true = omega arith
miss_at_most false = omega arith

module _ (l r : Tree ℕ) (n q d : ℕ) (lines : List Line) (s : Split n q lines)
    (answers : AnswersBlock (suc n) q (node l r) d lines) where
  -- the leaf that the halves inherit
  stands : ℕ
  stands = leaf_or d s.root

  left_answers : AnswersBlock n (2 * q) l (leaf_or d s.root) s.lefts
  left_answers a from to =
      let at = doubled n q in
      let power : 2 ^ suc n ≡ 2 ^ n + 2 ^ n = two-pow-succ n in
      let lower : q * 2 ^ suc n ≤ a = omega arith in
      let upper : a < q * 2 ^ suc n + 2 ^ n = omega arith in
      sym (ap (look (node l r)) (bits_of-in_lower n q a lower upper))
      ∙ answers a lower (omega arith) ∙ ap (λ x. Some (leaf_or d x)) (s.is.low a lower upper)
      ∙ ap Some (leaf_or-or_else d (longest (λ b. spans b a) s.lefts) s.root)

  right_answers : AnswersBlock n (2 * q + 1) r (leaf_or d s.root) s.rights
  right_answers a from to =
      let at = doubled_more n q in
      let power : 2 ^ suc n ≡ 2 ^ n + 2 ^ n = two-pow-succ n in
      let lower : q * 2 ^ suc n + 2 ^ n ≤ a = omega arith in
      let upper : a < q * 2 ^ suc n + 2 ^ suc n = omega arith in
      sym (ap (look (node l r)) (bits_of-in_upper n q a lower upper))
      ∙ answers a (omega arith) upper ∙ ap (λ x. Some (leaf_or d x)) (s.is.high a lower upper)
      ∙ ap Some (leaf_or-or_else d (longest (λ b. spans b a) s.rights) s.root)

  -- by the line of the whole block
  node_least : (root : Option Line) → s.root ≡ root → cost l (leaf_or d s.root) ≤ length s.lefts
      → cost r (leaf_or d s.root) ≤ length s.rights → cost (node l r) d ≤ length lines
  node_least None is left right =
      let same : leaf_or d s.root ≡ d = ap (leaf_or d) is in
      let first : cost l d ≤ length s.lefts = subst (λ x. cost l x ≤ length s.lefts) same left in
      let second : cost r d ≤ length s.rights =
      subst (λ x. cost r x ≤ length s.rights) same right in
      let few = s.is.none is in
      omega arith
  node_least (Some y) is left right =
      let halves = halves_of l r in
      let price = (node_priced l r halves.0 halves.1).price d in
      let any = halves.1.any (leaf_or d s.root) in
      let few = s.is.one y is in
      let at_most = miss_at_most (has (best (node l r)) d) in
      omega arith

pub cost_least : (t : Tree ℕ) (n q d : ℕ) (lines : List Line) → height t ≤ n
    → Each (λ x. Fits n q x.block) lines → AnswersBlock n q t d lines → cost t d ≤ length lines
cost_least (leaf x) n q d [] low each answers =
    let some = pow_pos n in
    let same : Some x ≡ Some d = answers (q * 2 ^ n) (omega arith) (omega arith) in
    leaf_price (nat_eq d x) ((nat_equality d x).1 (cc))
cost_least (leaf x) n q d (y ∷ ys) low each answers = some_price (nat_eq d x) (length ys)
cost_least (node l r) zero q d lines low each answers = absurd (omega arith)
cost_least (node l r) (suc n) q d lines low each answers =
    let s = split n q lines each in
    node_least l r n q d lines s answers s.root refl
    (cost_least l n (2 * q) (leaf_or d s.root) s.lefts (omega arith) s.is.lefts_fit
    (left_answers l r n q d lines s answers))
    (cost_least r n (2 * q + 1) (leaf_or d s.root) s.rights (omega arith) s.is.rights_fit
    (right_answers l r n q d lines s answers))
