-- The chosen lines of a tree: how many they are, where they lie, what they answer, and their order.
use Rattle.std.proofs.Common.{◌≡◌, ◌⊎◌, inl, inr, ℕ, zero, suc, ◌+◌, ◌-◌, ◌*◌, ◌^◌, ◌<◌, ◌≤◌, Bool}
use Rattle.std.proofs.Common.{true, false, ◌||◌, nat_eq, if◌then◌else◌, List, [], ◌∷◌, ◌++◌, length}
use Rattle.std.proofs.Common.{All, Option, None, Some, refl, sym, ap, subst, ◌∙◌, arith}
use Rattle.std.proofs.Common.{length-append}
use Rattle.std.proofs.lemmas.Bool.{cases_lt}
use Rattle.std.proofs.lemmas.List.Elements.{All-nil, All-cons}
use Rattle.std.proofs.Math.Nat.{two-pow-succ}
use Rattle.std.proofs.lemmas.Nat.{pow_pos}
use Rattle.geo_addr.specs.Bits.{bits_of}
use Rattle.geo_addr.specs.Ranges.{Prefix}
use Rattle.trie_core.specs.Tree.{Tree, leaf, node, height, look}
use Rattle.trie_core.proofs.TreeLemmas.{nat_equality}
use Rattle.least_nodes.specs.Layout.{leaves}
use Rattle.publish_least.specs.declared.line.Line.{Line}
use Rattle.publish_least.specs.Lines.{longer, longest, leaf_or, IsBefore, InPreorder}
use Rattle.publish_least.specs.Price.{cost, has, best}
use Rattle.publish_least.specs.Choice.{lower_half, upper_half, first_of, standing, root_line}
use Rattle.publish_least.specs.Choice.{lines_below}
use Rattle.publish_least.proofs.HasLemmas.{has-cases, has-append}
use Rattle.publish_least.proofs.PriceLemmas.{miss, priced, halves_of, node_priced, or_left}
use Rattle.publish_least.proofs.PriceLemmas.{or_right}
use Rattle.publish_least.proofs.Spans.{spans, spans-true, spans-false_before, spans-false_behind}
use Rattle.publish_least.proofs.Spans.{doubled, doubled_more, Fits, Fits-whole, Fits-from_lower}
use Rattle.publish_least.proofs.Spans.{Fits-from_upper}
use Rattle.publish_least.proofs.LongestLemmas.{Each, Each-append, Each-weaker, longer-of_longer}
use Rattle.publish_least.proofs.LongestLemmas.{longest-passed, longest-each, longest-front}
use Rattle.publish_least.proofs.LongestLemmas.{longest-back}
use Rattle.publish_least.proofs.LowerBound.{bits_of-in_lower, bits_of-in_upper}

-- all leaves of a tree stand in the order
abbrev pub IsOrdered : List ℕ → Tree ℕ → Type 0
IsOrdered order t = (x : ℕ) → has (leaves t) x ≡ true → has order x ≡ true

-- the first leaf of an order that is in a list is in that list, where there is one
pub first_of-in : (order xs : List ℕ) (x : ℕ) → has order x ≡ true → has xs x ≡ true
    → has xs (first_of order xs) ≡ true
first_of-in [] xs x listed is = absurd (cc)
first_of-in (y ∷ ys) xs x listed is = by (has xs y) refl
    (λ none. elim (has-cases x y ys listed) [
      | inl here ↦ absurd (let at : has xs y ≡ true = subst (λ z. has xs z ≡ true) here is in cc)
      | inr later ↦ first_of-in ys xs x later is
    ])
  where
    by : (b : Bool) → has xs y ≡ b → (has xs y ≡ false → has xs (first_of ys xs) ≡ true)
        → has xs (if b then y else first_of ys xs) ≡ true
    by true here rest = here
    by false here rest = rest here

-- the leaf that a line at the root of a tree has is best
pub first-best : (order : List ℕ) (t : Tree ℕ) → IsOrdered order t
    → has (best t) (first_of order (best t)) ≡ true
first-best order t ordered =
    let p = priced t in
    first_of-in order (best t) p.1.some.0
    (ordered p.1.some.0 (p.1.inside p.1.some.0 p.1.some.1)) p.1.some.1

ordered_left : (order : List ℕ) (l r : Tree ℕ) → IsOrdered order (node l r) → IsOrdered order l
ordered_left order l r ordered x is =
    ordered x
    (has-append (leaves l) (leaves r) x ∙ or_left (has (leaves l) x) (has (leaves r) x) is)

ordered_right : (order : List ℕ) (l r : Tree ℕ) → IsOrdered order (node l r) → IsOrdered order r
ordered_right order l r ordered x is =
    ordered x
    (has-append (leaves l) (leaves r) x ∙ or_right (has (leaves l) x) (has (leaves r) x) is)

only_first : (x e : ℕ) → has (x ∷ []) e ≡ true → e ≡ x
only_first x e is = elim (has-cases e x [] is) [ inl here ↦ here | inr later ↦ absurd (cc) ]

or_nothing : (b : Bool) → (b || false) ≡ b
or_nothing true = refl
or_nothing false = refl

-- ---- how many they are

pub length-lines_below : (order : List ℕ) (t : Tree ℕ) (b : Prefix) (d : ℕ) → IsOrdered order t
    → length (lines_below order t b d) ≡ cost t d
length-lines_below order (leaf x) b d ordered = by (nat_eq d x)
  where
    by : (p : Bool) → length {A = Line} (if (p || false) then []
        else record { block = b; leaf = first_of order (x ∷ []) } ∷ []) ≡ (if p then 0 else 1)
    by true = refl
    by false = refl
length-lines_below order (node l r) b d ordered =
    by (has (best (node l r)) d) refl
    (λ e. length-lines_below order l (lower_half b) e (ordered_left order l r ordered))
    (λ e. length-lines_below order r (upper_half b) e (ordered_right order l r ordered))
  where
    by : (p : Bool) → has (best (node l r)) d ≡ p
        → ((e : ℕ) → length (lines_below order l (lower_half b) e) ≡ cost l e)
        → ((e : ℕ) → length (lines_below order r (upper_half b) e) ≡ cost r e)
        → length {A = Line}
        ((if p then [] else record { block = b; leaf = first_of order (best (node l r)) } ∷ [])
        ++ (lines_below order l (lower_half b) (if p then d else first_of order (best (node l r)))
        ++ lines_below order r (upper_half b) (if p then d else first_of order (best (node l r)))))
        ≡ cost (node l r) d
    by true is left right =
        let halves = halves_of l r in
        let price = (node_priced l r halves.0 halves.1).price d in
        let hit = halves.1.hit d is in
        let none : miss (has (best (node l r)) d) ≡ 0 = ap miss is in
        let first = left d in
        let second = right d in
        let sum = length-append (lines_below order l (lower_half b) d)
        (lines_below order r (upper_half b) d) in
        omega arith
    by false is left right =
        let halves = halves_of l r in
        let price = (node_priced l r halves.0 halves.1).price d in
        let e : ℕ = first_of order (best (node l r)) in
        let hit = halves.1.hit e (first-best order (node l r) ordered) in
        let one : miss (has (best (node l r)) d) ≡ 1 = ap miss is in
        let first = left e in
        let second = right e in
        let sum = length-append (lines_below order l (lower_half b) e)
        (lines_below order r (upper_half b) e) in
        omega arith

-- ---- where they lie

-- a block is the q-th of 2 ^ n addresses
pub record IsNth (n q : ℕ) (b : Prefix) : Type 0 where
  pub long : b.len + n ≡ 128
  pub at : b.first ≡ q * 2 ^ n

lower_nth : (n q : ℕ) (b : Prefix) → IsNth (suc n) q b → IsNth n (2 * q) (lower_half b)
lower_nth n q b nth =
    let at = nth.at in let long = nth.long in let low = doubled n q in
    record { long = omega arith; at = omega arith }

upper_nth : (n q : ℕ) (b : Prefix) → IsNth (suc n) q b → IsNth n (2 * q + 1) (upper_half b)
upper_nth n q b nth =
    let at = nth.at in
    let long = nth.long in
    let high = doubled_more n q in
    let exponent : 127 - b.len ≡ n = omega arith in
    let half : 2 ^ (127 - b.len) ≡ 2 ^ n = ap (λ e. 2 ^ e) exponent in
    record { long = omega arith; at = omega arith }

root-each : (P : Line → Type 0) (order : List ℕ) (t : Tree ℕ) (b : Prefix) (d : ℕ)
    → ((x : ℕ) → P (record { block = b; leaf = x })) → Each P (root_line order t b d)
root-each P order t b d all = by (has (best t) d)
  where
    by : (p : Bool)
        → Each P (if p then [] else record { block = b; leaf = first_of order (best t) } ∷ [])
    by true = tt
    by false = (all (first_of order (best t)), tt)

pub lines_fit : (order : List ℕ) (t : Tree ℕ) (n q : ℕ) (b : Prefix) (d : ℕ) → height t ≤ n
    → IsNth n q b → Each (λ x. Fits n q x.block) (lines_below order t b d)
lines_fit order (leaf x) n q b d low nth =
    root-each (λ x. Fits n q x.block) order (leaf x) b d (λ e. Fits-whole n q b nth.long nth.at)
lines_fit order (node l r) zero q b d low nth = absurd (omega arith)
lines_fit order (node l r) (suc n) q b d low nth =
    let e : ℕ = standing order (node l r) d in
    Each-append (λ x. Fits (suc n) q x.block) (root_line order (node l r) b d)
    (lines_below order l (lower_half b) e ++ lines_below order r (upper_half b) e)
    (root-each (λ x. Fits (suc n) q x.block) order (node l r) b d
    (λ e. Fits-whole (suc n) q b nth.long nth.at))
    (Each-append (λ x. Fits (suc n) q x.block) (lines_below order l (lower_half b) e)
    (lines_below order r (upper_half b) e)
    (Each-weaker (λ x. Fits n (2 * q) x.block) (λ x. Fits (suc n) q x.block)
    (λ x fits. Fits-from_lower n q x.block fits) (lines_below order l (lower_half b) e)
    (lines_fit order l n (2 * q) (lower_half b) e (omega arith) (lower_nth n q b nth)))
    (Each-weaker (λ x. Fits n (2 * q + 1) x.block) (λ x. Fits (suc n) q x.block)
    (λ x fits. Fits-from_upper n q x.block fits) (lines_below order r (upper_half b) e)
    (lines_fit order r n (2 * q + 1) (upper_half b) e (omega arith) (upper_nth n q b nth))))

-- ---- what they answer

-- a line of the whole block before lines of its halves
root_first : (order : List ℕ) (t : Tree ℕ) (b : Prefix) (d a : ℕ) (rest : List Line)
    → spans b a ≡ true → ((y : Line) → longest (λ c. spans c a) rest ≡ Some y → b.len < y.block.len)
    → leaf_or d (longest (λ c. spans c a) (root_line order t b d ++ rest))
    ≡ leaf_or (standing order t d) (longest (λ c. spans c a) rest)
root_first order t b d a rest here longer-ones = by (has (best t) d)
  where
    over : (found : Option Line) → ((y : Line) → found ≡ Some y → b.len < y.block.len)
        → leaf_or d (longer (record { block = b; leaf = first_of order (best t) }) found)
        ≡ leaf_or (first_of order (best t)) found
    over None all = refl
    over (Some y) all =
        ap (leaf_or d)
        (longer-of_longer (record { block = b; leaf = first_of order (best t) }) y (all y refl))

    by : (p : Bool) → leaf_or d (longest (λ c. spans c a)
        ((if p then [] else record { block = b; leaf = first_of order (best t) } ∷ []) ++ rest))
        ≡ leaf_or (if p then d else first_of order (best t)) (longest (λ c. spans c a) rest)
    by true = refl
    by false = ap (leaf_or d) (longest-passed (λ c. spans c a) (record {
      block = b;
      leaf = first_of order (best t);
    }) rest here) ∙ over (longest (λ c. spans c a) rest) longer-ones

-- the lines of a half do not speak for an address of the other one
behind : (n q a : ℕ) (lines : List Line) → Each (λ x. Fits n (2 * q) x.block) lines
    → q * 2 ^ suc n + 2 ^ n ≤ a → Each (λ x. spans x.block a ≡ false) lines
behind n q a lines fit from =
    Each-weaker (λ x. Fits n (2 * q) x.block) (λ x. spans x.block a ≡ false)
    (λ x fits. let low = doubled n q in let last = fits.last in
    let some = pow_pos (128 - x.block.len) in spans-false_behind x.block a (omega arith)) lines fit

before : (n q a : ℕ) (lines : List Line) → Each (λ x. Fits n (2 * q + 1) x.block) lines
    → a < q * 2 ^ suc n + 2 ^ n → Each (λ x. spans x.block a ≡ false) lines
before n q a lines fit to =
    Each-weaker (λ x. Fits n (2 * q + 1) x.block) (λ x. spans x.block a ≡ false)
    (λ x fits. let high = doubled_more n q in let first = fits.first in
    spans-false_before x.block a (omega arith)) lines fit

nth_spans : (n q : ℕ) (b : Prefix) (a : ℕ) → IsNth n q b → q * 2 ^ n ≤ a → a < q * 2 ^ n + 2 ^ n
    → spans b a ≡ true
nth_spans n q b a nth from to =
    let long = nth.long in
    let at = nth.at in
    let exponent : 128 - b.len ≡ n = omega arith in
    let size : 2 ^ (128 - b.len) ≡ 2 ^ n = ap (λ e. 2 ^ e) exponent in
    spans-true b a (omega arith) (omega arith)

-- in a half, each line is longer than one of the whole block
half_longer : (n q : ℕ) (b : Prefix) (y : Line) (p : ℕ) → IsNth (suc n) q b → Fits n p y.block
    → b.len < y.block.len
half_longer n q b y p nth fits =
    let long = nth.long in let short = fits.short in
    let fit = fits.length in omega arith

pub lines_answer : (order : List ℕ) (t : Tree ℕ) (n q : ℕ) (b : Prefix) (d a : ℕ)
    → IsOrdered order t → height t ≤ n → IsNth n q b → q * 2 ^ n ≤ a → a < q * 2 ^ n + 2 ^ n
    → look t (bits_of n a) ≡ Some (leaf_or d (longest (λ c. spans c a) (lines_below order t b d)))
lines_answer order (leaf x) n q b d a ordered low nth from to = by (nat_eq d x) refl
  where
    alone : leaf_or d (longest (λ c. spans c a)
        (record { block = b; leaf = first_of order (x ∷ []) } ∷ [])) ≡ first_of order (x ∷ [])
    alone = ap (leaf_or d) (longest-passed (λ c. spans c a) (record {
      block = b;
      leaf = first_of order (x ∷ []);
    }) [] (nth_spans n q b a nth from to))

    by : (p : Bool) → nat_eq d x ≡ p → Some x ≡ Some (leaf_or d (longest (λ c. spans c a)
        (if (p || false) then [] else record { block = b; leaf = first_of order (x ∷ []) } ∷ [])))
    by true is = ap Some (sym ((nat_equality d x).0 is))
    by false is =
        ap Some (sym (only_first x (first_of order (x ∷ [])) (first-best order (leaf x) ordered))
        ∙ sym alone)
lines_answer order (node l r) zero q b d a ordered low nth from to = absurd (omega arith)
lines_answer order (node l r) (suc n) q b d a ordered low nth from to =
    elim (cases_lt a (q * 2 ^ suc n + 2 ^ n)) [
      | inl less ↦
          let at = doubled n q in
          let here : longest (λ c. spans c a) (lefts ++ rights) ≡ longest (λ c. spans c a) lefts =
          longest-front (λ c. spans c a) lefts rights (before n q a rights rights_fit less) in
          ap (look (node l r)) (bits_of-in_lower n q a from less)
          ∙ lines_answer order l n (2 * q) (lower_half b) e a (ordered_left order l r ordered)
          (omega arith) (lower_nth n q b nth) (omega arith) (omega arith)
          ∙ ap (λ x. Some (leaf_or e x)) (sym here)
          ∙ ap Some (sym (root_first order (node l r) b d a (lefts ++ rights)
          (nth_spans (suc n) q b a nth from to)
          (λ y is. half_longer n q b y (2 * q) nth (longest-each (λ c. spans c a)
          (λ z. Fits n (2 * q) z.block) lefts lefts_fit y (sym here ∙ is)))))
      | inr more ↦
          let at = doubled_more n q in
          let power : 2 ^ suc n ≡ 2 ^ n + 2 ^ n = two-pow-succ n in
          let here : longest (λ c. spans c a) (lefts ++ rights) ≡ longest (λ c. spans c a) rights =
          longest-back (λ c. spans c a) lefts rights (behind n q a lefts lefts_fit more) in
          ap (look (node l r)) (bits_of-in_upper n q a more to)
          ∙ lines_answer order r n (2 * q + 1) (upper_half b) e a (ordered_right order l r ordered)
          (omega arith) (upper_nth n q b nth) (omega arith) (omega arith)
          ∙ ap (λ x. Some (leaf_or e x)) (sym here)
          ∙ ap Some (sym (root_first order (node l r) b d a (lefts ++ rights)
          (nth_spans (suc n) q b a nth from to)
          (λ y is. half_longer n q b y (2 * q + 1) nth (longest-each (λ c. spans c a)
          (λ z. Fits n (2 * q + 1) z.block) rights rights_fit y (sym here ∙ is)))))
    ]
  where
    e : ℕ
    e = standing order (node l r) d

    lefts : List Line
    lefts = lines_below order l (lower_half b) (standing order (node l r) d)

    rights : List Line
    rights = lines_below order r (upper_half b) (standing order (node l r) d)

    lefts_fit : Each (λ x. Fits n (2 * q) x.block)
        (lines_below order l (lower_half b) (standing order (node l r) d))
    lefts_fit =
        lines_fit order l n (2 * q) (lower_half b) (standing order (node l r) d) (omega arith)
        (lower_nth n q b nth)

    rights_fit : Each (λ x. Fits n (2 * q + 1) x.block)
        (lines_below order r (upper_half b) (standing order (node l r) d))
    rights_fit =
        lines_fit order r n (2 * q + 1) (upper_half b) (standing order (node l r) d) (omega arith)
        (upper_nth n q b nth)

-- ---- their order

pub All-from_each : {X : Type 0} (P : X → Type 0) (xs : List X) → Each P xs → All P xs
All-from_each P [] each = All-nil P
All-from_each P (x ∷ xs) each = All-cons P x xs each.0 (All-from_each P xs each.1)

-- the same order, each line by each
abbrev Ascends : List Line → Type 0
Ascends [] = Unit {0}
Ascends (x ∷ xs) = Each (IsBefore x) xs × Ascends xs

InPreorder-from_ascends : (xs : List Line) → Ascends xs → InPreorder xs
InPreorder-from_ascends [] ascends = tt
InPreorder-from_ascends (x ∷ xs) ascends =
    (All-from_each (IsBefore x) xs ascends.0, InPreorder-from_ascends xs ascends.1)

Ascends-append : (xs ys : List Line) → Ascends xs → Ascends ys → Each (λ x. Each (IsBefore x) ys) xs
    → Ascends (xs ++ ys)
Ascends-append [] ys first second between = second
Ascends-append (x ∷ xs) ys first second between = (
  Each-append (IsBefore x) xs ys first.0 between.0,
  Ascends-append xs ys first.1 second between.1,
)

-- a line of the whole block stands before those of its halves
root_before : (n q : ℕ) (b : Prefix) (x : ℕ) (y : Line)
    → IsNth (suc n) q b → Fits n (2 * q) y.block ⊎ Fits n (2 * q + 1) y.block
    → IsBefore (record { block = b; leaf = x }) y
root_before n q b x y nth side =
    elim (cases_lt b.first y.block.first) [
      | inl less ↦ inl less
      | inr no-more ↦ inr (
        elim side [
          | inl fits ↦ let low = doubled n q in let at = nth.at in let first = fits.first in
              omega arith
          | inr fits ↦ let high = doubled_more n q in let at = nth.at in let first = fits.first in
              omega arith
        ],
        elim side [
          | inl fits ↦ half_longer n q b y (2 * q) nth fits
          | inr fits ↦ half_longer n q b y (2 * q + 1) nth fits
        ],
      )
    ]

-- and those of the lower half before those of the upper one
lower_before : (n q : ℕ) (x y : Line) → Fits n (2 * q) x.block → Fits n (2 * q + 1) y.block
    → IsBefore x y
lower_before n q x y left right =
    let low = doubled n q in
    let high = doubled_more n q in
    let last = left.last in
    let first = right.first in
    let some = pow_pos (128 - x.block.len) in
    inl (omega arith)

root-ascends : (order : List ℕ) (t : Tree ℕ) (b : Prefix) (d : ℕ) → Ascends (root_line order t b d)
root-ascends order t b d = by (has (best t) d)
  where
    by : (p : Bool)
        → Ascends (if p then [] else record { block = b; leaf = first_of order (best t) } ∷ [])
    by true = tt
    by false = (tt, tt)

lines_ascend : (order : List ℕ) (t : Tree ℕ) (n q : ℕ) (b : Prefix) (d : ℕ) → height t ≤ n
    → IsNth n q b → Ascends (lines_below order t b d)
lines_ascend order (leaf x) n q b d low nth = root-ascends order (leaf x) b d
lines_ascend order (node l r) zero q b d low nth = absurd (omega arith)
lines_ascend order (node l r) (suc n) q b d low nth =
    let e : ℕ = standing order (node l r) d in
    let lefts : List Line = lines_below order l (lower_half b) e in
    let rights : List Line = lines_below order r (upper_half b) e in
    let lefts_fit : Each (λ x. Fits n (2 * q) x.block) lefts =
    lines_fit order l n (2 * q) (lower_half b) e (omega arith) (lower_nth n q b nth) in
    let rights_fit : Each (λ x. Fits n (2 * q + 1) x.block) rights =
    lines_fit order r n (2 * q + 1) (upper_half b) e (omega arith) (upper_nth n q b nth) in
    Ascends-append (root_line order (node l r) b d) (lefts ++ rights)
    (root-ascends order (node l r) b d)
    (Ascends-append lefts rights
    (lines_ascend order l n (2 * q) (lower_half b) e (omega arith) (lower_nth n q b nth))
    (lines_ascend order r n (2 * q + 1) (upper_half b) e (omega arith) (upper_nth n q b nth))
    (Each-weaker (λ x. Fits n (2 * q) x.block) (λ x. Each (IsBefore x) rights)
    (λ x left. Each-weaker (λ y. Fits n (2 * q + 1) y.block) (IsBefore x)
    (λ y right. lower_before n q x y left right) rights rights_fit) lefts lefts_fit))
    (root-each (λ x. Each (IsBefore x) (lefts ++ rights)) order (node l r) b d
    (λ x. Each-append (IsBefore (record { block = b; leaf = x })) lefts rights
    (Each-weaker (λ y. Fits n (2 * q) y.block) (IsBefore (record { block = b; leaf = x }))
    (λ y fits. root_before n q b x y nth (inl fits)) lefts lefts_fit)
    (Each-weaker (λ y. Fits n (2 * q + 1) y.block) (IsBefore (record { block = b; leaf = x }))
    (λ y fits. root_before n q b x y nth (inr fits)) rights rights_fit)))

pub InPreorder-lines : (order : List ℕ) (t : Tree ℕ) (n q : ℕ) (b : Prefix) (d : ℕ) → height t ≤ n
    → IsNth n q b → InPreorder (lines_below order t b d)
InPreorder-lines order t n q b d low nth =
    InPreorder-from_ascends (lines_below order t b d) (lines_ascend order t n q b d low nth)
