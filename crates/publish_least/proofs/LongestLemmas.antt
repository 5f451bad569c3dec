-- Lemmas on the longest of lines: which lines do not count,
-- and how a list of lines comes apart at the middle of its block.
use Rattle.std.proofs.Common.{◌≡◌, ℕ, suc, ◌+◌, ◌-◌, ◌*◌, ◌^◌, ◌<◌, ◌≤◌, Bool, true}
use Rattle.std.proofs.Common.{false, if◌then◌else◌, List, [], ◌∷◌, ◌++◌, length, Option, None, Some}
use Rattle.std.proofs.Common.{refl, ap, subst, ◌∙◌, arith}
use Rattle.std.specs.Prelude.{nat_le}
use Rattle.std.proofs.lemmas.Bool.{le-leb}
use Rattle.std.proofs.Math.Nat.{two-pow-succ}
use Rattle.std.proofs.lemmas.Nat.{pow_pos}
use Rattle.geo_addr.specs.Ranges.{Prefix}
use Rattle.publish_least.specs.declared.line.Line.{Line}
use Rattle.publish_least.specs.Lines.{longer, longest, leaf_or}
use Rattle.publish_least.proofs.Spans.{spans, nat_le-false, spans-true, spans-false_before}
use Rattle.publish_least.proofs.Spans.{spans-false_behind, Fits, whole, lower, upper, side}
use Rattle.publish_least.proofs.Spans.{doubled, doubled_more}

-- each element of a list is so
abbrev pub Each : {X : Type 0} → (X → Type 0) → List X → Type 0
Each P [] = Unit {0}
Each P (x ∷ xs) = P x × Each P xs

module _ {X : Type 0} where
  pub Each-append : (P : X → Type 0) (xs ys : List X) → Each P xs → Each P ys → Each P (xs ++ ys)
  Each-append P [] ys here there = there
  Each-append P (x ∷ xs) ys here there = (here.0, Each-append P xs ys here.1 there)

  pub Each-weaker : (P Q : X → Type 0)
      → ((x : X) → P x → Q x) → (xs : List X) → Each P xs → Each Q xs
  Each-weaker P Q weaker [] each = tt
  Each-weaker P Q weaker (x ∷ xs) each = (weaker x each.0, Each-weaker P Q weaker xs each.1)

-- the first line, or another one where there is none
abbrev pub or_else : Option Line → Option Line → Option Line
or_else None y = y
or_else (Some x) y = Some x

pub leaf_or-or_else : (d : ℕ) (x y : Option Line)
    → leaf_or d (or_else x y) ≡ leaf_or (leaf_or d y) x
leaf_or-or_else d None y = refl
leaf_or-or_else d (Some x) y = refl

-- a longer line counts
pub longer-of_longer : (x y : Line) → x.block.len < y.block.len → longer x (Some y) ≡ Some y
longer-of_longer x y less =
    ap (λ (b : Bool). if b then Some x else Some y) (nat_le-false y.block.len x.block.len less)

pub longer-of_no_longer : (x y : Line) → y.block.len ≤ x.block.len → longer x (Some y) ≡ Some x
longer-of_no_longer x y more =
    ap (λ (b : Bool). if b then Some x else Some y) (le-leb y.block.len x.block.len more)

module _ (test : Prefix → Bool) where
  -- a line that passes, and one that does not
  pub longest-passed : (x : Line) (xs : List Line) → test x.block ≡ true
      → longest test (x ∷ xs) ≡ longer x (longest test xs)
  longest-passed x xs is =
      ap (λ (b : Bool). if b then longer x (longest test xs) else longest test xs) is

  pub longest-failed : (x : Line) (xs : List Line) → test x.block ≡ false
      → longest test (x ∷ xs) ≡ longest test xs
  longest-failed x xs is =
      ap (λ (b : Bool). if b then longer x (longest test xs) else longest test xs) is

  -- the longer of two is one of them
  longer-each : (P : Line → Type 0) (x : Line) (y : Option Line) → P x
      → ((z : Line) → y ≡ Some z → P z) → (z : Line) → longer x y ≡ Some z → P z
  longer-each P x None here there z is = let same : x ≡ z = cc in subst P same here
  longer-each P x (Some y) here there z is = by (nat_le y.block.len x.block.len) is
    where
      by : (b : Bool) → (if b then Some x else Some y) ≡ Some z → P z
      by true same = let is-it : x ≡ z = cc in subst P is-it here
      by false same = there z same

  one_more : (P : Line → Type 0) (x : Line) (y : Option Line)
      → P x → ((z : Line) → y ≡ Some z → P z) → (z : Line) (b : Bool)
      → (if b then longer x y else y) ≡ Some z → P z
  one_more P x y here there z true is = longer-each P x y here there z is
  one_more P x y here there z false is = there z is

  -- so the longest is as each is
  pub longest-each : (P : Line → Type 0) (xs : List Line) → Each P xs
      → (z : Line) → longest test xs ≡ Some z → P z
  longest-each P [] each z is = absurd (cc)
  longest-each P (x ∷ xs) each z is =
      one_more P x (longest test xs) each.0 (λ y same. longest-each P xs each.1 y same) z
      (test x.block) is

  -- lines behind that do not pass
  pub longest-front : (xs ys : List Line) → Each (λ y. test y.block ≡ false) ys
      → longest test (xs ++ ys) ≡ longest test xs
  longest-front [] [] none = refl
  longest-front [] (y ∷ ys) none = longest-failed y ys none.0 ∙ longest-front [] ys none.1
  longest-front (x ∷ xs) ys none =
      ap (λ z. if test x.block then longer x z else z) (longest-front xs ys none)

  -- and before
  pub longest-back : (xs ys : List Line) → Each (λ x. test x.block ≡ false) xs
      → longest test (xs ++ ys) ≡ longest test ys
  longest-back [] ys none = refl
  longest-back (x ∷ xs) ys none = longest-failed x (xs ++ ys) none.0 ∙ longest-back xs ys none.1

-- two tests that agree at each line
pub longest-agree : (p q : Prefix → Bool) (xs : List Line) → Each (λ x. p x.block ≡ q x.block) xs
    → longest p xs ≡ longest q xs
longest-agree p q [] agree = refl
longest-agree p q (x ∷ xs) agree =
    ap (λ z. if p x.block then longer x z else z) (longest-agree p q xs agree.1)
    ∙ ap (λ (b : Bool). if b then longer x (longest q xs) else longest q xs) agree.0

-- a line of the whole block is taken where no longer one is
whole_last : (x : Line) (found root : Option Line)
    → ((y : Line) → root ≡ Some y → y.block.len ≤ x.block.len)
    → ((y : Line) → found ≡ Some y → x.block.len < y.block.len)
    → longer x (or_else found root) ≡ or_else found (Some x)
whole_last x None None roots founds = refl
whole_last x None (Some y) roots founds = longer-of_no_longer x y (roots y refl)
whole_last x (Some y) root roots founds = longer-of_longer x y (founds y refl)

-- a line of a half is longer than one of the whole block
half_first : (x : Line) (found root : Option Line)
    → ((y : Line) → root ≡ Some y → y.block.len ≤ x.block.len)
    → longer x (or_else found root) ≡ or_else (longer x found) root
half_first x None None roots = refl
half_first x None (Some y) roots = longer-of_no_longer x y (roots y refl)
half_first x (Some y) root roots = by (nat_le y.block.len x.block.len)
  where
    by : (b : Bool) → (if b then Some x else Some y) ≡ or_else (if b then Some x else Some y) root
    by true = refl
    by false = refl

count_of : Option Line → ℕ
count_of None = 0
count_of (Some x) = 1

-- lines of a block come apart into those of its lower half, those of its upper half,
-- and a line of the whole block
pub record IsSplit (n q : ℕ) (lines lefts rights : List Line) (root : Option Line) : Type 0 where
  pub low : (a : ℕ) → q * 2 ^ suc n ≤ a → a < q * 2 ^ suc n + 2 ^ n
      → longest (λ b. spans b a) lines ≡ or_else (longest (λ b. spans b a) lefts) root
  pub high : (a : ℕ) → q * 2 ^ suc n + 2 ^ n ≤ a → a < q * 2 ^ suc n + 2 ^ suc n
      → longest (λ b. spans b a) lines ≡ or_else (longest (λ b. spans b a) rights) root
  pub lefts_fit : Each (λ x. Fits n (2 * q) x.block) lefts
  pub rights_fit : Each (λ x. Fits n (2 * q + 1) x.block) rights
  pub root_whole : (y : Line) → root ≡ Some y → (128 - y.block.len ≡ suc n) × (y.block.len ≤ 128)
  pub none : root ≡ None → length lefts + length rights ≤ length lines
  pub one : (y : Line) → root ≡ Some y → length lefts + length rights + 1 ≤ length lines

pub record Split (n q : ℕ) (lines : List Line) : Type 0 where
  pub lefts : List Line
  pub rights : List Line
  pub root : Option Line
  pub is : IsSplit n q lines lefts rights root

-- in a half, each line is longer than one of the whole block
shorter : (n q : ℕ) (x y : Line) → (128 - x.block.len ≡ suc n) × (x.block.len ≤ 128)
    → Fits n q y.block → x.block.len < y.block.len
shorter n q x y all fits =
    let a = all.0 in let b = all.1 in let c = fits.short in
    let d = fits.length in omega arith

module _ (n q : ℕ) (x : Line) (xs lefts rights : List Line) (root : Option Line)
    (rest : IsSplit n q xs lefts rights root) where
  -- one more line, by the side that it lies on
  add_whole : 128 - x.block.len ≡ suc n → x.block.len ≤ 128 → x.block.first ≡ q * 2 ^ suc n
      → IsSplit n q (x ∷ xs) lefts rights (Some x)
  add_whole bits fits at =
      let size : 2 ^ (128 - x.block.len) ≡ 2 ^ suc n = ap (λ e. 2 ^ e) bits in
      let power : 2 ^ suc n ≡ 2 ^ n + 2 ^ n = two-pow-succ n in
      let some = pow_pos n in
      let roots : (y : Line) → root ≡ Some y → y.block.len ≤ x.block.len =
      λ y is. let w = rest.root_whole y is in let a = w.0 in let b = w.1 in omega arith in
      record {
        low = λ a from to.
            longest-passed (λ b. spans b a) x xs (spans-true x.block a (omega arith) (omega arith))
            ∙ ap (longer x) (rest.low a from to)
            ∙ whole_last x (longest (λ b. spans b a) lefts) root roots
            (λ y is. shorter n (2 * q) x y (bits, fits) (longest-each (λ b. spans b a)
            (λ z. Fits n (2 * q) z.block) lefts rest.lefts_fit y is));
        high = λ a from to.
            longest-passed (λ b. spans b a) x xs (spans-true x.block a (omega arith) (omega arith))
            ∙ ap (longer x) (rest.high a from to)
            ∙ whole_last x (longest (λ b. spans b a) rights) root roots
            (λ y is. shorter n (2 * q + 1) x y (bits, fits) (longest-each (λ b. spans b a)
            (λ z. Fits n (2 * q + 1) z.block) rights rest.rights_fit y is));
        lefts_fit = rest.lefts_fit;
        rights_fit = rest.rights_fit;
        root_whole =
            λ y is. let same : x ≡ y = cc in
            subst (λ (z : Line). (128 - z.block.len ≡ suc n) × (z.block.len ≤ 128)) same
            (bits, fits);
        none = λ is. absurd (cc);
        one = λ y is. fewer root refl;
      }
    where
      fewer : (r : Option Line) → root ≡ r → length lefts + length rights + 1 ≤ length (x ∷ xs)
      fewer None is = let h = rest.none is in omega arith
      fewer (Some z) is = let h = rest.one z is in omega arith

  module _ (roots : (y : Line) → root ≡ Some y → y.block.len ≤ x.block.len) where
    -- a line of the half in which the address lies
    near : (a : ℕ) (half : List Line)
        → longest (λ b. spans b a) xs ≡ or_else (longest (λ b. spans b a) half) root
        → longest (λ b. spans b a) (x ∷ xs) ≡ or_else (longest (λ b. spans b a) (x ∷ half)) root
    near a half is = by (spans x.block a)
      where
        by : (p : Bool) → (if p then longer x (longest (λ b. spans b a) xs)
            else longest (λ b. spans b a) xs) ≡ or_else (if p
            then longer x (longest (λ b. spans b a) half) else longest (λ b. spans b a) half) root
        by true = ap (longer x) is ∙ half_first x (longest (λ b. spans b a) half) root roots
        by false = is

  -- a line of the half is longer than one of the whole block
  roots_shorter : (p : ℕ) → Fits n p x.block → (y : Line) → root ≡ Some y
      → y.block.len ≤ x.block.len
  roots_shorter p fits y is =
      let w = rest.root_whole y is in let a = w.0 in let b = w.1 in let c = fits.short in
      let d = fits.length in omega arith

  add_lower : Fits n (2 * q) x.block → IsSplit n q (x ∷ xs) (x ∷ lefts) rights root
  add_lower fits =
      let low_at = doubled n q in
      let last = fits.last in
      let some = pow_pos (128 - x.block.len) in
      record {
        low = λ a from to. near (roots_shorter (2 * q) fits) a lefts (rest.low a from to);
        high = λ a from to.
            longest-failed (λ b. spans b a) x xs (spans-false_behind x.block a (omega arith))
            ∙ rest.high a from to;
        lefts_fit = (fits, rest.lefts_fit);
        rights_fit = rest.rights_fit;
        root_whole = rest.root_whole;
        none = λ is. let h = rest.none is in omega arith;
        one = λ y is. let h = rest.one y is in omega arith;
      }

  add_upper : Fits n (2 * q + 1) x.block → IsSplit n q (x ∷ xs) lefts (x ∷ rights) root
  add_upper fits =
      let high_at = doubled_more n q in
      let first = fits.first in
      record {
        low = λ a from to.
            longest-failed (λ b. spans b a) x xs (spans-false_before x.block a (omega arith))
            ∙ rest.low a from to;
        high = λ a from to. near (roots_shorter (2 * q + 1) fits) a rights (rest.high a from to);
        lefts_fit = rest.lefts_fit;
        rights_fit = (fits, rest.rights_fit);
        root_whole = rest.root_whole;
        none = λ is. let h = rest.none is in omega arith;
        one = λ y is. let h = rest.one y is in omega arith;
      }

pub split : (n q : ℕ) (lines : List Line) → Each (λ x. Fits (suc n) q x.block) lines
    → Split n q lines
split n q [] each = record {
  lefts = [];
  rights = [];
  root = None;
  is = record {
    low = λ a from to. refl;
    high = λ a from to. refl;
    lefts_fit = tt;
    rights_fit = tt;
    root_whole = λ y is. absurd (cc);
    none = λ is. omega arith;
    one = λ y is. absurd (cc);
  };
}
split n q (x ∷ xs) each =
    let rest = split n q xs each.1 in
    elim (side n q x.block each.0) [
      | whole bits at ↦ record {
        lefts = rest.lefts;
        rights = rest.rights;
        root = Some x;
        is = add_whole n q x xs rest.lefts rest.rights rest.root rest.is bits each.0.length at;
      }
      | lower fits ↦ record {
        lefts = x ∷ rest.lefts;
        rights = rest.rights;
        root = rest.root;
        is = add_lower n q x xs rest.lefts rest.rights rest.root rest.is fits;
      }
      | upper fits ↦ record {
        lefts = rest.lefts;
        rights = x ∷ rest.rights;
        root = rest.root;
        is = add_upper n q x xs rest.lefts rest.rights rest.root rest.is fits;
      }
    ]
