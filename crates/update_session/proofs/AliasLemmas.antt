-- The blocks that carry IPv4 addresses, by their bits.
use Rattle.std.proofs.Common.{◌≡◌, ℕ, ◌+◌, ◌-◌, ◌*◌, ◌/◌, ◌%◌, ◌^◌, ◌<◌, ◌≤◌, Bool, true, false}
use Rattle.std.proofs.Common.{◌||◌, cond, List, Option, None, refl, sym, ap, ◌∙◌, subst, arith}
use Rattle.std.specs.Prelude.{Result, Ok, Err, IfOk}
use Rattle.std.proofs.lemmas.Bool.Decides.{nat_tests}
use Rattle.geo_addr.specs.Bits.{bits_of}
use Rattle.geo_addr.specs.Ranges.{Ends, Prefix, IsWithin, range_of_block}
use Rattle.geo_addr.proofs.BitsLemmas.{length-bits_of, bits_of-add_multiple}
use Rattle.geo_terms.specs.Alias.{home, is_alias, is_mapped, is_six_to_four}
use Rattle.geo_terms.specs.PlaceForm.{PlaceParts}
use Rattle.geo_terms.specs.Precedence.{spoken_at}
use Rattle.geo_terms.specs.Sources.{InForce}
use Rattle.trie_core.specs.declared.node.Pair.{Pair}
use Rattle.trie_core.specs.declared.node.Rec.{Rec}
use Rattle.trie_core.specs.declared.node.Root.{Root}
use Rattle.trie_core.specs.Store.{leaf_at, meaning, IsOf, IsKept}
use Rattle.trie_core.specs.Tree.{Tree, height, look}
use Rattle.trie_core.proofs.GraftLemmas.{bits_of-append, look-more}
use Rattle.update_session.specs.declared.fault.EmitFault.{EmitFault}
use Rattle.update_session.specs.Kept.{Answers, AnswersAll, AnswersSpoken}

abbrev pub v4_block : Prefix
v4_block = record { first = 0; len = 96 }

abbrev pub mapped_block : Prefix
mapped_block = record { first = 0xffff * 2 ^ 32; len = 96 }

abbrev pub six_to_four_block : Prefix
six_to_four_block = record { first = 0x2002 * 2 ^ 112; len = 16 }

-- ---- where the blocks lie

mapped_within : (a : ℕ) → is_mapped a ≡ true → IsWithin (range_of_block mapped_block) a
mapped_within a is = (grind (arith, nat_tests), grind (arith, nat_tests))

mapped_outside : (a : ℕ) → is_mapped a ≡ false → IsWithin (range_of_block mapped_block) a → ⊥
mapped_outside a none within =
    let low : 0xffff * 2 ^ 32 ≤ a = within.0 in
    let high : a ≤ 0xffff * 2 ^ 32 + (2 ^ 32 - 1) = within.1 in
    grind (arith, nat_tests)

six_within : (a : ℕ) → is_six_to_four a ≡ true → IsWithin (range_of_block six_to_four_block) a
six_within a is = (grind (arith, nat_tests), grind (arith, nat_tests))

six_outside : (a : ℕ) → is_six_to_four a ≡ false → IsWithin (range_of_block six_to_four_block) a → ⊥
six_outside a none within =
    let low : 0x2002 * 2 ^ 112 ≤ a = within.0 in
    let high : a ≤ 0x2002 * 2 ^ 112 + (2 ^ 112 - 1) = within.1 in
    grind (arith, nat_tests)

-- ---- homes

home_six : (a : ℕ) → is_six_to_four a ≡ true → home a ≡ a / 2 ^ 80 % 2 ^ 32
unfolding home
home_six a is = ap (λ b. cond b (a / 2 ^ 80 % 2 ^ 32) (cond (is_mapped a) (a % 2 ^ 32) a)) is

home_mapped : (a : ℕ) → is_six_to_four a ≡ false → is_mapped a ≡ true → home a ≡ a % 2 ^ 32
unfolding home
home_mapped a none is =
    ap (λ b. cond b (a / 2 ^ 80 % 2 ^ 32) (cond (is_mapped a) (a % 2 ^ 32) a)) none
    ∙ ap (λ b. cond b (a % 2 ^ 32) a) is

home_own : (a : ℕ) → is_six_to_four a ≡ false → is_mapped a ≡ false → home a ≡ a
unfolding home
home_own a none none' =
    ap (λ b. cond b (a / 2 ^ 80 % 2 ^ 32) (cond (is_mapped a) (a % 2 ^ 32) a)) none
    ∙ ap (λ b. cond b (a % 2 ^ 32) a) none'

-- IPv4 addresses lie in neither block
v4_is_none : (h : ℕ) → h < 2 ^ 32 → is_alias h ≡ false
unfolding is_alias
v4_is_none h low = grind (arith, nat_tests)

own_is_none : (a : ℕ) → is_six_to_four a ≡ false → is_mapped a ≡ false → is_alias a ≡ false
unfolding is_alias
own_is_none a none none' = ap (λ b. b || is_mapped a) none ∙ none'

-- each address is of one of three kinds
by_kind : (a : ℕ) (P : Type 0)
    → (is_six_to_four a ≡ true → P) → (is_six_to_four a ≡ false → is_mapped a ≡ true → P)
    → (is_six_to_four a ≡ false → is_mapped a ≡ false → P) → P
by_kind a P six mapped own = by (is_six_to_four a) (is_mapped a) refl refl
  where
    by : (x y : Bool) → is_six_to_four a ≡ x → is_mapped a ≡ y → P
    by true y is is' = six is
    by false true is is' = mapped is is'
    by false false is is' = own is is'

home_below : (a : ℕ) → a < 2 ^ 128 → home a < 2 ^ 128
home_below a below =
    by_kind a (home a < 2 ^ 128)
    (λ six. omega (arith, home_six a six))
    (λ none mapped. omega (arith, home_mapped a none mapped))
    (λ none none'. omega (arith, home_own a none none'))

home_is_none : (a : ℕ) → is_alias (home a) ≡ false
home_is_none a =
    by_kind a (is_alias (home a) ≡ false)
    (λ six. v4_is_none (home a) (omega (arith, home_six a six)))
    (λ none mapped. v4_is_none (home a) (omega (arith, home_mapped a none mapped)))
    (λ none none'. ap is_alias (home_own a none none') ∙ own_is_none a none none')

-- ---- bits

-- the low bits of a number are those of its remainder
bits_of-low : (n a : ℕ) → bits_of n a ≡ bits_of n (a % 2 ^ n)
bits_of-low n a = ap (bits_of n) split ∙ bits_of-add_multiple n (a % 2 ^ n) (a / 2 ^ n)
  where
    split : a ≡ a % 2 ^ n + 2 ^ n * (a / 2 ^ n)
    split = omega arith

-- a tree of 32 bits at the bits of an address behind 2002::/16
six_look : (t : Tree ℕ) (a : ℕ) → height t + 96 ≤ 128
    → look t (bits_of 112 a) ≡ look t (bits_of 32 (a / 2 ^ 80 % 2 ^ 32))
six_look t a low =
    ap (look t) (bits_of-append 32 80 a)
    ∙ look-more t (bits_of 32 (a / 2 ^ 80)) (bits_of 80 a)
    (omega (arith, length-bits_of 32 (a / 2 ^ 80)))
    ∙ ap (look t) (bits_of-low 32 (a / 2 ^ 80))

-- after both grafts each address has the leaf of its home
-- nothing is said of an address of either block, where nothing is said in both
pub silent_in_both : (s : InForce) (mapped six : Ends) → mapped ≡ range_of_block mapped_block
    → six ≡ range_of_block six_to_four_block
    → ((a : ℕ) → IsWithin mapped a → spoken_at s a ≡ None)
    → ((a : ℕ) → IsWithin six a → spoken_at s a ≡ None)
    → (a : ℕ) → is_alias a ≡ true → spoken_at s a ≡ None
unfolding is_alias
silent_in_both s mapped six of_mapped of_six none_mapped none_six a is =
    by (is_six_to_four a) (is_mapped a) refl refl
  where
    by : (x y : Bool) → is_six_to_four a ≡ x → is_mapped a ≡ y → spoken_at s a ≡ None
    by true y six_is mapped_is =
        none_six a (subst (λ (r : Ends). IsWithin r a) (sym of_six) (six_within a six_is))
    by false true six_is mapped_is =
        none_mapped a
        (subst (λ (r : Ends). IsWithin r a) (sym of_mapped) (mapped_within a mapped_is))
    by false false six_is mapped_is =
        absurd (let e : true ≡ false = sym is ∙ own_is_none a six_is mapped_is in cc)

pub leaf_of_home : (old mid new : List Pair) (root mapped both : Root) (v4 : Rec) (a : ℕ)
    → IsOf old v4 → IsKept old mid → height (meaning old v4) + 96 ≤ 128
    → ((b : ℕ) → IsWithin (range_of_block v4_block) b
    → look (meaning old v4) (bits_of 32 b) ≡ leaf_at old root b)
    → ((b : ℕ) → IsWithin (range_of_block mapped_block) b
    → leaf_at mid mapped b ≡ look (meaning old v4) (bits_of 32 b))
    → ((b : ℕ) → b < 2 ^ 128 → (IsWithin (range_of_block mapped_block) b → ⊥)
    → leaf_at mid mapped b ≡ leaf_at old root b)
    → ((b : ℕ) → IsWithin (range_of_block six_to_four_block) b
    → leaf_at new both b ≡ look (meaning mid v4) (bits_of 112 b))
    → ((b : ℕ) → b < 2 ^ 128 → (IsWithin (range_of_block six_to_four_block) b → ⊥)
    → leaf_at new both b ≡ leaf_at mid mapped b)
    → a < 2 ^ 128 → leaf_at new both a ≡ leaf_at old root (home a)
leaf_of_home old mid new root mapped both v4 a of kept low sub inside elsewhere inside'
    elsewhere' below =
    by_kind a (leaf_at new both a ≡ leaf_at old root (home a))
    (λ six. inside' a (six_within a six)
    ∙ ap (λ (t : Tree ℕ). look t (bits_of 112 a)) (kept v4 of).1
    ∙ six_look (meaning old v4) a low
    ∙ sub (a / 2 ^ 80 % 2 ^ 32) (omega arith, omega arith)
    ∙ ap (leaf_at old root) (sym (home_six a six)))
    (λ none mapped'. elsewhere' a below (six_outside a none)
    ∙ inside a (mapped_within a mapped')
    ∙ ap (look (meaning old v4)) (bits_of-low 32 a)
    ∙ sub (a % 2 ^ 32) (omega arith, omega arith)
    ∙ ap (leaf_at old root) (sym (home_mapped a none mapped')))
    (λ none none'. elsewhere' a below (six_outside a none)
    ∙ elsewhere a below (mapped_outside a none')
    ∙ ap (leaf_at old root) (sym (home_own a none none')))

-- ---- answers

-- a root that has each address's home's leaf answers every record,
-- where the old one answers what is said outside the blocks
AnswersAll-homes : (s : InForce) (old new : List Pair) (places : List PlaceParts) (root r : Root)
    → AnswersSpoken old places root s
    → ((a : ℕ) → a < 2 ^ 128 → leaf_at new r a ≡ leaf_at old root (home a))
    → AnswersAll new places r s
AnswersAll-homes s old new places root r spoken homes a below =
    let at_home = spoken (home a) (home_below a below) (home_is_none a) in
    record {
      leaf = at_home.leaf;
      is = homes a below ∙ at_home.is;
      few = at_home.few;
      place = at_home.place;
    }

-- and so where it was made
pub AnswersAll-made : (s : InForce) (old new : List Pair) (places : List PlaceParts) (root : Root)
    (made : Result Root EmitFault) → AnswersSpoken old places root s
    → IfOk made (λ r. (a : ℕ) → a < 2 ^ 128 → leaf_at new r a ≡ leaf_at old root (home a))
    → IfOk made (λ r. AnswersAll new places r s)
AnswersAll-made s old new places root (Ok r) spoken homes =
    AnswersAll-homes s old new places root r spoken homes
AnswersAll-made s old new places root (Err fault) spoken homes = tt

-- an address outside the blocks is its own home
pub own_home : (a : ℕ) → is_alias a ≡ false → home a ≡ a
unfolding is_alias
own_home a none = by (is_six_to_four a) (is_mapped a) refl refl none
  where
    by : (x y : Bool) → is_six_to_four a ≡ x → is_mapped a ≡ y → (x || y) ≡ false → home a ≡ a
    by true y is is' none = absurd (let e : true ≡ false = none in cc)
    by false true is is' none = absurd (let e : true ≡ false = none in cc)
    by false false is is' none = home_own a is is'

-- off the touched grounds, outside the blocks, the root answers what is said now
pub spoken_from_base : (pairs : List Pair) (places : List PlaceParts) (root : Root)
    (base s : InForce) (a : ℕ) → Answers pairs places root (spoken_at base (home a)) a
    → is_alias a ≡ false → spoken_at base a ≡ spoken_at s a
    → Answers pairs places root (spoken_at s a) a
spoken_from_base pairs places root base s a h none same =
    subst (λ (wanted : Option PlaceParts). Answers pairs places root wanted a)
    (ap (spoken_at base) (own_home a none) ∙ same) h
