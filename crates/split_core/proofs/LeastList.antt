-- The list of largest blocks from a point on has exactly the addresses,
-- and no list of blocks is shorter.
use Rattle.std.proofs.Common.{◌≡◌, ℕ, zero, suc, ◌+◌, ◌-◌, ◌^◌, ◌<◌, ◌≤◌, true, false, cond, inl}
use Rattle.std.proofs.Common.{inr, List, [], ◌∷◌, length, arith, refl, sym, ap, subst, ◌∙◌}
use Rattle.std.specs.Prelude.{Option, None, Some, nat_lt, nat_le}
use Rattle.std.specs.List.{AllByRecursion}
use Rattle.std.proofs.lemmas.Bool.{cases_lt}
use Rattle.std.proofs.lemmas.Bool.Decides.{nat_tests}
use Rattle.std.proofs.lemmas.List.Elements.{All-from_recursion, recursion_from_All}
use Rattle.std.proofs.lemmas.Nat.{pow_pos}
use Rattle.geo_addr.specs.Ranges.{Ends, Prefix, IsBlock, IsRange, IsWithin, range_of_block}
use Rattle.split_core.specs.Least.{past, Covers, Ascend, AreLeastFor}
use Rattle.split_core.specs.Walk.{largest_block, blocks_from, blocks_of, blocks_left}
use Rattle.split_core.proofs.Rooms.{IsLargest, largest_block_is}

-- an address of a block, by the point past its end
has_to : (b : Prefix) (a : ℕ) → IsWithin (range_of_block b) a → a < past b
has_to b a has = omega (arith, has.0, has.1, pow_pos (128 - b.len))

has_from : (b : Prefix) (a : ℕ) → b.first ≤ a → a < past b → IsWithin (range_of_block b) a
has_from b a from to = (from, omega arith)

-- one block more
from_more : (n first end : ℕ) → first < end → blocks_from (suc n) first end
    ≡ largest_block first end ∷ blocks_from n (past (largest_block first end)) end
unfolding blocks_from
from_more n first end some =
    let test : nat_lt first end ≡ true = grind (arith, nat_tests) in
    ap (λ b. cond b
    (largest_block first end ∷ blocks_from n (past (largest_block first end)) end) []) test

from_none : (n first end : ℕ) → end ≤ first → blocks_from n first end ≡ []
unfolding blocks_from
from_none zero first end none = refl
from_none (suc n) first end none =
    let test : nat_lt first end ≡ false = grind (arith, nat_tests) in
    ap (λ b. cond b
    (largest_block first end ∷ blocks_from n (past (largest_block first end)) end) []) test

-- more steps than addresses change nothing
pub from_enough : (n m first end : ℕ) → end ≤ 2 ^ 128 → end - first ≤ n → end - first ≤ m
    → blocks_from n first end ≡ blocks_from m first end
from_enough zero m first end low n_is m_is =
    from_none zero first end (omega arith) ∙ sym (from_none m first end (omega arith))
from_enough (suc n) zero first end low n_is m_is =
    from_none (suc n) first end (omega arith) ∙ sym (from_none zero first end (omega arith))
from_enough (suc n) (suc m) first end low n_is m_is =
    elim (cases_lt first end) [
      | inl some ↦
          let b = largest_block first end in
          let more : 0 < 2 ^ (128 - b.len) = pow_pos (128 - b.len) in
          from_more n first end some
          ∙ ap (λ bs. b ∷ bs) (from_enough n m (past b) end low (omega arith) (omega arith))
          ∙ sym (from_more m first end some)
      | inr none ↦ from_none (suc n) first end none ∙ sym (from_none (suc m) first end none)
    ]

from_zero : (first end : ℕ) → blocks_from zero first end ≡ []
unfolding blocks_from
from_zero first end = refl

-- the blocks are aligned
from_aligned : (n first end : ℕ) → end ≤ 2 ^ 128 → AllByRecursion IsBlock (blocks_from n first end)
from_aligned zero first end low = subst (AllByRecursion IsBlock) (sym (from_zero first end)) tt
from_aligned (suc n) first end low =
    elim (cases_lt first end) [
      | inl some ↦
          let is = largest_block_is first end some low in
          subst (AllByRecursion IsBlock) (sym (from_more n first end some))
          (is.block, from_aligned n (past (largest_block first end)) end low)
      | inr none ↦ subst (AllByRecursion IsBlock) (sym (from_none (suc n) first end none)) tt
    ]

-- the blocks ascend
from_ascends : (n first end : ℕ) → Ascend first (blocks_from n first end)
from_ascends zero first end = subst (Ascend first) (sym (from_zero first end)) tt
from_ascends (suc n) first end =
    elim (cases_lt first end) [
      | inl some ↦
          let begin : first ≤ first = omega arith in
          subst (Ascend first) (sym (from_more n first end some))
          (begin, from_ascends n (past (largest_block first end)) end)
      | inr none ↦ subst (Ascend first) (sym (from_none (suc n) first end none)) tt
    ]

-- the blocks cover what lies from the point on, and nothing else
from_covers : (n first end a : ℕ) → end ≤ 2 ^ 128 → end - first ≤ n → first ≤ a → a < end
    → Covers (blocks_from n first end) a
from_covers zero first end a low enough from to = absurd (omega arith)
from_covers (suc n) first end a low enough from to =
    let some : first < end = omega arith in
    let b = largest_block first end in
    let more = pow_pos (128 - b.len) in
    let P : List Prefix → Type 0 = λ bs. Covers bs a in
    subst P (sym (from_more n first end some))
    (elim (cases_lt a (past b)) [
      | inl here ↦ inl (has_from b a from here)
      | inr later ↦ inr (from_covers n (past b) end a low (omega arith) later to)
    ])

covers_less : (n first end a : ℕ) → Covers (blocks_from n first end) a → end ≤ first → ⊥
covers_less n first end a has none =
    let P : List Prefix → Type 0 = λ bs. Covers bs a in
    subst P (from_none n first end none) has

from_within : (n first end a : ℕ) → end ≤ 2 ^ 128 → Covers (blocks_from n first end) a
    → (first ≤ a) × (a < end)
from_within zero first end a low has =
    let P : List Prefix → Type 0 = λ bs. Covers bs a in
    absurd (subst P (from_zero first end) has)
from_within (suc n) first end a low has =
    elim (cases_lt first end) [
      | inl some ↦
          let b = largest_block first end in
          let is = largest_block_is first end some low in
          let P : List Prefix → Type 0 = λ bs. Covers bs a in
          elim (subst P (from_more n first end some) has) [
            | inl here ↦ let to = has_to b a here in (here.0, omega (arith, is.inside))
            | inr later ↦ let rest = from_within n (past b) end a low later in (omega arith, rest.1)
          ]
      | inr none ↦ absurd (covers_less (suc n) first end a has none)
    ]

-- a block lies from a point on and ends in time
record IsInside (first end : ℕ) (c : Prefix) : Type 0 where
  block : IsBlock c
  from : first ≤ c.first
  to : past c ≤ end

-- the blocks that begin at a point or later
kept : ℕ → List Prefix → List Prefix
kept point [] = []
kept point (c ∷ cs) = cond (nat_le point c.first) (c ∷ kept point cs) (kept point cs)

keep_later : (point : ℕ) (c : Prefix) (cs : List Prefix) → point ≤ c.first
    → kept point (c ∷ cs) ≡ c ∷ kept point cs
unfolding kept
keep_later point c cs later =
    let test : nat_le point c.first ≡ true = grind (arith, nat_tests) in
    ap (λ b. cond b (c ∷ kept point cs) (kept point cs)) test

keep_not : (point : ℕ) (c : Prefix) (cs : List Prefix) → c.first < point
    → kept point (c ∷ cs) ≡ kept point cs
unfolding kept
keep_not point c cs earlier =
    let test : nat_le point c.first ≡ false = grind (arith, nat_tests) in
    ap (λ b. cond b (c ∷ kept point cs) (kept point cs)) test

keep_nil : (point : ℕ) → kept point [] ≡ []
unfolding kept
keep_nil point = refl

-- blocks with addresses between two points lie between them
members_inside : (cs : List Prefix) (first end : ℕ) → AllByRecursion IsBlock cs
    → ((a : ℕ) → Covers cs a → (first ≤ a) × (a < end)) → AllByRecursion (IsInside first end) cs
members_inside [] first end blocks within = tt
members_inside (c ∷ cs) first end blocks within =
    let more = pow_pos (128 - c.len) in
    let low = within c.first (inl (has_from c c.first (omega arith) (omega arith))) in
    let high = within (past c - 1) (inl (has_from c (past c - 1) (omega arith) (omega arith))) in (
      record { block = blocks.0; from = low.0; to = omega (arith, high.1) },
      members_inside cs first end blocks.1 (λ a has. within a (inr has)),
    )

kept_inside : (cs : List Prefix) (first next end : ℕ) → AllByRecursion (IsInside first end) cs
    → AllByRecursion (IsInside next end) (kept next cs)
kept_inside [] first next end inside =
    subst (AllByRecursion (IsInside next end)) (sym (keep_nil next)) tt
kept_inside (c ∷ cs) first next end inside =
    let rest = kept_inside cs first next end inside.1 in
    elim (cases_lt c.first next) [
      | inl earlier ↦
          subst (AllByRecursion (IsInside next end)) (sym (keep_not next c cs earlier)) rest
      | inr later ↦ subst (AllByRecursion (IsInside next end)) (sym (keep_later next c cs later)) (
        record { block = inside.0.block; from = later; to = inside.0.to },
        rest,
      )
    ]

-- no address past the largest block is lost
kept_covers : (cs : List Prefix) (b : Prefix) (first end a : ℕ)
    → IsLargest b first end → AllByRecursion (IsInside first end) cs → past b ≤ a → Covers cs a
    → Covers (kept (past b) cs) a
kept_covers [] b first end a is inside later has = absurd has
kept_covers (c ∷ cs) b first end a is inside later has =
    let P : List Prefix → Type 0 = λ cs. Covers cs a in
    elim (cases_lt c.first (past b)) [
      | inl earlier ↦
          subst P (sym (keep_not (past b) c cs earlier))
          (elim has [
            | inl here ↦ absurd (omega (
              arith,
              has_to c a here,
              is.most c inside.0.block inside.0.from earlier inside.0.to,
            ))
            | inr there ↦ kept_covers cs b first end a is inside.1 later there
          ])
      | inr beyond ↦
          subst P (sym (keep_later (past b) c cs beyond))
          (elim has [
            | inl here ↦ inl here
            | inr there ↦ inr (kept_covers cs b first end a is inside.1 later there)
          ])
    ]

kept_shorter : (cs : List Prefix) (point : ℕ) → length (kept point cs) ≤ length cs
kept_shorter [] point = omega (arith, ap length (keep_nil point))
kept_shorter (c ∷ cs) point =
    elim (cases_lt c.first point) [
      | inl earlier ↦ omega (arith, ap length (keep_not point c cs earlier), kept_shorter cs point)
      | inr later ↦ omega (arith, ap length (keep_later point c cs later), kept_shorter cs point)
    ]

-- blocks that cover an earlier address get fewer
kept_fewer : (cs : List Prefix) (point a : ℕ) → a < point → Covers cs a
    → length (kept point cs) + 1 ≤ length cs
kept_fewer [] point a earlier has = absurd has
kept_fewer (c ∷ cs) point a earlier has =
    elim has [
      | inl here ↦ omega
          (arith, ap length (keep_not point c cs (omega (arith, here.0))), kept_shorter cs point)
      | inr there ↦
          elim (cases_lt c.first point) [
            | inl before ↦ omega (
              arith,
              ap length (keep_not point c cs before),
              kept_fewer cs point a earlier there,
            )
            | inr later ↦ omega (
              arith,
              ap length (keep_later point c cs later),
              kept_fewer cs point a earlier there,
            )
          ]
    ]

-- no list of blocks that covers the same is shorter
from_least : (n first end : ℕ) → end ≤ 2 ^ 128 → (others : List Prefix)
    → AllByRecursion (IsInside first end) others → ((a : ℕ) → first ≤ a → a < end → Covers others a)
    → length (blocks_from n first end) ≤ length others
from_least zero first end low others inside covers = omega (arith, ap length (from_zero first end))
from_least (suc n) first end low others inside covers =
    elim (cases_lt first end) [
      | inl some ↦
          let b = largest_block first end in
          let is = largest_block_is first end some low in
          let more = pow_pos (128 - b.len) in
          let rest = from_least n (past b) end low
          (kept (past b) others) (kept_inside others first (past b) end inside) (λ a from to.
          kept_covers others b first end a is inside from (covers a (omega arith) to)) in
          let fewer =
          kept_fewer others (past b) first (omega arith) (covers first (omega arith) some) in
          omega (arith, ap length (from_more n first end some), rest, fewer)
      | inr none ↦ omega (arith, ap length (from_none (suc n) first end none))
    ]

-- the blocks of a range are the least list
pub blocks_least : (r : Ends) → IsRange r → AreLeastFor r (blocks_of r.first (r.last + 1))
blocks_least r is =
    let end = r.last + 1 in
    let n = end - r.first in
    let low : end ≤ 2 ^ 128 = omega (arith, is.within) in
    record {
      aligned = All-from_recursion IsBlock _ (from_aligned n r.first end low);
      ascending = from_ascends n r.first end;
      exact = λ a. (
        λ has. let w = from_within n r.first end a low has in (w.0, omega (arith, w.1)),
        λ w. from_covers n r.first end a low (omega arith) w.0 (omega (arith, w.1)),
      );
      least = λ others blocks have.
          let within : (a : ℕ) → Covers others a → (r.first ≤ a) × (a < end) =
          λ a has. let w = (have a).0 has in (w.0, omega (arith, w.1)) in
          from_least n r.first end low others
          (members_inside others r.first end (recursion_from_All IsBlock others blocks) within)
          (λ a from to. (have a).1 (from, omega arith));
    }

-- the blocks of a range begin with the largest, and go on past it
pub blocks_more : (first end : ℕ) → end ≤ 2 ^ 128 → first < end
    → blocks_of first end ≡ largest_block first end ∷ blocks_of (past (largest_block first end)) end
blocks_more first end low some =
    let b = largest_block first end in
    let more = pow_pos (128 - b.len) in
    let n = end - first - 1 in
    let one : end - first ≡ suc n = omega arith in
    ap (λ k. blocks_from k first end) one ∙ from_more n first end some
    ∙ ap (λ bs. b ∷ bs) (from_enough n (end - past b) (past b) end low (omega arith) (omega arith))

-- none are left at the end
pub blocks_none : (first end : ℕ) → end ≤ first → blocks_of first end ≡ []
blocks_none first end none = from_none (end - first) first end none

-- what is left after the first block of a range
more_left : (r : Ends) (b : Prefix) → IsRange r → b ≡ largest_block r.first (r.last + 1)
    → blocks_of r.first (r.last + 1) ≡ b ∷ blocks_of (past b) (r.last + 1)
more_left r b is first =
    let step =
    blocks_more r.first (r.last + 1) (omega (arith, is.within)) (omega (arith, is.ordered)) in
    let P : Prefix → Type 0 =
    λ b. blocks_of r.first (r.last + 1) ≡ b ∷ blocks_of (past b) (r.last + 1) in
    subst P (sym first) step

pub some_left : (r : Ends) (b : Prefix) (end : ℕ) (left : Option Ends)
    → IsRange r → b ≡ largest_block r.first (r.last + 1) → end ≡ b.first + (2 ^ (128 - b.len) - 1)
    → left ≡ Some (record { first = end + 1; last = r.last })
    → blocks_of r.first (r.last + 1) ≡ b ∷ blocks_left left
some_left r b end left is first ends rest =
    let point : past b ≡ end + 1 = omega (arith, pow_pos (128 - b.len)) in
    let tail : blocks_of (past b) (r.last + 1) ≡ blocks_left left =
    ap (λ n. blocks_of n (r.last + 1)) point ∙ sym (ap blocks_left rest) in
    more_left r b is first ∙ ap (λ bs. b ∷ bs) tail

pub none_left : (r : Ends) (b : Prefix) (end : ℕ) (left : Option Ends)
    → IsRange r → b ≡ largest_block r.first (r.last + 1) → end ≡ b.first + (2 ^ (128 - b.len) - 1)
    → r.last ≤ end → left ≡ None → blocks_of r.first (r.last + 1) ≡ b ∷ blocks_left left
none_left r b end left is first ends past_last rest =
    let tail : blocks_of (past b) (r.last + 1) ≡ blocks_left left =
    blocks_none (past b) (r.last + 1) (omega (arith, pow_pos (128 - b.len)))
    ∙ sym (ap blocks_left rest) in
    more_left r b is first ∙ ap (λ bs. b ∷ bs) tail

-- the same, where the range is known by its ends
pub blocks_least_at : (r s : Ends) (bs : List Prefix) → IsRange s → s ≡ r
    → bs ≡ blocks_of s.first (s.last + 1) → AreLeastFor r bs
blocks_least_at r s bs is same from =
    let P : Ends → Type 0 = λ r. AreLeastFor r bs in
    subst P same (subst (AreLeastFor s) (sym from) (blocks_least s is))
