-- Lemmas on one step of painting: a block that the first part cuts
-- is painted by its halves.
use Rattle.std.proofs.Common.{◌≡◌, inl, inr, IfOk, Result, Ok, Err, ℕ, zero, suc, ◌+◌, ◌-◌, ◌/◌}
use Rattle.std.proofs.Common.{◌^◌, ◌<◌, ◌≤◌, nat_eq, Bool, true, false, List, ◌∷◌, drop}
use Rattle.std.proofs.Common.{◌≢◌, ◌∙◌, length, OnErr, IsErrOf, refl, sym, ap, subst, arith}
use Rattle.std.proofs.lemmas.Bool.{cases_lt}
use Rattle.std.proofs.lemmas.Result.{IfErr-at_err}
use Rattle.std.proofs.Math.Nat.{two-pow-succ}
use Rattle.geo_addr.proofs.BitsLemmas.{pow-positive}
use Rattle.trie_core.specs.declared.fault.StoreFault.{StoreFault}
use Rattle.trie_core.specs.declared.fault.StoreFault.TheVariants.{Full, Memory}
use Rattle.trie_core.specs.declared.node.Rec.{Rec}
use Rattle.trie_core.specs.declared.node.Pair.{Pair}
use Rattle.trie_core.specs.declared.paint.Part.{Part}
use Rattle.trie_core.specs.Tree.{Tree, height, look, join}
use Rattle.trie_core.specs.Store.{meaning, IsOf, IsSound, NeedsNew, GrowsBy, IsKept, AddedUnder}
use Rattle.trie_core.specs.Paint.{IsPainted, HoldsPainted, IsCut, AreLeft, IsSettled, paint_cost}
use Rattle.trie_core.proofs.CostLemmas.{paint_cost_cut}
use Rattle.trie_core.proofs.PartLemmas.{first_and_rest}
use Rattle.trie_core.proofs.PaintLemmas.{IsPainted-join, HoldsPainted-left, HoldsPainted-right}
use Rattle.trie_core.proofs.PaintLemmas.{no_painted_node, IsOf-settled, IsPainted-settled}
use Rattle.trie_core.proofs.StoreLemmas.{GrowsBy-same, IsKept-same, AddedUnder-same}

-- a block with a middle has two halves
pub record AreHalves (first last bits middle : ℕ) : Type 0 where
  pub some : suc (bits - 1) ≡ bits
  pub lower : middle + 1 ≡ first + 2 ^ (bits - 1)
  pub upper : last + 1 ≡ middle + 1 + 2 ^ (bits - 1)

AreHalves-from_middle : (n first last middle : ℕ) → last + 1 ≡ first + 2 ^ suc n
    → middle ≡ first + (last - first) / 2 → AreHalves first last (suc n) middle
AreHalves-from_middle n first last middle block is =
    let power : 2 ^ suc n ≡ 2 ^ n + 2 ^ n = two-pow-succ n in
    let positive : 0 < 2 ^ n = pow-positive n in
    let this : suc n - 1 ≡ n = omega arith in
    let same : 2 ^ (suc n - 1) ≡ 2 ^ n = ap (λ x. 2 ^ x) this in
    let lower : middle + 1 ≡ first + 2 ^ (suc n - 1) = omega arith in
    record { some = omega arith; lower = lower; upper = omega arith }

pub AreHalves-of_longer : (bits first last : ℕ) → last + 1 ≡ first + 2 ^ bits → first < last
    → AreHalves first last bits (first + (last - first) / 2)
AreHalves-of_longer zero first last block longer = absurd (omega arith)
AreHalves-of_longer (suc n) first last block longer =
    AreHalves-from_middle n first last (first + (last - first) / 2) block refl

module _ (first last bits : ℕ) (parts : List Part) (block : last + 1 ≡ first + 2 ^ bits)
    (cut : IsCut first last parts) where
  -- a block that is cut has more addresses than one
  longer : first < last
  longer =
      elim (cases_lt first last) [
        | inl less ↦ less
        | inr no-more ↦ absurd (cut.other (omega (arith, cut.begins), omega (arith, cut.ends)))
      ]

  -- and halves
  pub are_halves : AreHalves first last bits (first + (last - first) / 2)
  are_halves = AreHalves-of_longer bits first last block longer

  -- the halves and their node cost no more than the block
  pub cost_of_cut : suc (paint_cost (bits - 1) first parts
      + paint_cost (bits - 1) (first + (last - first) / 2 + 1) parts) ≤ paint_cost bits first parts
  cost_of_cut =
      let h = are_halves in
      let p : Part = cut.part in
      let whole : parts ≡ p ∷ drop 1 parts = first_and_rest parts p cut.first_is in
      let n : ℕ = bits - 1 in
      let power : 2 ^ suc n ≡ 2 ^ n + 2 ^ n = two-pow-succ n in
      let begins : p.range.first < first + 2 ^ suc n =
      omega (arith, h.lower, h.upper, cut.begins) in
      let ends : p.range.first ≤ first → p.range.last + 1 < first + 2 ^ suc n = λ begins.
      elim (cases_lt p.range.last last) [
        | inl less ↦ omega (arith, h.lower, h.upper)
        | inr past ↦ absurd (cut.other (begins, past))
      ] in
      let cost : suc
      (paint_cost n first (p ∷ drop 1 parts) + paint_cost n (first + 2 ^ n) (p ∷ drop 1 parts))
      ≤ paint_cost (suc n) first (p ∷ drop 1 parts) =
      paint_cost_cut n first p (drop 1 parts) cut.ends begins ends in
      let here : suc (paint_cost n first parts + paint_cost n (first + 2 ^ n) parts)
      ≤ paint_cost (suc n) first parts =
      subst (λ ps. suc (paint_cost n first ps + paint_cost n (first + 2 ^ n) ps)
      ≤ paint_cost (suc n) first ps) (sym whole) cost in
      let upper : paint_cost n (first + (last - first) / 2 + 1) parts
      ≡ paint_cost n (first + 2 ^ n) parts = ap (λ x. paint_cost n x parts) h.lower in
      let all : paint_cost (suc n) first parts ≡ paint_cost bits first parts =
      ap (λ b. paint_cost b first parts) h.some in
      omega (arith, here, upper, all)

  -- a store that has the block painted has its lower half painted
  pub left_held : (t l r : Tree ℕ) → ((w : List Bool) → look t (false ∷ w) ≡ look l w)
      → ((w : List Bool) → look t (true ∷ w) ≡ look r w)
      → (pairs : List Pair) → IsSound pairs → HoldsPainted pairs t bits first parts
      → HoldsPainted pairs l (bits - 1) first parts
  left_held t l r left-look right-look pairs sound held =
      let h = are_halves in
      HoldsPainted-left (bits - 1) first (first + (last - first) / 2) parts parts parts h.lower
      (λ a low. refl) (λ a high. refl) t l r left-look right-look pairs sound
      (subst (λ b. HoldsPainted pairs t b first parts) (sym h.some) held)

  module _ (back : List Part) (are-left : AreLeft parts back (first + (last - first) / 2)) where
    -- the parts that are left cost no more
    pub cost_of_halves : suc (paint_cost (bits - 1) first parts
        + paint_cost (bits - 1) (first + (last - first) / 2 + 1) back) ≤ paint_cost bits first parts
    cost_of_halves =
        omega (arith, cost_of_cut, are-left.cheaper (bits - 1) (first + (last - first) / 2 + 1))

    module _ (t l r : Tree ℕ) (left-look : (w : List Bool) → look t (false ∷ w) ≡ look l w)
        (right-look : (w : List Bool) → look t (true ∷ w) ≡ look r w) where
      -- the block is painted where its halves are
      pub painted_of_halves : (l' r' : Tree ℕ) → IsPainted l l' (bits - 1) first parts
          → IsPainted r r' (bits - 1) (first + (last - first) / 2 + 1) back
          → IsPainted t (join nat_eq l' r') bits first parts
      painted_of_halves l' r' left right =
          let h = are_halves in
          subst (λ b. IsPainted t (join nat_eq l' r') b first parts) h.some
          (IsPainted-join (bits - 1) first (first + (last - first) / 2) parts parts back h.lower
          (λ a low. refl) are-left.same t l r left-look right-look l' r' left right)

      module _ (pairs : List Pair) (sound : IsSound pairs) where
        -- and its upper half
        pub right_held : HoldsPainted pairs t bits first parts
            → HoldsPainted pairs r (bits - 1) (first + (last - first) / 2 + 1) back
        right_held held =
            let h = are_halves in
            HoldsPainted-right (bits - 1) first (first + (last - first) / 2) parts parts back
            h.lower (λ a low. refl) are-left.same t l r left-look right-look pairs sound
            (subst (λ b. HoldsPainted pairs t b first parts) (sym h.some) held)

        -- and a store that needs their node does not have it
        pub node_missing : (left right : Rec) → IsOf pairs left → IsOf pairs right
            → IsPainted l (meaning pairs left) (bits - 1) first parts
            → IsPainted r (meaning pairs right) (bits - 1) (first + (last - first) / 2 + 1) back
            → NeedsNew pairs left right → HoldsPainted pairs t bits first parts → ⊥
        node_missing left right left-of right-of left-painted right-painted needed held =
            let h = are_halves in
            no_painted_node (bits - 1) first (first + (last - first) / 2) parts parts back h.lower
            (λ a low. refl) are-left.same t l r left-look right-look pairs sound left right left-of
            right-of left-painted right-painted needed
            (subst (λ b. HoldsPainted pairs t b first parts) (sym h.some) held)

-- what holds once a block is painted, by itself or by its halves
pub record IsDone (was now : List Pair) (rec made : Rec) (bits first last : ℕ)
    (parts rest : List Part) (before after : ℕ) : Type 0 where
  pub of : IsOf now made
  pub painted : IsPainted (meaning was rec) (meaning now made) bits first parts
  pub left : AreLeft parts rest last
  pub ticks : before ≤ after
  pub cost : after ≤ before + paint_cost bits first parts
  pub grows : GrowsBy was now (after - before)
  pub kept : IsKept was now
  pub under : AddedUnder was now made
  pub sound : IsSound now

-- a block that no part cuts takes no node and no step
pub IsDone-settled : (pairs : List Pair) (rec made : Rec) (bits first last : ℕ)
    (parts left : List Part) (steps : ℕ) → IsSound pairs → IsOf pairs rec
    → height (meaning pairs rec) ≤ bits → last + 1 ≡ first + 2 ^ bits
    → IsSettled first last parts rec made → AreLeft parts left last
    → IsDone pairs pairs rec made bits first last parts left steps steps
IsDone-settled pairs rec made bits first last parts left steps sound of low block settled are-left =
    record {
      of = IsOf-settled pairs rec made first last parts of settled;
      painted = IsPainted-settled pairs rec made bits first last parts low block settled;
      left = are-left;
      ticks = omega arith;
      cost = omega arith;
      grows = GrowsBy-same pairs (steps - steps);
      kept = IsKept-same pairs;
      under = AddedUnder-same pairs made;
      sound = sound;
    }

-- two facts of one Ok
pub IfOk-both : {T E : Type 0} (r : Result T E) (P Q : T → Type 0) → IfOk r P → IfOk r Q
    → IfOk r (λ x. P x × Q x)
IfOk-both (Ok x) P Q p q = (p, q)
IfOk-both (Err e) P Q p q = p

-- where memory was short for a node, a number was left for it
pub room_at_refusal : (old new : List Pair) (left right : Rec) (r : Result Rec StoreFault)
    → IsSound old → OnErr r (new ≡ old) → OnErr r (NeedsNew old left right)
    → ((length old + 1 ≡ 2 ^ 32) × NeedsNew old left right → IsErrOf r Full)
    → r ≡ Err Memory → length new + 1 < 2 ^ 32
room_at_refusal old new left right r sound same needed full is =
    let stays : new ≡ old = IfErr-at_err _ is same in
    let needs : NeedsNew old left right = IfErr-at_err _ is needed in
    let other : length old + 1 ≢ 2 ^ 32 = λ all.
    let both : Err Memory ≡ Err Full = sym is ∙ full (all, needs) in
    absurd (cc) in
    omega (arith, sound.few, other, ap length stays)

-- a result is a value or a fault
pub ok_not_err : {T E : Type 0} (x : T) (y : E) → Ok x ≡ Err y → ⊥
ok_not_err x y e = cc
