-- The pieces of a stretch that have entered.
use Rattle.std.proofs.Common.{◌≡◌, ℕ, ◌+◌, ◌-◌, ◌<◌, inl, inr, ap, subst, sym, arith}
use Rattle.std.proofs.lemmas.Bool.{cases_lt}
use Rattle.fan_work.specs.Stretches.{AreHalves, HaveEntered, IsStretch}
use Rattle.fan_work.specs.Pieces.{HasItems, piece_start}
use Rattle.fan_work.specs.declared.stretch.Stretch.{Stretch}
use Rattle.fan_work.proofs.Starts.{starts_ascend}

-- one piece, which entered if it has items
pub entered_alone : (entered : ℕ → Type 0) (stretch : Stretch) (items : ℕ) → IsStretch stretch items
    → stretch.to - stretch.from ≡ 1 → (0 < items → entered stretch.from)
    → HaveEntered entered stretch
entered_alone entered stretch items is one here = record {
  each = λ j from to has.
      let same : stretch.from ≡ j = omega arith in
      let next : stretch.to ≡ j + 1 = omega arith in
      let held : piece_start stretch.pieces stretch.count j + items
      ≡ piece_start stretch.pieces stretch.count (j + 1) =
      subst (λ n. piece_start stretch.pieces stretch.count n + items
      ≡ piece_start stretch.pieces stretch.count (j + 1)) same
      (subst (λ n. piece_start stretch.pieces stretch.count stretch.from + items
      ≡ piece_start stretch.pieces stretch.count n) next is.held) in
      subst entered same (here (omega (arith, held, has.some)));
}

-- pieces without items
pub none_entered : (entered : ℕ → Type 0) (stretch : Stretch) (items : ℕ) → IsStretch stretch items
    → items ≡ 0 → HaveEntered entered stretch
none_entered entered stretch items is none = record {
  each = λ j from to has.
      let some : 0 < stretch.pieces = omega (arith, is.some, is.within) in
      let before = starts_ascend stretch.pieces stretch.count stretch.from j some from in
      let behind =
      starts_ascend stretch.pieces stretch.count (j + 1) stretch.to some (omega arith) in
      absurd (omega (arith, is.held, has.some));
}

-- the pieces of both halves
pub entered_both : (entered : ℕ → Type 0) (stretch left right : Stretch)
    → AreHalves stretch left right → HaveEntered entered left → HaveEntered entered right
    → HaveEntered entered stretch
entered_both entered stretch left right halves here there = record {
  each = λ j from to has.
      let P : Stretch → Type 0 = λ p. HasItems p.pieces p.count j in
      let first = ap (λ (p : Stretch). p.from) halves.left_is in
      let second = ap (λ (p : Stretch). p.from) halves.right_is in
      let end = ap (λ (p : Stretch). p.to) halves.right_is in
      elim (cases_lt j left.to) [
        | inl below ↦
            here.each j (omega arith) below (subst P (sym halves.left_is) has)
        | inr above ↦
            there.each j (omega arith) (omega arith) (subst P (sym halves.right_is) has)
      ];
}
