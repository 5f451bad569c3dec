-- A graft is the join of the half that has it and of the other half.
use Rattle.std.proofs.Common.{◌≡◌, ◌+◌, ◌-◌, ◌∙◌, refl, sym, ap, subst, arith, Err, length, take}
use Rattle.std.proofs.Common.{nat_eq}
use Rattle.std.proofs.lemmas.Result.{IfOk-weaker, IfErr-at_err, err_from_is_err_and}
use Rattle.geo_addr.specs.Bits.{bits_of}
use Rattle.trie_core.specs.declared.fault.StoreFault.TheVariants.{Full, Memory}
use Rattle.trie_core.specs.Tree.{height}
use Rattle.trie_core.specs.Store.{meaning, AddedUnder}
use Rattle.trie_core.specs.Graft.{graft, HoldsTree}
use Rattle.trie_core.proofs.TreeLemmas.{height-join, nat_equality}
use Rattle.trie_core.proofs.StoreLemmas.{AddedUnder-same, IsKept-same, IsKept-trans}
use Rattle.trie_core.proofs.StoreLemmas.{GrowsBy-same, GrowsBy-trans}
use Rattle.trie_core.proofs.PaintLemmas.{AddedUnder-join}
use Rattle.trie_core.proofs.BlockLemmas.{IfOk-both, room_at_refusal}
use Rattle.trie_core.proofs.GraftLemmas.{graft-zero, graft-one}
use Rattle.trie_core.proofs.HeldLemmas.{HoldsTree-left, HoldsTree-right, join_missing}
use Rattle.trie_core.proofs.store.Store.+graft_at.Goals as goal

pub returns-in_err-left-clause-full : goal.returns-in_err-left-clause-full
returns-in_err-left-clause-full g t c =
    let p = err_from_is_err_and c.from_residual.result c.from_residual.ensures.1 in
    λ e.
    let fault : c.in_err-left.field-0.0 ≡ Full = cc (p.1, p.2, e) in
    let said = c.in_err-left.ensures.full (ap Err fault) in
    let whole = graft-zero (meaning c.args.self.now c.args.rec)
    (meaning c.args.self.now c.args.subtree) (meaning c.args.self.now c.halves-left.result.0)
    (meaning c.args.self.now c.halves-left.result.1) _ _ c.args.bits c.args.below c.args.at
    c.requires.below c.if-bits-below.false c.if-at-bits-eq0.true c.halves-left.ensures.left_is
    c.halves-left.ensures.right_is refl refl in (
      said.0,
      λ held. said.1 (HoldsTree-left c.graft_at.new.self c.in_err-left.ensures.sound _ _
          (subst (HoldsTree c.graft_at.new.self) (sym whole) held)),
    )

pub returns-in_ok-left-clause-meaning : goal.returns-in_ok-left-clause-meaning
returns-in_ok-left-clause-meaning g t c =
    let joined = graft-zero (meaning c.args.self.now c.args.rec)
    (meaning c.args.self.now c.args.subtree) (meaning c.args.self.now c.halves-left.result.0)
    (meaning c.args.self.now c.halves-left.result.1) (meaning c.graft_at.new.self c.in_ok-left.left)
    (meaning c.graft_at.new.self c.halves-left.result.1)
    c.args.bits c.args.below c.args.at c.requires.below c.if-bits-below.false c.if-at-bits-eq0.true
    c.halves-left.ensures.left_is c.halves-left.ensures.right_is c.in_ok-left.ensures.meaning
    (c.in_ok-left.ensures.kept c.halves-left.result.1 c.halves-left.ensures.right_of).1 in
    IfOk-weaker c.mk.result _ _ (λ r is. is ∙ joined) c.mk.ensures.meaning

pub returns-in_ok-left-clause-low : goal.returns-in_ok-left-clause-low
returns-in_ok-left-clause-low g t c =
    IfOk-weaker c.mk.result _ _
    (λ r is. omega (
      arith,
      ap height is,
      height-join nat_eq nat_equality (meaning c.graft_at.new.self c.in_ok-left.left)
          (meaning c.graft_at.new.self c.halves-left.result.1),
      c.in_ok-left.ensures.low,
      ap height (c.in_ok-left.ensures.kept c.halves-left.result.1 c.halves-left.ensures.right_of).1,
      c.halves-left.ensures.right_low,
      c.requires.low,
      c.if-bits-below.false,
      c.requires.below,
    ))
    c.mk.ensures.meaning

pub returns-in_ok-left-clause-under : goal.returns-in_ok-left-clause-under
returns-in_ok-left-clause-under g t c =
    IfOk-weaker c.mk.result _ (AddedUnder c.args.self.now c.mk.new.self)
    (λ r said. AddedUnder-join c.args.self.now c.graft_at.new.self c.graft_at.new.self c.mk.new.self
    c.in_ok-left.left c.halves-left.result.1 r c.mk.ensures.sound c.in_ok-left.ensures.of
    (c.in_ok-left.ensures.kept c.halves-left.result.1 c.halves-left.ensures.right_of).0
    (IsKept-same c.graft_at.new.self) c.mk.ensures.kept said.0 c.in_ok-left.ensures.under
    (AddedUnder-same c.graft_at.new.self c.halves-left.result.1) said.1)
    (IfOk-both c.mk.result _ _ c.mk.ensures.meaning c.mk.ensures.under)

pub returns-in_ok-left-clause-full : goal.returns-in_ok-left-clause-full
returns-in_ok-left-clause-full g t c = λ e.
    let said = c.mk.ensures.full.0 e in
    let same : c.mk.new.self ≡ c.graft_at.new.self = IfErr-at_err _ e c.mk.ensures.err in
    let joined = graft-zero (meaning c.args.self.now c.args.rec)
    (meaning c.args.self.now c.args.subtree) (meaning c.args.self.now c.halves-left.result.0)
    (meaning c.args.self.now c.halves-left.result.1) (meaning c.graft_at.new.self c.in_ok-left.left)
    (meaning c.graft_at.new.self c.halves-left.result.1)
    c.args.bits c.args.below c.args.at c.requires.below c.if-bits-below.false c.if-at-bits-eq0.true
    c.halves-left.ensures.left_is c.halves-left.ensures.right_is c.in_ok-left.ensures.meaning
    (c.in_ok-left.ensures.kept c.halves-left.result.1 c.halves-left.ensures.right_of).1 in (
      ap (λ ps. length ps + 1) same ∙ said.0,
      λ held. join_missing c.graft_at.new.self c.in_ok-left.ensures.sound
          c.in_ok-left.left c.halves-left.result.1 c.in_ok-left.ensures.of
          (c.in_ok-left.ensures.kept c.halves-left.result.1 c.halves-left.ensures.right_of).0 said.1
          (subst (HoldsTree c.graft_at.new.self) (sym joined) (subst (λ ps. HoldsTree ps
          (graft nat_eq (meaning c.args.self.now c.args.rec) (take (c.args.bits - c.args.below)
          (bits_of c.args.bits c.args.at)) (meaning c.args.self.now c.args.subtree))) same held)),
    )

pub returns-in_err-right-clause-full : goal.returns-in_err-right-clause-full
returns-in_err-right-clause-full g t c =
    let p = err_from_is_err_and c.from_residual-in_err-right.result
    c.from_residual-in_err-right.ensures.1 in
    λ e.
    let fault : c.in_err-right.field-0.0 ≡ Full = cc (p.1, p.2, e) in
    let said = c.in_err-right.ensures.full (ap Err fault) in
    let whole = graft-one (meaning c.args.self.now c.args.rec)
    (meaning c.args.self.now c.args.subtree) (meaning c.args.self.now c.halves-left.result.0)
    (meaning c.args.self.now c.halves-left.result.1) _ _ c.args.bits c.args.below c.args.at
    c.requires.below c.if-bits-below.false c.if-at-bits-eq0.false c.halves-left.ensures.left_is
    c.halves-left.ensures.right_is refl refl in (
      said.0,
      λ held.
          said.1 (HoldsTree-right c.graft_at-else-at-bits-eq0.new.self c.in_err-right.ensures.sound
          _ _ (subst (HoldsTree c.graft_at-else-at-bits-eq0.new.self) (sym whole) held)),
    )

pub returns-in_ok-right-clause-meaning : goal.returns-in_ok-right-clause-meaning
returns-in_ok-right-clause-meaning g t c =
    let joined = graft-one (meaning c.args.self.now c.args.rec)
    (meaning c.args.self.now c.args.subtree) (meaning c.args.self.now c.halves-left.result.0)
    (meaning c.args.self.now c.halves-left.result.1) (meaning c.graft_at-else-at-bits-eq0.new.self
    c.halves-left.result.0) (meaning c.graft_at-else-at-bits-eq0.new.self c.in_ok-right.right)
    c.args.bits c.args.below c.args.at c.requires.below c.if-bits-below.false c.if-at-bits-eq0.false
    c.halves-left.ensures.left_is c.halves-left.ensures.right_is c.in_ok-right.ensures.meaning
    (c.in_ok-right.ensures.kept c.halves-left.result.0 c.halves-left.ensures.left_of).1 in
    IfOk-weaker c.mk-else-at-bits-eq0.result _ _
    (λ r is. is ∙ joined) c.mk-else-at-bits-eq0.ensures.meaning

pub returns-in_ok-right-clause-low : goal.returns-in_ok-right-clause-low
returns-in_ok-right-clause-low g t c =
    IfOk-weaker c.mk-else-at-bits-eq0.result _ _
    (λ r is. omega (
      arith,
      ap height is,
      height-join nat_eq nat_equality
          (meaning c.graft_at-else-at-bits-eq0.new.self c.halves-left.result.0)
          (meaning c.graft_at-else-at-bits-eq0.new.self c.in_ok-right.right),
      c.in_ok-right.ensures.low,
      ap height (c.in_ok-right.ensures.kept c.halves-left.result.0 c.halves-left.ensures.left_of).1,
      c.halves-left.ensures.left_low,
      c.requires.low,
      c.if-bits-below.false,
      c.requires.below,
    ))
    c.mk-else-at-bits-eq0.ensures.meaning

pub returns-in_ok-right-clause-under : goal.returns-in_ok-right-clause-under
returns-in_ok-right-clause-under g t c =
    IfOk-weaker c.mk-else-at-bits-eq0.result _
    (AddedUnder c.args.self.now c.mk-else-at-bits-eq0.new.self)
    (λ r said. AddedUnder-join c.args.self.now c.args.self.now c.graft_at-else-at-bits-eq0.new.self
    c.mk-else-at-bits-eq0.new.self c.halves-left.result.0
    c.in_ok-right.right r c.mk-else-at-bits-eq0.ensures.sound c.halves-left.ensures.left_of
    c.in_ok-right.ensures.of c.in_ok-right.ensures.kept c.mk-else-at-bits-eq0.ensures.kept said.0
    (AddedUnder-same c.args.self.now c.halves-left.result.0) c.in_ok-right.ensures.under said.1)
    (IfOk-both c.mk-else-at-bits-eq0.result _ _ c.mk-else-at-bits-eq0.ensures.meaning
    c.mk-else-at-bits-eq0.ensures.under)

pub returns-in_ok-right-clause-full : goal.returns-in_ok-right-clause-full
returns-in_ok-right-clause-full g t c = λ e.
    let said = c.mk-else-at-bits-eq0.ensures.full.0 e in
    let same : c.mk-else-at-bits-eq0.new.self ≡ c.graft_at-else-at-bits-eq0.new.self =
    IfErr-at_err _ e c.mk-else-at-bits-eq0.ensures.err in
    let joined = graft-one (meaning c.args.self.now c.args.rec)
    (meaning c.args.self.now c.args.subtree) (meaning c.args.self.now c.halves-left.result.0)
    (meaning c.args.self.now c.halves-left.result.1) (meaning c.graft_at-else-at-bits-eq0.new.self
    c.halves-left.result.0) (meaning c.graft_at-else-at-bits-eq0.new.self c.in_ok-right.right)
    c.args.bits c.args.below c.args.at c.requires.below c.if-bits-below.false c.if-at-bits-eq0.false
    c.halves-left.ensures.left_is c.halves-left.ensures.right_is c.in_ok-right.ensures.meaning
    (c.in_ok-right.ensures.kept c.halves-left.result.0 c.halves-left.ensures.left_of).1 in (
      ap (λ ps. length ps + 1) same ∙ said.0,
      λ held. join_missing c.graft_at-else-at-bits-eq0.new.self
          c.in_ok-right.ensures.sound c.halves-left.result.0 c.in_ok-right.right
          (c.in_ok-right.ensures.kept c.halves-left.result.0 c.halves-left.ensures.left_of).0
          c.in_ok-right.ensures.of said.1
          (subst (HoldsTree c.graft_at-else-at-bits-eq0.new.self)
          (sym joined) (subst (λ ps. HoldsTree ps (graft nat_eq (meaning c.args.self.now c.args.rec)
          (take (c.args.bits - c.args.below) (bits_of c.args.bits c.args.at))
          (meaning c.args.self.now c.args.subtree))) same held)),
    )

-- ---- the clauses that need no graft

pub returns-then-bits-below-clause-grows : goal.returns-then-bits-below-clause-grows
returns-then-bits-below-clause-grows g t c = GrowsBy-same c.args.self.now _

pub returns-then-bits-below-clause-kept : goal.returns-then-bits-below-clause-kept
returns-then-bits-below-clause-kept g t c = IsKept-same c.args.self.now

pub returns-then-bits-below-clause-under : goal.returns-then-bits-below-clause-under
returns-then-bits-below-clause-under g t c = AddedUnder-same c.args.self.now c.args.subtree

pub returns-in_err-left-clause-memory : goal.returns-in_err-left-clause-memory
returns-in_err-left-clause-memory g t c =
    let p = err_from_is_err_and c.from_residual.result c.from_residual.ensures.1 in
    λ e.
    let fault : c.in_err-left.field-0.0 ≡ Memory = cc (p.1, p.2, e) in
    c.in_err-left.ensures.memory (ap Err fault)

pub mk-requires-clause-right_of : goal.mk-requires-clause-right_of
mk-requires-clause-right_of g t c =
    (c.in_ok-left.ensures.kept c.halves-left.result.1 c.halves-left.ensures.right_of).0

pub mk-requires-clause-left_low : goal.mk-requires-clause-left_low
mk-requires-clause-left_low g t c =
    omega (
      arith,
      c.in_ok-left.ensures.low,
      c.requires.bits,
      c.requires.below,
      c.if-bits-below.false,
    )

pub mk-requires-clause-right_low : goal.mk-requires-clause-right_low
mk-requires-clause-right_low g t c = omega (
  arith,
  ap height (c.in_ok-left.ensures.kept c.halves-left.result.1 c.halves-left.ensures.right_of).1,
  c.halves-left.ensures.right_low,
  c.requires.low,
  c.requires.bits,
)

pub returns-in_ok-left-clause-ticks : goal.returns-in_ok-left-clause-ticks
returns-in_ok-left-clause-ticks g t c =
    omega (arith, c.in_ok-left.ensures.ticks, c.mk.ensures.steps)

pub returns-in_ok-left-clause-grows : goal.returns-in_ok-left-clause-grows
returns-in_ok-left-clause-grows g t c =
    GrowsBy-trans _ _ _ _ _ _ c.in_ok-left.ensures.grows c.mk.ensures.grows
    (omega (arith, c.in_ok-left.ensures.ticks, c.mk.ensures.steps))

pub returns-in_ok-left-clause-kept : goal.returns-in_ok-left-clause-kept
returns-in_ok-left-clause-kept g t c =
    IsKept-trans c.args.self.now c.graft_at.new.self c.mk.new.self
    c.in_ok-left.ensures.kept c.mk.ensures.kept

pub returns-in_ok-left-clause-memory : goal.returns-in_ok-left-clause-memory
returns-in_ok-left-clause-memory g t c =
    room_at_refusal c.graft_at.new.self c.mk.new.self _ _ c.mk.result
    c.in_ok-left.ensures.sound c.mk.ensures.err c.mk.ensures.refused c.mk.ensures.full.1

pub returns-in_err-right-clause-memory : goal.returns-in_err-right-clause-memory
returns-in_err-right-clause-memory g t c =
    let p = err_from_is_err_and c.from_residual-in_err-right.result
    c.from_residual-in_err-right.ensures.1 in
    λ e.
    let fault : c.in_err-right.field-0.0 ≡ Memory = cc (p.1, p.2, e) in
    c.in_err-right.ensures.memory (ap Err fault)

pub mk-requires-else-at-bits-eq0-clause-left_of : goal.mk-requires-else-at-bits-eq0-clause-left_of
mk-requires-else-at-bits-eq0-clause-left_of g t c =
    (c.in_ok-right.ensures.kept c.halves-left.result.0 c.halves-left.ensures.left_of).0

pub mk-requires-else-at-bits-eq0-clause-right_low
    : goal.mk-requires-else-at-bits-eq0-clause-right_low
mk-requires-else-at-bits-eq0-clause-right_low g t c =
    omega (
      arith,
      c.in_ok-right.ensures.low,
      c.requires.bits,
      c.requires.below,
      c.if-bits-below.false,
    )

pub mk-requires-else-at-bits-eq0-clause-left_low : goal.mk-requires-else-at-bits-eq0-clause-left_low
mk-requires-else-at-bits-eq0-clause-left_low g t c = omega (
  arith,
  ap height (c.in_ok-right.ensures.kept c.halves-left.result.0 c.halves-left.ensures.left_of).1,
  c.halves-left.ensures.left_low,
  c.requires.low,
  c.requires.bits,
)

pub returns-in_ok-right-clause-ticks : goal.returns-in_ok-right-clause-ticks
returns-in_ok-right-clause-ticks g t c =
    omega (arith, c.in_ok-right.ensures.ticks, c.mk-else-at-bits-eq0.ensures.steps)

pub returns-in_ok-right-clause-grows : goal.returns-in_ok-right-clause-grows
returns-in_ok-right-clause-grows g t c =
    GrowsBy-trans _ _ _ _ _ _ c.in_ok-right.ensures.grows c.mk-else-at-bits-eq0.ensures.grows
    (omega (arith, c.in_ok-right.ensures.ticks, c.mk-else-at-bits-eq0.ensures.steps))

pub returns-in_ok-right-clause-kept : goal.returns-in_ok-right-clause-kept
returns-in_ok-right-clause-kept g t c =
    IsKept-trans c.args.self.now c.graft_at-else-at-bits-eq0.new.self c.mk-else-at-bits-eq0.new.self
    c.in_ok-right.ensures.kept c.mk-else-at-bits-eq0.ensures.kept

pub returns-in_ok-right-clause-memory : goal.returns-in_ok-right-clause-memory
returns-in_ok-right-clause-memory g t c =
    room_at_refusal c.graft_at-else-at-bits-eq0.new.self c.mk-else-at-bits-eq0.new.self _ _
    c.mk-else-at-bits-eq0.result c.in_ok-right.ensures.sound c.mk-else-at-bits-eq0.ensures.err
    c.mk-else-at-bits-eq0.ensures.refused c.mk-else-at-bits-eq0.ensures.full.1
