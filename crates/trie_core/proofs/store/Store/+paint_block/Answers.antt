-- A block that is cut is painted by its halves.
use Rattle.std.proofs.Common.{ℕ, ◌≡◌, ◌+◌, ◌-◌, ◌/◌, ◌∙◌, sym, ap, subst, arith, Err}
use Rattle.std.proofs.Common.{length, le_refl}
use Rattle.std.proofs.lemmas.Result.{IfOk-weaker, IfErr-at_err, err_from_is_err_and}
use Rattle.trie_core.specs.declared.fault.StoreFault.TheVariants.{Full, Memory}
use Rattle.trie_core.specs.Tree.{look, height}
use Rattle.trie_core.specs.Store.{meaning, AddedUnder}
use Rattle.trie_core.specs.Paint.{IsPainted, HoldsPainted, IsAscending, AllEndFrom, IsCut}
use Rattle.trie_core.specs.Paint.{paint_cost}
use Rattle.trie_core.proofs.StoreLemmas.{GrowsBy-trans, IsKept-trans}
use Rattle.trie_core.proofs.PaintLemmas.{AddedUnder-join}
use Rattle.trie_core.proofs.BlockLemmas.{are_halves, cost_of_cut, cost_of_halves, left_held}
use Rattle.trie_core.proofs.BlockLemmas.{painted_of_halves, right_held, node_missing, IfOk-both}
use Rattle.trie_core.proofs.BlockLemmas.{IsDone, IsDone-settled, room_at_refusal}
use Rattle.trie_core.proofs.store.Store.+paint_block.Goals as goal
use Rattle.trie_core.proofs.store.Store.+paint_block.Goals.{in-Some, in-None+in_ok-left-in-None}
use Rattle.trie_core.proofs.store.Store.+paint_block.Goals.{in-Some-settled, Joined-settled}
use Rattle.trie_core.proofs.store.Store.+paint_block.Goals.{Joined-settled-2}
use Rattle.trie_core.proofs.store.Store.+paint_block.Goals.{in-None-settled+in_ok-right-in-None-settled}

pub paint_block-requires : goal.paint_block-requires
paint_block-requires g t c κs within =
    let h = are_halves c.args.first c.args.last c.args.bits c.args.parts.now.now
    c.requires.block c.requires.cut in
    let same = c.in-None.ensures.1 in (
      omega (arith, h.some, c.decreases),
      (
        within,
        (
          c.requires.sound,
          (
            c.halves-left.ensures.left_of,
            (
              omega (arith, c.halves-left.ensures.left_low, c.requires.low),
              (
                omega (arith, c.requires.bits),
                (
                  h.lower,
                  (
                    subst IsAscending (sym same) c.requires.ascending,
                    (
                      subst (AllEndFrom c.args.first) (sym same) c.requires.begun,
                      subst (IsCut c.args.first (c.args.first + (c.args.last - c.args.first) / 2))
                          (sym same) c.in-None.ensures.0,
                    ),
                  ),
                ),
              ),
            ),
          ),
        ),
      ),
    )

pub returns-in_err-left-in-None-clause-cost : goal.returns-in_err-left-in-None-clause-cost
returns-in_err-left-in-None-clause-cost g t c =
    omega (
      arith,
      c.in_err-left-in-None.ensures.cost,
      ap (paint_cost (c.args.bits - 1) c.args.first) c.in-None.ensures.1,
      cost_of_cut c.args.first c.args.last c.args.bits c.args.parts.now.now
          c.requires.block c.requires.cut,
    )

pub returns-in_err-left-in-None-clause-full : goal.returns-in_err-left-in-None-clause-full
returns-in_err-left-in-None-clause-full g t c =
    let p = err_from_is_err_and c.from_residual.result c.from_residual.ensures.1 in
    λ e.
    let fault : c.in_err-left-in-None.field-0.0 ≡ Full = cc (p.1, p.2, e) in
    let said = c.in_err-left-in-None.ensures.full (ap Err fault) in (
      said.0,
      λ held. said.1 (subst (HoldsPainted c.paint_block.new.self (meaning c.args.self.now
          c.halves-left.result.0) (c.args.bits - 1) c.args.first) (sym c.in-None.ensures.1)
          (left_held c.args.first c.args.last c.args.bits c.args.parts.now.now
          c.requires.block c.requires.cut
          (meaning c.args.self.now c.args.rec) (meaning c.args.self.now c.halves-left.result.0)
          (meaning c.args.self.now c.halves-left.result.1) c.halves-left.ensures.left_look
          c.halves-left.ensures.right_look c.paint_block.new.self
          c.in_err-left-in-None.ensures.sound held)),
    )

-- the lower half is painted, whether it was cut or not
left_done : (g : Rattle.trie_core.proofs.store.Store.+paint_block.Given.Over) (t : ℕ)
    (c : Joined-settled g t)
    → IsDone c.args.self.now c.match-settled.self c.halves-left.result.0
    c.match-settled.left (c.args.bits - 1) c.args.first
    (c.args.first + (c.args.last - c.args.first) / 2) c.args.parts.now.now
    c.match-settled.parts.now c.args.steps.now c.match-settled.steps
left_done g t c =
    let h = are_halves c.args.first c.args.last c.args.bits c.args.parts.now.now
    c.requires.block c.requires.cut in
    elim c.match-settled.branch [
      | in-Some w ↦ rw (w.self-is, w.parts-is, w.steps-is, w.left-is)
          (IsDone-settled c.args.self.now c.halves-left.result.0 _ (c.args.bits - 1) c.args.first
          (c.args.first + (c.args.last - c.args.first) / 2) c.args.parts.now.now _ c.args.steps.now
          c.requires.sound c.halves-left.ensures.left_of
          (omega (arith, c.halves-left.ensures.left_low, c.requires.low)) h.lower
          w.in-Some.ensures.0 w.in-Some.ensures.1)
      | in-None+in_ok-left-in-None w ↦ rw (w.self-is, w.parts-is, w.steps-is, w.left-is)
          (subst (λ ps. IsDone c.args.self.now w.paint_block.new.self c.halves-left.result.0
          w.in_ok-left-in-None.left (c.args.bits - 1) c.args.first
          (c.args.first + (c.args.last - c.args.first) / 2) ps w.paint_block.new.parts.now
          c.args.steps.now w.paint_block.new.steps) w.in-None.ensures.1 (record {
            of = w.in_ok-left-in-None.ensures.of;
            painted = w.in_ok-left-in-None.ensures.painted;
            left = w.in_ok-left-in-None.ensures.left;
            ticks = w.in_ok-left-in-None.ensures.ticks;
            cost = w.in_ok-left-in-None.ensures.cost;
            grows = w.in_ok-left-in-None.ensures.grows;
            kept = w.in_ok-left-in-None.ensures.kept;
            under = w.in_ok-left-in-None.ensures.under;
            sound = w.in_ok-left-in-None.ensures.sound;
          }))
    ]

-- and so is the upper half
right_done : (g : Rattle.trie_core.proofs.store.Store.+paint_block.Given.Over) (t : ℕ)
    (c : Joined-settled-2 g t)
    → IsDone c.args.self.now c.match-settled.self c.halves-left.result.0
    c.match-settled.left (c.args.bits - 1) c.args.first
    (c.args.first + (c.args.last - c.args.first) / 2) c.args.parts.now.now
    c.match-settled.parts.now c.args.steps.now c.match-settled.steps
    → IsDone c.match-settled.self c.match-settled-2.self c.halves-left.result.1
    c.match-settled-2.right (c.args.bits - 1) (c.args.first + (c.args.last - c.args.first) / 2 + 1)
    c.args.last c.match-settled.parts.now c.match-settled-2.parts.now c.match-settled.steps
    c.match-settled-2.steps
right_done g t c left =
    let h = are_halves c.args.first c.args.last c.args.bits c.args.parts.now.now
    c.requires.block c.requires.cut in
    let kept = left.kept c.halves-left.result.1 c.halves-left.ensures.right_of in
    elim c.match-settled-2.branch [
      | in-Some-settled w ↦ rw (w.self-is, w.parts-is, w.steps-is, w.right-is)
          (IsDone-settled c.match-settled.self c.halves-left.result.1 _ (c.args.bits - 1)
          (c.args.first + (c.args.last - c.args.first) / 2 + 1) c.args.last
          c.match-settled.parts.now _ c.match-settled.steps left.sound kept.0
          (omega (arith, ap height kept.1, c.halves-left.ensures.right_low, c.requires.low))
          h.upper w.in-Some-settled.ensures.0 w.in-Some-settled.ensures.1)
      | in-None-settled+in_ok-right-in-None-settled w ↦
          rw (w.self-is, w.parts-is, w.steps-is, w.right-is)
          (subst (λ ps. IsDone c.match-settled.self w.paint_block-in-None-settled.new.self
          c.halves-left.result.1 w.in_ok-right-in-None-settled.right (c.args.bits - 1)
          (c.args.first + (c.args.last - c.args.first) / 2 + 1) c.args.last ps
          w.paint_block-in-None-settled.new.parts.now c.match-settled.steps
          w.paint_block-in-None-settled.new.steps) w.in-None-settled.ensures.1 (record {
            of = w.in_ok-right-in-None-settled.ensures.of;
            painted = w.in_ok-right-in-None-settled.ensures.painted;
            left = w.in_ok-right-in-None-settled.ensures.left;
            ticks = w.in_ok-right-in-None-settled.ensures.ticks;
            cost = w.in_ok-right-in-None-settled.ensures.cost;
            grows = w.in_ok-right-in-None-settled.ensures.grows;
            kept = w.in_ok-right-in-None-settled.ensures.kept;
            under = w.in_ok-right-in-None-settled.ensures.under;
            sound = w.in_ok-right-in-None-settled.ensures.sound;
          }))
    ]

pub paint_block-requires-in-None-settled : goal.paint_block-requires-in-None-settled
paint_block-requires-in-None-settled g t c κs within =
    let h = are_halves c.args.first c.args.last c.args.bits c.args.parts.now.now
    c.requires.block c.requires.cut in
    let left = left_done g t (goal.at.paint_block-requires-in-None-settled g t c).Joined-settled in
    let kept = left.kept c.halves-left.result.1 c.halves-left.ensures.right_of in
    let same = c.in-None-settled.ensures.1 in (
      omega (arith, h.some, c.decreases),
      (
        within,
        (
          left.sound,
          (
            kept.0,
            (
              omega (arith, ap height kept.1, c.halves-left.ensures.right_low, c.requires.low),
              (
                omega (arith, c.requires.bits),
                (
                  h.upper,
                  (
                    subst IsAscending (sym same) left.left.ascending,
                    (
                      subst (AllEndFrom (c.args.first + (c.args.last - c.args.first) / 2 + 1))
                          (sym same) left.left.begun,
                      subst (IsCut (c.args.first + (c.args.last - c.args.first) / 2 + 1)
                          c.args.last) (sym same) c.in-None-settled.ensures.0,
                    ),
                  ),
                ),
              ),
            ),
          ),
        ),
      ),
    )

pub returns-in_err-right-in-None-settled-clause-cost :
    goal.returns-in_err-right-in-None-settled-clause-cost
returns-in_err-right-in-None-settled-clause-cost g t c =
    let left = left_done g t
    (goal.at.returns-in_err-right-in-None-settled-clause-cost g t c).Joined-settled in
    omega (
      arith,
      left.cost,
      c.in_err-right-in-None-settled.ensures.cost,
      ap (paint_cost (c.args.bits - 1) (c.args.first + (c.args.last - c.args.first) / 2 + 1))
          c.in-None-settled.ensures.1,
      cost_of_halves c.args.first c.args.last c.args.bits c.args.parts.now.now
          c.requires.block c.requires.cut c.match-settled.parts.now left.left,
    )

pub returns-in_err-right-in-None-settled-clause-grows :
    goal.returns-in_err-right-in-None-settled-clause-grows
returns-in_err-right-in-None-settled-clause-grows g t c =
    let left = left_done g t
    (goal.at.returns-in_err-right-in-None-settled-clause-grows g t c).Joined-settled in
    GrowsBy-trans _ _ _ _ _ _ left.grows c.in_err-right-in-None-settled.ensures.grows
    (omega (arith, left.ticks, c.in_err-right-in-None-settled.ensures.ticks))

pub returns-in_err-right-in-None-settled-clause-full :
    goal.returns-in_err-right-in-None-settled-clause-full
returns-in_err-right-in-None-settled-clause-full g t c =
    let left = left_done g t
    (goal.at.returns-in_err-right-in-None-settled-clause-full g t c).Joined-settled in
    let kept = left.kept c.halves-left.result.1 c.halves-left.ensures.right_of in
    let p = err_from_is_err_and c.from_residual-in_err-right-in-None-settled.result
    c.from_residual-in_err-right-in-None-settled.ensures.1 in
    λ e.
    let fault : c.in_err-right-in-None-settled.field-0.0 ≡ Full = cc (p.1, p.2, e) in
    let said = c.in_err-right-in-None-settled.ensures.full (ap Err fault) in (
      said.0,
      λ held. said.1 (subst (HoldsPainted c.paint_block-in-None-settled.new.self
          (meaning c.match-settled.self c.halves-left.result.1) (c.args.bits - 1)
          (c.args.first + (c.args.last - c.args.first) / 2 + 1)) (sym c.in-None-settled.ensures.1)
          (right_held c.args.first c.args.last c.args.bits c.args.parts.now.now
          c.requires.block c.requires.cut
          c.match-settled.parts.now left.left (meaning c.args.self.now c.args.rec)
          (meaning c.args.self.now c.halves-left.result.0)
          (meaning c.match-settled.self c.halves-left.result.1) c.halves-left.ensures.left_look
          (λ w. c.halves-left.ensures.right_look w ∙ ap (λ u. look u w) (sym kept.1))
          c.paint_block-in-None-settled.new.self c.in_err-right-in-None-settled.ensures.sound
          held)),
    )

pub mk-requires-clause-left_low : goal.mk-requires-clause-left_low
mk-requires-clause-left_low g t c =
    let h = are_halves c.args.first c.args.last c.args.bits c.args.parts.now.now
    c.requires.block c.requires.cut in
    let left = left_done g t (goal.at.mk-requires-clause-left_low g t c).Joined-settled in
    let right = right_done g t (goal.at.mk-requires-clause-left_low g t c).Joined-settled-2 left in
    omega (
      arith,
      ap height (right.kept c.match-settled.left left.of).1,
      left.painted.low,
      c.requires.bits,
      h.some,
    )

pub mk-requires-clause-right_low : goal.mk-requires-clause-right_low
mk-requires-clause-right_low g t c =
    let h = are_halves c.args.first c.args.last c.args.bits c.args.parts.now.now
    c.requires.block c.requires.cut in
    let left = left_done g t (goal.at.mk-requires-clause-right_low g t c).Joined-settled in
    let right = right_done g t (goal.at.mk-requires-clause-right_low g t c).Joined-settled-2 left in
    omega (arith, right.painted.low, c.requires.bits, h.some)

pub returns-clause-painted : goal.returns-clause-painted
returns-clause-painted g t c =
    let left = left_done g t (goal.at.returns-clause-painted g t c).Joined-settled in
    let right = right_done g t (goal.at.returns-clause-painted g t c).Joined-settled-2 left in
    let kept = left.kept c.halves-left.result.1 c.halves-left.ensures.right_of in
    let both = painted_of_halves c.args.first c.args.last c.args.bits c.args.parts.now.now
    c.requires.block c.requires.cut
    c.match-settled.parts.now left.left (meaning c.args.self.now c.args.rec)
    (meaning c.args.self.now c.halves-left.result.0)
    (meaning c.match-settled.self c.halves-left.result.1) c.halves-left.ensures.left_look
    (λ w. c.halves-left.ensures.right_look w ∙ ap (λ u. look u w) (sym kept.1)) _ _
    (subst (λ u. IsPainted (meaning c.args.self.now c.halves-left.result.0) u
    (c.args.bits - 1) c.args.first c.args.parts.now.now)
    (sym (right.kept c.match-settled.left left.of).1) left.painted) right.painted in
    IfOk-weaker c.mk.result _ _ (λ r is. subst (λ u. IsPainted (meaning c.args.self.now c.args.rec)
    u c.args.bits c.args.first c.args.parts.now.now) (sym is) both) c.mk.ensures.meaning

pub returns-clause-cost : goal.returns-clause-cost
returns-clause-cost g t c =
    let left = left_done g t (goal.at.returns-clause-cost g t c).Joined-settled in
    let right = right_done g t (goal.at.returns-clause-cost g t c).Joined-settled-2 left in
    omega (
      arith,
      left.cost,
      right.cost,
      c.mk.ensures.steps,
      cost_of_halves c.args.first c.args.last c.args.bits c.args.parts.now.now
          c.requires.block c.requires.cut c.match-settled.parts.now left.left,
    )

pub returns-clause-grows : goal.returns-clause-grows
returns-clause-grows g t c =
    let left = left_done g t (goal.at.returns-clause-grows g t c).Joined-settled in
    let right = right_done g t (goal.at.returns-clause-grows g t c).Joined-settled-2 left in
    GrowsBy-trans _ _ _ _ _ _ left.grows
    (GrowsBy-trans _ _ _ _ _ _ right.grows c.mk.ensures.grows (le_refl _))
    (omega (arith, left.ticks, right.ticks, c.mk.ensures.steps))

pub returns-clause-under : goal.returns-clause-under
returns-clause-under g t c =
    let left = left_done g t (goal.at.returns-clause-under g t c).Joined-settled in
    let right = right_done g t (goal.at.returns-clause-under g t c).Joined-settled-2 left in
    IfOk-weaker c.mk.result _ (AddedUnder c.args.self.now c.mk.new.self)
    (λ r said. AddedUnder-join c.args.self.now c.match-settled.self c.match-settled-2.self
    c.mk.new.self c.match-settled.left c.match-settled-2.right r c.mk.ensures.sound left.of
    right.of right.kept c.mk.ensures.kept said.0 left.under right.under said.1)
    (IfOk-both c.mk.result _ _ c.mk.ensures.meaning c.mk.ensures.under)

pub returns-clause-full : goal.returns-clause-full
returns-clause-full g t c =
    let left = left_done g t (goal.at.returns-clause-full g t c).Joined-settled in
    let right = right_done g t (goal.at.returns-clause-full g t c).Joined-settled-2 left in
    let kept = left.kept c.halves-left.result.1 c.halves-left.ensures.right_of in
    λ e.
    let said = c.mk.ensures.full.0 e in
    let same : c.mk.new.self ≡ c.match-settled-2.self = IfErr-at_err _ e c.mk.ensures.err in (
      ap (λ ps. length ps + 1) same ∙ said.0,
      λ held. node_missing c.args.first c.args.last c.args.bits c.args.parts.now.now
          c.requires.block c.requires.cut
          c.match-settled.parts.now left.left (meaning c.args.self.now c.args.rec)
          (meaning c.args.self.now c.halves-left.result.0)
          (meaning c.match-settled.self c.halves-left.result.1) c.halves-left.ensures.left_look
          (λ w. c.halves-left.ensures.right_look w ∙ ap (λ u. look u w) (sym kept.1))
          c.match-settled-2.self right.sound c.match-settled.left c.match-settled-2.right
          (right.kept c.match-settled.left left.of).0 right.of
          (subst (λ u. IsPainted (meaning c.args.self.now c.halves-left.result.0) u
          (c.args.bits - 1) c.args.first c.args.parts.now.now)
          (sym (right.kept c.match-settled.left left.of).1) left.painted) right.painted said.1
          (subst (λ ps. HoldsPainted ps (meaning c.args.self.now c.args.rec) c.args.bits
          c.args.first c.args.parts.now.now) same held),
    )

-- ---- the clauses that speak of no paint

pub returns-in_err-left-in-None-clause-memory : goal.returns-in_err-left-in-None-clause-memory
returns-in_err-left-in-None-clause-memory g t c =
    let p = err_from_is_err_and c.from_residual.result c.from_residual.ensures.1 in
    λ e.
    let fault : c.in_err-left-in-None.field-0.0 ≡ Memory = cc (p.1, p.2, e) in
    c.in_err-left-in-None.ensures.memory (ap Err fault)

pub returns-in_err-right-in-None-settled-clause-memory :
    goal.returns-in_err-right-in-None-settled-clause-memory
returns-in_err-right-in-None-settled-clause-memory g t c =
    let p = err_from_is_err_and c.from_residual-in_err-right-in-None-settled.result
    c.from_residual-in_err-right-in-None-settled.ensures.1 in
    λ e.
    let fault : c.in_err-right-in-None-settled.field-0.0 ≡ Memory = cc (p.1, p.2, e) in
    c.in_err-right-in-None-settled.ensures.memory (ap Err fault)

pub returns-in_err-right-in-None-settled-clause-ticks :
    goal.returns-in_err-right-in-None-settled-clause-ticks
returns-in_err-right-in-None-settled-clause-ticks g t c =
    let left = left_done g t
    (goal.at.returns-in_err-right-in-None-settled-clause-ticks g t c).Joined-settled in
    omega (arith, left.ticks, c.in_err-right-in-None-settled.ensures.ticks)

pub returns-in_err-right-in-None-settled-clause-kept :
    goal.returns-in_err-right-in-None-settled-clause-kept
returns-in_err-right-in-None-settled-clause-kept g t c =
    let left = left_done g t
    (goal.at.returns-in_err-right-in-None-settled-clause-kept g t c).Joined-settled in
    IsKept-trans c.args.self.now c.match-settled.self c.paint_block-in-None-settled.new.self
    left.kept c.in_err-right-in-None-settled.ensures.kept

pub mk-requires-clause-left_of : goal.mk-requires-clause-left_of
mk-requires-clause-left_of g t c =
    let left = left_done g t (goal.at.mk-requires-clause-left_of g t c).Joined-settled in
    let right = right_done g t (goal.at.mk-requires-clause-left_of g t c).Joined-settled-2 left in
    (right.kept c.match-settled.left left.of).0

pub mk-requires-clause-right_of : goal.mk-requires-clause-right_of
mk-requires-clause-right_of g t c =
    let left = left_done g t (goal.at.mk-requires-clause-right_of g t c).Joined-settled in
    let right = right_done g t (goal.at.mk-requires-clause-right_of g t c).Joined-settled-2 left in
    right.of

pub returns-clause-ticks : goal.returns-clause-ticks
returns-clause-ticks g t c =
    let left = left_done g t (goal.at.returns-clause-ticks g t c).Joined-settled in
    let right = right_done g t (goal.at.returns-clause-ticks g t c).Joined-settled-2 left in
    omega (arith, left.ticks, right.ticks, c.mk.ensures.steps)

pub returns-clause-kept : goal.returns-clause-kept
returns-clause-kept g t c =
    let left = left_done g t (goal.at.returns-clause-kept g t c).Joined-settled in
    let right = right_done g t (goal.at.returns-clause-kept g t c).Joined-settled-2 left in
    IsKept-trans c.args.self.now c.match-settled.self c.mk.new.self left.kept
    (IsKept-trans c.match-settled.self c.match-settled-2.self c.mk.new.self right.kept
    c.mk.ensures.kept)

pub returns-clause-memory : goal.returns-clause-memory
returns-clause-memory g t c =
    let left = left_done g t (goal.at.returns-clause-memory g t c).Joined-settled in
    let right = right_done g t (goal.at.returns-clause-memory g t c).Joined-settled-2 left in
    room_at_refusal c.match-settled-2.self c.mk.new.self _ _ c.mk.result right.sound
    c.mk.ensures.err c.mk.ensures.refused c.mk.ensures.full.1
