use Rattle.std.proofs.Common.{◌≡◌, ◌∙◌, ◌++◌, ◌∷◌, ◌+◌, ◌<◌, true, [], List, ℕ, Bor, ap, arith}
use Rattle.std.proofs.Common.{length, map, rules, subst, sym, take}
use Rattle.source_changes.proofs.Found.{far_changed, rest_all}
use Rattle.source_changes.proofs.Paired.{AsFar, now_more, pair_kept, pair_passed, rest_kept}
use Rattle.source_changes.proofs.changed.unpaired.Goals as goal
use Rattle.source_changes.proofs.changed.unpaired.Goals.{then-not-is_same+in_ok-push+in_ok-push-2}
use Rattle.source_changes.proofs.changed.unpaired.Goals.{else-not-is_same}

pub loop-i-preserved : goal.loop-i-preserved
loop-i-preserved g c =
    let X = g.row.S.Denot in
    let now : Bor X → X = λ s. s.now in
    let in_old : c.loop-i.i < length c.args.old.now = omega arith in
    let in_new : c.loop-i.i < length c.args.new.now = omega arith in
    elim c.if-not-is_same.branch [
      | then-not-is_same+in_ok-push+in_ok-push-2 w ↦
          let old_more : map now c.if-not-is_same.old_left.items
          ≡ map now c.loop-i.old_left.items ++ w.index-old-i-then-not-is_same.result ∷ [] =
          (λ k. map now (w.old_left-is k).items) ∙ now_more _ _ _ w.in_ok-push.ensures.items in
          let new_more : map now c.if-not-is_same.new_left.items
          ≡ map now c.loop-i.new_left.items ++ w.index-new-i-then-not-is_same.result ∷ [] =
          (λ k. map now (w.new_left-is k).items) ∙ now_more _ _ _ w.in_ok-push-2.ensures.items in
          pair_kept g.S.Compared.same c.args.old.now c.args.new.now c.loop-i.i
          w.index-old-i-then-not-is_same.result w.index-new-i-then-not-is_same.result in_old in_new
          w.index-old-i-then-not-is_same.is w.index-new-i-then-not-is_same.is
          (map now c.loop-i.old_left.items) (map now c.loop-i.new_left.items)
          (map now c.if-not-is_same.old_left.items) (map now c.if-not-is_same.new_left.items)
          old_more new_more c.loop-i.invariant
      | else-not-is_same w ↦
          let tie : g.S.Compared.same c.index-old-i.result c.index-new-i.result ≡ true =
          first_of (cc, search rules, grind arith) in
          let old_stays : map now c.loop-i.old_left.items
          ≡ map now c.if-not-is_same.old_left.items = λ k. map now (sym w.old_left-is k).items in
          let new_stays : map now c.loop-i.new_left.items
          ≡ map now c.if-not-is_same.new_left.items = λ k. map now (sym w.new_left-is k).items in
          subst (λ (zs : List X). AsFar g.S.Compared.same (take (c.loop-i.i + 1) c.args.old.now)
          (take (c.loop-i.i + 1) c.args.new.now) zs (map now c.if-not-is_same.new_left.items))
          old_stays
          (subst (λ (zs : List X). AsFar g.S.Compared.same (take (c.loop-i.i + 1) c.args.old.now)
          (take (c.loop-i.i + 1) c.args.new.now) (map now c.loop-i.old_left.items) zs) new_stays
          (pair_passed g.S.Compared.same c.args.old.now c.args.new.now c.loop-i.i
          c.index-old-i.result c.index-new-i.result in_old in_new c.index-old-i.is c.index-new-i.is
          (map now c.loop-i.old_left.items)
          (map now c.loop-i.new_left.items) tie c.loop-i.invariant))
    ]

pub returns : goal.returns
returns g c =
    let X = g.row.S.Denot in
    let now : Bor X → X = λ s. s.now in
    let n = c.min-shorter.result in
    let ended : c.loop-i.i ≡ n = omega arith in
    let far : AsFar g.S.Compared.same (take n c.args.old.now) (take n c.args.new.now)
    (map now c.loop-i.old_left.items) (map now c.loop-i.new_left.items) =
    subst (λ (m : ℕ). AsFar g.S.Compared.same (take m c.args.old.now) (take m c.args.new.now)
    (map now c.loop-i.old_left.items) (map now c.loop-i.new_left.items)) ended c.loop-i.invariant in
    far_changed g.S.Statement.range g.S.Compared.same g.S.Compared.rest g.met.S.Compared.rest_total
    g.met.S.Compared.decides
    c.args.old.now c.args.new.now (map now c.push_borrows.new.borrows.items)
    (map now c.push_borrows-2.new.borrows.items)
    (rest_kept g.S.Compared.same c.args.old.now c.args.new.now n (map now c.loop-i.old_left.items)
    (map now c.loop-i.new_left.items)
    (map now c.push_borrows.new.borrows.items) (map now c.push_borrows-2.new.borrows.items)
    (c.in_ok-push_borrows.ensures
    ∙ ap (λ zs. map now c.loop-i.old_left.items ++ zs) (rest_all n c.args.old.now))
    (c.in_ok-push_borrows-2.ensures
    ∙ ap (λ zs. map now c.loop-i.new_left.items ++ zs) (rest_all n c.args.new.now)) far)
