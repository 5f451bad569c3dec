use Rattle.std.proofs.Common.{◌≡◌, ◌++◌, ◌∷◌, [], ◌∙◌, true, false, cond, get_or, take}
use Rattle.std.proofs.Common.{sym, ap, append-nil}
use Rattle.std.proofs.lemmas.List.Elements.{filter_more}
use Rattle.publish_least.specs.Price.{has, shared}
use Rattle.publish_least.proofs.set.common.Goals as goal
use Rattle.publish_least.proofs.set.common.Goals.{then-is_in+in_ok-push, else-is_in}

pub loop-at-preserved : goal.loop-at-preserved
loop-at-preserved c =
    let few = c.args.few.now in
    let many = c.args.many.now in
    let i = c.loop-at.at-index in
    let x = get_or few i 0 in
    let more = filter_more (has many) few i 0 c.loop-at-test.true in
    elim c.if-is_in.branch [
      | then-is_in+in_ok-push w ↦
          let is : has many x ≡ true = sym c.is_in.ensures ∙ w.if-is_in.true in
          (λ k. (w.both-is k).items) ∙ w.in_ok-push.ensures.items
          ∙ ap (λ zs. zs ++ x ∷ []) c.loop-at.invariant
          ∙ sym (more ∙ ap (λ b. shared (take i few) many ++ cond b (x ∷ []) []) is)
      | else-is_in w ↦
          let is : has many x ≡ false = sym c.is_in.ensures ∙ w.if-is_in.false in
          (λ k. (w.both-is k).items) ∙ c.loop-at.invariant
          ∙ sym (more ∙ ap (λ b. shared (take i few) many ++ cond b (x ∷ []) []) is
          ∙ append-nil (shared (take i few) many))
    ]
