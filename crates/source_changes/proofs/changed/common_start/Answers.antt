use Rattle.std.proofs.Common.{◌≡◌, ◌<◌, ◌+◌, ℕ, suc, true, length, take, subst, rules, arith}
use Rattle.std.specs.List.{AllZip}
use Rattle.source_changes.proofs.Found.{zip_more}
use Rattle.source_changes.proofs.changed.common_start.Goals as goal

pub loop-i-preserved : goal.loop-i-preserved
loop-i-preserved g c =
    let same : g.S.Compared.same c.index-old-i.result c.index-new-i.result ≡ true =
    first_of (cc, search rules, grind arith) in
    let in_old : c.loop-i.i < length c.args.old.now = omega arith in
    let in_new : c.loop-i.i < length c.args.new.now = omega arith in
    let next : suc c.loop-i.i ≡ c.loop-i.i + 1 = omega arith in
    subst (λ (n : ℕ). AllZip (λ x y. g.S.Compared.same x y ≡ true) (take n c.args.old.now)
    (take n c.args.new.now)) next
    (zip_more (λ x y. g.S.Compared.same x y ≡ true) c.args.old.now c.args.new.now c.loop-i.i
    c.index-old-i.result c.index-new-i.result in_old in_new c.index-old-i.is c.index-new-i.is same
    c.loop-i.invariant)
