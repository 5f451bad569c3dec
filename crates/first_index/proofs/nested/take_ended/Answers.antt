use Rattle.std.proofs.Common.{◌≡◌, ◌∙◌, ◌+◌, ◌-◌, ◌^◌, ◌<◌, ◌≤◌, ◌++◌, ◌∷◌, [], ltb, true, false}
use Rattle.std.proofs.Common.{length, slice_get, take, Some, ap, refl, arith, rules, sym, ℕ}
use Rattle.std.specs.Option.{unwrap_or}
use Rattle.std.proofs.lemmas.Bool.Decides.{nat_tests}
use Rattle.first_index.proofs.NestedLemmas.{all_reach, last_is, snoc_length}
use Rattle.first_index.proofs.nested.take_ended.Goals as goal

pub returns-then-not-is_before-clause-stays : goal.returns-then-not-is_before-clause-stays
returns-then-not-is_before-clause-stays g c =
    let t = c.in_ok-last.field-0.now in
    let n : ℕ = unwrap_or c.args.next (2 ^ 128) in
    let e : ltb t.0 n ≡ false = search rules in
    let le : n + 1 ≤ t.0 + 1 = grind (arith, nat_tests) in
    let at : slice_get c.args.opened.now.items (length c.args.opened.now.items - 1) ≡ Some t =
    rw c.deref.ensures.value at (sym c.in_ok-last.ensures.value) in
    (refl, λ nest. all_reach (2 ^ 128 - 1) (n + 1) c.args.opened.now.items t at le nest)

pub returns : goal.returns
returns g c =
    let t = c.in_ok-last.field-0.now in
    let os = c.args.opened.now.items in
    let n : ℕ = unwrap_or c.args.next (2 ^ 128) in
    let e : ltb t.0 n ≡ true = search rules in
    let below : t.0 < n = grind (arith, nat_tests) in
    let size : c.args.opened.now.len - 1 ≡ length os - 1 = omega arith in
    let rest : c.pop-ended.new.self.items ≡ take (length os - 1) os =
    rw size at c.pop-ended.ensures.rest in
    let at : slice_get os (length os - 1) ≡ Some t =
    rw c.deref.ensures.value at (sym c.in_ok-last.ensures.value) in
    let is : os ≡ c.pop-ended.new.self.items ++ t ∷ [] =
    last_is os t at ∙ ap (λ ys. ys ++ t ∷ []) (sym rest) in
    let long : length os ≡ length c.pop-ended.new.self.items + 1 =
    ap length is ∙ snoc_length c.pop-ended.new.self.items t in
    record { stays = (below, t.1, is); fewer = omega arith }
