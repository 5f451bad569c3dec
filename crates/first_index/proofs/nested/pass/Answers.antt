use Rattle.std.proofs.Common.{◌≡◌, ◌∙◌, ◌+◌, ◌-◌, ◌^◌, ◌≤◌, ◌++◌, ◌∷◌, [], ℕ, List, Bor}
use Rattle.std.proofs.Common.{None, Option, Ordering, Some, ap, arith, rules, subst, sym}
use Rattle.std.specs.Ordering.{is_lt}
use Rattle.geo_addr.specs.Ranges.{Ends, IsRange, ground_first}
use Rattle.geo_terms.specs.First.{better}
use Rattle.first_index.specs.FirstIndex.{index_cmp}
use Rattle.first_index.specs.Nested.{ArePassed, IsPut, Nest, Reach, top}
use Rattle.first_index.specs.declared.boundaries.Boundary.{Boundary}
use Rattle.first_index.proofs.NestedLemmas.{opened}
use Rattle.first_index.proofs.nested.pass.Goals as goal

pub returns-clause-passed : goal.returns-clause-passed
returns-clause-passed g c cs h =
    let X = g.row.S.Denot in
    let order : Bor X → Bor X → Ordering = λ x y. g.S.Statement.order x.now y.now in
    let range : Bor X → Ends = λ x. g.S.Statement.range x.now in
    let x : ℕ × Bor X = c.args.statement in
    let b : ℕ × Bor X = c.better-best.result in
    let r : Ends = c.range-range.result in
    let is : r ≡ range x.1 = c.range-range.ensures.range in
    let first : ℕ = c.ground_first-first.result in
    let first_is : first ≡ ground_first r = c.ground_first-first.ensures in
    let begins : first ≡ ground_first (range x.1) = first_is ∙ ap ground_first is in
    let bs : List Boundary = c.close.new.index in
    let os : List (ℕ × (ℕ × Bor X)) = c.close.new.opened.items in
    let new : List Boundary = c.put.new.self in
    let le : c.args.low ≤ first = omega arith in
    let closed = c.in_ok-close.ensures cs c.args.low le (omega arith) h in
    let ends : c.range.inside.last ≡ r.last = ap (λ (e : Ends). e.last) c.range.view_is in
    let far : Reach (r.last + 1) os =
    subst (λ (n : ℕ). Reach (n + 1) os) ends
    (subst (λ (ys : List (ℕ × (ℕ × Bor X))). Reach (c.range.inside.last + 1) ys)
    c.as_slice.ensures.value (c.lies_within.ensures (search rules)
    (subst (λ (ys : List (ℕ × (ℕ × Bor X))). Nest (2 ^ 128 - 1) ys) (sym c.as_slice.ensures.value)
    closed.0.nest))) in
    let least : Some b ≡ better (λ v w. is_lt (index_cmp order v w)) (top None os) x =
    c.better-best.ensures ∙ ap (λ (o : Option (ℕ × Bor X)). better
    (λ v w. is_lt (index_cmp order v w)) o x)
    (c.innermost.ensures ∙ ap (top None) c.as_slice-2.ensures.value) in
    let own : IsRange r = search rules in
    let done = opened order range cs c.args.low bs os x (subst IsRange is own)
    (subst (λ (n : ℕ). ArePassed order range cs n bs os) begins closed.0)
    (subst (λ (e : Ends). Reach (e.last + 1) os) is far) b least new
    (subst (λ (n : ℕ). IsPut n (Some b.0) bs new) begins c.in_ok-put.ensures) in
    let here : ArePassed order range (cs ++ x ∷ []) (ground_first r) new (os ++ (r.last, b) ∷ []) =
    subst (λ (e : Ends). ArePassed order range (cs ++ x ∷ []) (ground_first e) new
    (os ++ (e.last, b) ∷ [])) (sym is) done in
    let there : ArePassed order range (cs ++ x ∷ []) first new (os ++ (r.last, b) ∷ []) =
    subst (λ (n : ℕ). ArePassed order range (cs ++ x ∷ []) n new (os ++ (r.last, b) ∷ []))
    (sym first_is) here in
    subst (λ (ys : List (ℕ × (ℕ × Bor X))). ArePassed order range (cs ++ x ∷ []) first new ys)
    (sym c.in_ok-push.ensures.items)
    (subst (λ (n : ℕ). ArePassed order range (cs ++ x ∷ []) first new (os ++ (n, b) ∷ []))
    (sym ends) there)
