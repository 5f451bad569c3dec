use Rattle.std.proofs.Common.{◌≡◌, ◌∙◌, ◌+◌, ◌^◌, ◌++◌, ◌∷◌, [], ℕ, List, Bor}
use Rattle.std.proofs.Common.{None, Option, Ordering, ap, arith, subst, sym}
use Rattle.std.specs.Option.{option_map, unwrap_or}
use Rattle.geo_addr.specs.Ranges.{Ends}
use Rattle.first_index.specs.Nested.{ArePassed, IsPut, Reach, top}
use Rattle.first_index.specs.declared.boundaries.Boundary.{Boundary}
use Rattle.first_index.proofs.NestedLemmas.{closed, passed_on, reach_weaker}
use Rattle.first_index.proofs.nested.close.Goals as goal

pub loop-last-preserved : goal.loop-last-preserved
loop-last-preserved g c cs low le h =
    let X = g.row.S.Denot in
    let order : Bor X → Bor X → Ordering = λ x y. g.S.Statement.order x.now y.now in
    let range : Bor X → Ends = λ x. g.S.Statement.range x.now in
    let bs : List Boundary = c.loop-last.index in
    let os : List (ℕ × (ℕ × Bor X)) = c.take_ended.new.opened.items in
    let last : ℕ = c.in-Some.last in
    let before = c.loop-last.invariant cs low le h in
    let took = c.in-Some.ensures.stays in
    let at : ArePassed order range cs before.0 bs (os ++ (last, took.1) ∷ []) =
    subst (λ (ys : List (ℕ × (ℕ × Bor X))). ArePassed order range cs before.0 bs ys) took.2
    before.2 in
    let inner : c.innermost.result ≡ top None os =
    c.innermost.ensures ∙ ap (top None) c.as_slice.ensures.value in (
      last + 1,
      omega (arith, took.0),
      closed order range cs before.0 bs os last took.1 at c.put_end.new.index
          (λ below. subst (λ (o : Option (ℕ × Bor X)). IsPut (last + 1)
          (option_map (λ (x : ℕ × Bor X). x.0) o) bs c.put_end.new.index) inner
          (c.in_ok-put_end.ensures.put below))
          c.in_ok-put_end.ensures.none,
    )

pub returns : goal.returns
returns g c cs low le within h =
    let X = g.row.S.Denot in
    let order : Bor X → Bor X → Ordering = λ x y. g.S.Statement.order x.now y.now in
    let range : Bor X → Ends = λ x. g.S.Statement.range x.now in
    let bs : List Boundary = c.loop-last.index in
    let os : List (ℕ × (ℕ × Bor X)) = c.loop-last.opened.items in
    let to : ℕ = unwrap_or c.args.next (2 ^ 128) in
    let before = c.loop-last.invariant cs low le h in
    let stays = c.in_default.ensures.stays in
    let far : Reach (to + 1) os = stays.1 before.2.nest in
    subst (λ (ys : List (ℕ × (ℕ × Bor X))). ArePassed order range cs to bs ys × Reach (to + 1) ys)
    (sym stays.0) (
      passed_on order range cs before.0 bs os to before.1 within
          (reach_weaker to (to + 1) os (omega arith) far) before.2,
      far,
    )
