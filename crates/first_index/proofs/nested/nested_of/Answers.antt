use Rattle.std.proofs.Common.{◌≡◌, ◌∙◌, ◌+◌, ◌<◌, ◌++◌, ◌∷◌, [], ℕ, List, Bor, Ordering, ap, arith}
use Rattle.std.proofs.Common.{length, refl, subst, sym, take}
use Rattle.std.specs.List.{All}
use Rattle.std.proofs.lemmas.List.{take_all, take_more}
use Rattle.std.proofs.lemmas.List.Elements.{All-more}
use Rattle.geo_addr.specs.Ranges.{Ends}
use Rattle.first_index.specs.Nested.{AreBoundariesOf, ArePassed}
use Rattle.first_index.specs.declared.boundaries.Boundary.{Boundary}
use Rattle.first_index.proofs.NestedLemmas.{all_passed}
use Rattle.first_index.proofs.nested.nested_of.Goals as goal

pub loop-statement-preserved : goal.loop-statement-preserved
loop-statement-preserved g c =
    let X = g.row.S.Denot in
    let order : Bor X → Bor X → Ordering = λ x y. g.S.Statement.order x.now y.now in
    let range : Bor X → Ends = λ x. g.S.Statement.range x.now in
    let xs : List (ℕ × Bor X) = c.args.indexed.now in
    let i : ℕ = c.loop-statement.statement-index in
    let x : ℕ × Bor X = c.statement-item.result in
    let within : i < length xs = omega arith in
    let more : take (i + 1) xs ≡ take i xs ++ x ∷ [] =
    take_more xs i x within
    ∙ ap (λ (y : ℕ × Bor X). take i xs ++ y ∷ []) (sym c.statement-item.is) in
    let step = rw c.in-Some.is at c.in_ok-first.ensures.passed in
    let kept = rw c.in-Some.is at c.in_ok-first.ensures.kept in
    record {
      passed =
          subst (λ (cs : List (ℕ × Bor X)). ArePassed order range cs c.in-Some.first
          c.pass.new.index c.pass.new.opened.items) (sym more)
          (step (take i xs) c.loop-statement.invariant.passed);
      kept =
          All-more (λ (y : ℕ × Bor X). g.S.Statement.kept y.1.now) xs i x within
          c.loop-statement.invariant.kept
          (subst (λ (y : ℕ × Bor X). g.S.Statement.kept y.1.now) c.statement-item.is kept);
    }

pub returns-clause-found : goal.returns-clause-found
returns-clause-found g c =
    let X = g.row.S.Denot in
    let order : Bor X → Bor X → Ordering = λ x y. g.S.Statement.order x.now y.now in
    let range : Bor X → Ends = λ x. g.S.Statement.range x.now in
    let xs : List (ℕ × Bor X) = c.args.indexed.now in
    let i : ℕ = c.loop-statement.statement-index in
    let passed = c.loop-statement.invariant.passed in
    let done = c.in_ok-close.ensures (take i xs) c.loop-statement.low passed.bound (omega arith)
    passed in
    subst (λ (bs : List Boundary). AreBoundariesOf order range xs bs) (sym c.fit.ensures)
    (subst (λ (cs : List (ℕ × Bor X)). AreBoundariesOf order range cs c.close.new.index)
    (take_all i xs c.loop-statement-test.false)
    (all_passed order range (take i xs) c.loop-statement.low c.close.new.index
    c.close.new.opened.items done.0 done.1))

-- before the first statement
none_passed : {X : Type 0} (order : X → X → Ordering) (range : X → Ends) (bs : List Boundary)
    (os : List (ℕ × (ℕ × X))) → bs ≡ [] → os ≡ [] → ArePassed order range [] 0 bs os
none_passed order range bs os no_bs no_os =
    rw (no_bs, no_os) (record {
      bound = omega arith;
      climb = omega arith;
      nest = tt;
      reach = tt;
      past = λ a lt. absurd (omega arith);
      now = λ a le lt. refl;
      here = λ a le lt. refl;
      stand = λ c. refl;
    })

pub loop-statement-init : goal.loop-statement-init
loop-statement-init g c =
    let X = g.row.S.Denot in
    record {
      passed =
          none_passed (λ (x y : Bor X). g.S.Statement.order x.now y.now)
          (λ (x : Bor X). g.S.Statement.range x.now) c.in_ok-index.index
          c.new-opened.result.items c.in_ok-index.ensures c.new-opened.ensures.items;
      kept = λ k d lt. absurd (omega arith);
    }

pub returns-clause-kept : goal.returns-clause-kept
returns-clause-kept g c =
    subst (λ (xs : List (ℕ × Bor g.row.S.Denot)). All (λ x. g.S.Statement.kept x.1.now) xs)
    (take_all c.loop-statement.statement-index c.args.indexed.now c.loop-statement-test.false)
    c.loop-statement.invariant.kept
