use Rattle.std.proofs.Common.{List, [], ℕ, subst, sym}
use Rattle.std.proofs.lemmas.Result.{IfOk-weaker}
use Rattle.geo_addr.specs.Ranges.{Ends}
use Rattle.geo_terms.specs.Cuts.{statement_ranges}
use Rattle.cut_segments.proofs.CutLemmas.{none_gathered}
use Rattle.cut_segments.specs.CutPoints.{AreCutsInside}
use Rattle.precedence.proofs.RunLemmas.{one_bound}
use Rattle.precedence.proofs.sources.Sources.points_in.Goals as goal

pub returns-clause-exact : goal.returns-clause-exact
returns-clause-exact c =
    let bounds : List Ends = c.args.bounds.now in
    let ranges : List Ends = statement_ranges c.args.self.now in
    let points : List ℕ = c.push_points.new.points.items in
    let inside : AreCutsInside ranges bounds points =
    c.in_ok-push_points.ensures (subst (λ (xs : List ℕ). AreCutsInside [] bounds xs)
    (sym c.new-points.ensures.items) (none_gathered bounds)) in
    IfOk-weaker c.in_order-2.result (λ sorted. (rs bs : List Ends)
    → AreCutsInside rs bs points → AreCutsInside rs bs sorted.items)
    (λ sorted. AreCutsInside ranges bounds sorted.items)
    (λ sorted same. same ranges bounds inside) c.in_order-2.ensures.same

pub returns-then-bounds-eq1-clause-exact : goal.returns-then-bounds-eq1-clause-exact
returns-then-bounds-eq1-clause-exact c =
    let bounds : List Ends = c.args.bounds.now in
    let ranges : List Ends = statement_ranges c.args.self.now in
    let points : List ℕ = c.in_ok-points.points.items in
    let inside : AreCutsInside ranges bounds points =
    subst (λ (bs : List Ends). AreCutsInside ranges bs points)
    (one_bound bounds c.index-bounds-0.result c.if-bounds-eq1.true c.index-bounds-0.is)
    c.in_ok-points.ensures in
    IfOk-weaker c.in_order.result (λ sorted. (rs bs : List Ends)
    → AreCutsInside rs bs points → AreCutsInside rs bs sorted.items)
    (λ sorted. AreCutsInside ranges bounds sorted.items)
    (λ sorted same. same ranges bounds inside) c.in_order.ensures.same
