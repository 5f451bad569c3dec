use Rattle.std.proofs.Common.{◌↔◌, ◌∷◌, [], Contains, List, ℕ, sym, subst}
use Rattle.std.proofs.lemmas.Result.{IfOk-weaker}
use Rattle.geo_addr.specs.Ranges.{Ends}
use Rattle.geo_terms.specs.Cuts.{statement_ranges}
use Rattle.cut_segments.proofs.CutLemmas.{none_gathered}
use Rattle.cut_segments.specs.CutPoints.{AreCutsInside}
use Rattle.precedence.proofs.RunLemmas.{Run, same_cuts}
use Rattle.precedence.specs.Runs.{points_of}
use Rattle.precedence.proofs.sources.Sources.joined_in.Goals as goal

pub returns : goal.returns
returns c =
    let bounds : List Ends = c.args.range ∷ [] in
    let ranges : List Ends = statement_ranges c.args.self.now in
    let points : List ℕ = points_of c.push_runs.new.runs.items in
    let inside : AreCutsInside ranges bounds points =
    c.in_ok-push_runs.ensures (subst (λ (rs : List Run). AreCutsInside [] bounds (points_of rs))
    (sym c.new-runs.ensures.items) (none_gathered bounds)) in
    IfOk-weaker c.joined.result
    (λ joined. (at : ℕ) → Contains joined.items at ↔ Contains points at)
    (λ joined. AreCutsInside ranges bounds joined.items)
    (λ joined same. same_cuts ranges bounds points joined.items same inside) c.joined.ensures
