-- Each beginning is that of a touched ground.
use Rattle.std.proofs.Common.{◌∷◌, ◌++◌, [], Contains, List, ℕ, map, sym, subst, rules}
use Rattle.std.specs.List.{All}
use Rattle.std.proofs.lemmas.List.Elements.{All-push}
use Rattle.std.proofs.lemmas.List.Sorted.{All-permutation}
use Rattle.geo_addr.specs.Ranges.{Ends, ground_first}
use Rattle.precedence.proofs.ChunkLemmas.{begin_is_there, taken_more}
use Rattle.precedence.proofs.chunks.begins_of.Goals as goal
use Rattle.precedence.proofs.chunks.begins_of.Goals.{then-skipped-eq0+in_ok-push, else-skipped-eq0}

pub loop-ground-init : goal.loop-ground-init
loop-ground-init c = record {
  taken = [];
  all = sym c.all-left.ensures;
  begins = rw c.new-begins.ensures.items (search rules);
}

pub loop-ground-preserved : goal.loop-ground-preserved
loop-ground-preserved c =
    let touched = c.args.touched.now in
    let starts : List ℕ = map (λ (r : Ends). ground_first r) touched in
    let inv = c.loop-ground.invariant in
    let g = c.in-Some.ground in
    let all = taken_more touched inv.taken c.loop-ground.left c.take.new.self g inv.all
    c.in-Some.ensures in
    record {
      taken = inv.taken ++ g ∷ [];
      all = all;
      begins =
          elim c.if-skipped-eq0.branch [
            | then-skipped-eq0+in_ok-push w ↦ rw w.begins-is
                (subst (All (Contains starts)) (sym w.in_ok-push.ensures.items)
                (All-push (Contains starts) c.loop-ground.begins.items w.ground_first.result
                inv.begins
                (subst (Contains starts) (sym w.ground_first.ensures)
                (begin_is_there touched inv.taken c.take.new.self g all))))
            | else-skipped-eq0 w ↦ rw w.begins-is inv.begins
          ];
    }

pub returns : goal.returns
returns c =
    All-permutation (Contains (map (λ (r : Ends). ground_first r) c.args.touched.now))
    c.loop-ground.begins.items _ c.sort_unstable.ensures.permutation c.loop-ground.invariant.begins
