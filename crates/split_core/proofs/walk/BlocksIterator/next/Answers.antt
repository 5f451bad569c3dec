use Rattle.std.proofs.Common.{◌≡◌, ◌<◌, List, ◌∷◌, ℕ, ◌+◌, ◌-◌, ◌^◌, ◌≤◌, ◌∙◌, length, subst, ap}
use Rattle.std.proofs.Common.{sym, arith}
use Rattle.std.specs.Prelude.{Option, Some}
use Rattle.geo_addr.specs.Ranges.{Ends, Prefix, IsRange}
use Rattle.split_core.specs.Walk.{blocks_left}
use Rattle.split_core.proofs.LeastList.{some_left, none_left}
use Rattle.split_core.proofs.walk.BlocksIterator.next.Goals as goal
use Rattle.split_core.proofs.walk.BlocksIterator.next.Goals.{then-end-range, else-end-range}

-- one block fewer is left
fewer : (old new : List Prefix) (b : Prefix) → old ≡ b ∷ new → length new < length old
fewer old new b is = omega (arith, ap length is)

pub returns-clause-steps : goal.returns-clause-steps
returns-clause-steps c =
    let r = c.in_ok-range.range in
    let b = c.largest_of-block.result in
    let end = c.end.inside.last in
    let now = sym c.self.view_is ∙ ap blocks_left c.in_ok-range.was in
    let is : IsRange r = subst IsRange c.range.view_is c.range.invariant in
    let ends : end ≡ b.first + (2 ^ (128 - b.len) - 1) =
    ap (λ (r : Ends). r.last) (c.end.view_is ∙ c.range_of.ensures) in
    let last_is = ap (λ (r : Ends). r.last) c.range.view_is in
    elim c.if-end-range.branch [
      | then-end-range w ↦
          let left : c.if-end-range.self ≡ Some (record { first = end + 1; last = r.last }) =
          w.self-is ∙ ap (λ (n : ℕ). let e : Ends = record {
            first = end + 1;
            last = n;
          } in let o : Option Ends = Some e in o) last_is in
          now ∙ some_left r b end c.if-end-range.self is c.largest_of-block.ensures ends left
      | else-end-range w ↦
          let past_last : r.last ≤ end = omega (arith, w.if-end-range.false) in
          now ∙ none_left r b end c.if-end-range.self is c.largest_of-block.ensures ends
          past_last w.self-is
    ]

pub returns-clause-goes : goal.returns-clause-goes
returns-clause-goes c =
    record {
      on = λ finite. (tt, tt, fewer _ _ _ (returns-clause-steps c));
      keeps = tt;
      rests = λ finite. tt;
    }
