-- One piece more, and the last one.
use Rattle.std.proofs.Common.{◌≡◌, ℕ, ◌+◌, ◌<◌, ◌≤◌, ◌⊎◌, ◌++◌, ◌∷◌, [], List, Contains, get_or}
use Rattle.std.proofs.Common.{ap, arith, inl, inr, refl, rules, subst, sym}
use Rattle.std.specs.List.{All}
use Rattle.std.proofs.lemmas.List.Elements.{All-contains_itself, All-get_or, All-push}
use Rattle.geo_addr.specs.Ranges.{Ends}
use Rattle.precedence.specs.Chunks.{Tiles}
use Rattle.precedence.proofs.ChunkLemmas.{Tiles-push}
use Rattle.precedence.proofs.PieceLemmas.{above_last, found_at, passed_more, pieces_more}
use Rattle.precedence.proofs.chunks.pieces_at.Goals as goal

pub loop-point-init : goal.loop-point-init
loop-point-init c =
    let from : c.chunk.inside.first ≡ c.args.chunk.first =
    ap (λ (r : Ends). r.first) c.chunk.view_is in
    let end : c.chunk.inside.last ≡ c.args.chunk.last =
    ap (λ (r : Ends). r.last) c.chunk.view_is in
    let up = c.chunk.invariant.ordered in
    record {
      tiles = rw c.in_ok-pieces.ensures.items (sym from);
      begun = rw c.in_ok-pieces.ensures.items (search rules);
      uncut = λ p has. rw c.in_ok-pieces.ensures.items (search rules);
      start = inl from;
      low = omega (arith, from);
      high = omega (arith, up, end);
      passed = λ k d lt. absurd (omega (arith, lt));
      ahead = λ k d le below. let in_chunk = c.requires.within k d below in
          omega (arith, from, in_chunk.0);
    }

pub cut_before-requires : goal.cut_before-requires
cut_before-requires c =
    c.loop-point.invariant.ahead c.loop-point.point-index 0 (omega arith) c.loop-point-test.true

pub loop-point-preserved : goal.loop-point-preserved
loop-point-preserved c =
    let inv = c.loop-point.invariant in
    let points = c.args.points.now in
    let i = c.loop-point.point-index in
    let there = c.loop-point-test.true in
    let point = get_or points i 0 in
    let is : c.in_ok-first.first ≡ point = c.in_ok-first.ensures.next in
    let le = inv.ahead i 0 (omega arith) there in
    let has : Contains points point =
    All-get_or (Contains points) points i 0 there (All-contains_itself points) in
    let within = c.requires.within i 0 there in
    let added = c.in_ok-first.ensures.added in
    record {
      tiles = subst (Tiles c.args.chunk.first c.cut_before.new.pieces.items) (sym is)
          (c.in_ok-first.ensures.tiles c.args.chunk.first inv.tiles);
      begun = pieces_more
          (λ (r : Ends). (r.first ≡ c.args.chunk.first) ⊎ Contains points r.first)
          c.loop-point.pieces.items c.cut_before.new.pieces.items c.loop-point.first point
          inv.begun (λ r begins ends. subst
          (λ (n : ℕ). (n ≡ c.args.chunk.first) ⊎ Contains points n) (sym begins) inv.start)
          added;
      uncut = λ p has. pieces_more (λ (r : Ends). r.first < p → r.last < p)
          c.loop-point.pieces.items c.cut_before.new.pieces.items c.loop-point.first point
          (inv.uncut p has) (λ r begins ends above.
          let upto = above_last points i c.loop-point.first point p c.requires.ascending
          inv.passed (λ d. found_at points i d 0 there) has (omega (arith, begins, above)) in
          omega (arith, upto, ends))
          added;
      start = inr (subst (Contains points) (sym is) has);
      low = omega (arith, inv.low, le, is);
      high = omega (arith, is, within.1);
      passed = λ k d lt below. let upto = passed_more points i c.loop-point.first point le
          (λ e lies. found_at points i e 0 lies) inv.passed k d lt below in
          omega (arith, upto, is);
      ahead = λ k d above below.
          let up = c.requires.ascending i k d (omega (arith, above)) below in
          let same = found_at points i d 0 there in omega (arith, up, same, is);
    }

pub invariant_of-push : goal.invariant_of-push
invariant_of-push c =
    let end : c.chunk.inside.last ≡ c.args.chunk.last =
    ap (λ (r : Ends). r.last) c.chunk.view_is in
    record {
      ordered = omega (arith, c.loop-point.invariant.high, end);
      within = c.chunk.invariant.within;
    }

pub returns-clause-tiles : goal.returns-clause-tiles
returns-clause-tiles c =
    let end : c.chunk.inside.last ≡ c.args.chunk.last =
    ap (λ (r : Ends). r.last) c.chunk.view_is in
    let last : Ends = record { first = c.loop-point.first; last = c.chunk.inside.last } in
    subst (λ (rs : List Ends). Tiles c.args.chunk.first rs (c.args.chunk.last + 1))
    (sym c.in_ok-push.ensures.items)
    (subst (λ (n : ℕ). Tiles c.args.chunk.first
    (c.loop-point.pieces.items ++ last ∷ []) (n + 1)) end
    (Tiles-push c.args.chunk.first c.loop-point.first c.loop-point.pieces.items last
    c.loop-point.invariant.tiles refl (omega (arith, c.loop-point.invariant.high, end))))

pub returns-clause-begun : goal.returns-clause-begun
returns-clause-begun c =
    let last : Ends = record { first = c.loop-point.first; last = c.chunk.inside.last } in
    subst (All (λ (r : Ends). (r.first ≡ c.args.chunk.first) ⊎ Contains c.args.points.now r.first))
    (sym c.in_ok-push.ensures.items)
    (All-push (λ (r : Ends). (r.first ≡ c.args.chunk.first) ⊎ Contains c.args.points.now r.first)
    c.loop-point.pieces.items last c.loop-point.invariant.begun c.loop-point.invariant.start)

pub returns-clause-uncut : goal.returns-clause-uncut
returns-clause-uncut c p has =
    let points = c.args.points.now in
    let last : Ends = record { first = c.loop-point.first; last = c.chunk.inside.last } in
    let passed : p ≤ c.loop-point.first = (let upto = c.loop-point.invariant.passed has.0 p
    (omega (arith, has.1, c.loop-point-test.false)) has.1 in omega (arith, upto, has.2)) in
    subst (All (λ (r : Ends). r.first < p → r.last < p)) (sym c.in_ok-push.ensures.items)
    (All-push (λ (r : Ends). r.first < p → r.last < p) c.loop-point.pieces.items last
    (c.loop-point.invariant.uncut p has) (λ above. absurd (omega (arith, above, passed))))
