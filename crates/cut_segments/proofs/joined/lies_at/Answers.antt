use Rattle.std.proofs.Common.{◌≡◌, ◌≤◌, ◌<◌, length, ap, arith, subst}
use Rattle.geo_addr.specs.Ranges.{Ends, ground_first}
use Rattle.cut_segments.proofs.JoinedLemmas.{le_from_test, touched_by_one}
use Rattle.cut_segments.proofs.joined.lies_at.Goals as goal

pub returns-then-ground_first : goal.returns-then-ground_first
returns-then-ground_first c test a e =
    let below : c.args.at < length c.args.kept.now = omega arith in
    let ground : c.ground.inside.last ≡ c.args.ground.last =
    ap (λ (r : Ends). r.last) c.ground.view_is in
    let range : c.range.inside.last ≡ c.index-kept-at.result.last =
    ap (λ (r : Ends). r.last) c.range.view_is in
    let first : ground_first c.index-kept-at.result ≤ ground_first c.args.ground =
    omega (
      arith,
      c.if-ground_first.true,
      c.ground_first.ensures,
      c.ground_first-2.ensures,
    ) in
    let last : c.args.ground.last ≤ c.index-kept-at.result.last =
    omega (arith, le_from_test c.ground.inside.last c.range.inside.last test, ground, range) in
    touched_by_one c.args.kept.now c.args.at c.index-kept-at.result c.args.ground below
    (subst (λ (r : Ends). ground_first r ≤ ground_first c.args.ground) c.index-kept-at.is first)
    (subst (λ (r : Ends). c.args.ground.last ≤ r.last) c.index-kept-at.is last)
    a e
