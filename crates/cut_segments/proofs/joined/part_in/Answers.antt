-- Where a part begins and ends.
use Rattle.std.proofs.Common.{◌≡◌, ◌∙◌, ◌||◌, ◌<◌, ap, arith, false, max, min}
use Rattle.geo_addr.specs.Ranges.{Ends, ground_first, holds}
use Rattle.cut_segments.proofs.JoinedLemmas.{part_first, part_holds, part_none}
use Rattle.cut_segments.proofs.joined.part_in.Goals as goal

pub returns-then-first-last-clause-held : goal.returns-then-first-last-clause-held
unfolding holds
returns-then-first-last-clause-held c a =
    let g = c.args.ground in
    let chunk = c.args.chunk in
    let low : c.chunk.inside.first ≡ chunk.first = ap (λ (r : Ends). r.first) c.chunk.view_is in
    let high : c.chunk.inside.last ≡ chunk.last = ap (λ (r : Ends). r.last) c.chunk.view_is in
    let end : c.ground.inside.last ≡ g.last = ap (λ (r : Ends). r.last) c.ground.view_is in
    let apart : min g.last chunk.last < max (ground_first g) chunk.first =
    omega (
      arith,
      c.if-first-last.true,
      c.max-first.ensures,
      c.min-last.ensures,
      c.ground_first.ensures,
      low,
      high,
      end,
    ) in
    part_none (ground_first g) g.last chunk.first chunk.last a apart

pub returns-clause-held : goal.returns-clause-held
returns-clause-held c a =
    let g = c.args.ground in
    let chunk = c.args.chunk in
    let low : c.chunk.inside.first ≡ chunk.first = ap (λ (r : Ends). r.first) c.chunk.view_is in
    let high : c.chunk.inside.last ≡ chunk.last = ap (λ (r : Ends). r.last) c.chunk.view_is in
    let end : c.ground.inside.last ≡ g.last = ap (λ (r : Ends). r.last) c.ground.view_is in
    let first : c.max-first.result ≡ max (ground_first g) chunk.first =
    omega (arith, c.max-first.ensures, c.ground_first.ensures, low) in
    let last : c.min-last.result ≡ min g.last chunk.last =
    omega (arith, c.min-last.ensures, high, end) in
    ap (λ f. holds (record { first = f; last = c.min-last.result }) a || false) first
    ∙ ap (λ l. holds (record { first = max (ground_first g) chunk.first; last = l }) a || false)
    last
    ∙ part_holds g chunk a (omega (arith, c.if-first-last.false, first, last))

pub returns-clause-begun : goal.returns-clause-begun
returns-clause-begun c =
    let g = c.args.ground in
    let chunk = c.args.chunk in
    let low : c.chunk.inside.first ≡ chunk.first = ap (λ (r : Ends). r.first) c.chunk.view_is in
    let high : c.chunk.inside.last ≡ chunk.last = ap (λ (r : Ends). r.last) c.chunk.view_is in
    let end : c.ground.inside.last ≡ g.last = ap (λ (r : Ends). r.last) c.ground.view_is in
    let first : c.max-first.result ≡ max (ground_first g) chunk.first =
    omega (arith, c.max-first.ensures, c.ground_first.ensures, low) in
    let last : c.min-last.result ≡ min g.last chunk.last =
    omega (arith, c.min-last.ensures, high, end) in
    ap (λ f. ground_first (record { first = f; last = c.min-last.result })) first
    ∙ ap (λ l. ground_first (record { first = max (ground_first g) chunk.first; last = l })) last
    ∙ part_first g chunk (omega (arith, c.if-first-last.false, first, last))
