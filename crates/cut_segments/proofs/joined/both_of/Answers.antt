use Rattle.std.proofs.Common.{◌≡◌, ◌∙◌, ◌-◌, ◌≤◌, ap, arith, max, sym}
use Rattle.geo_addr.specs.Ranges.{Ends, ground_first, holds, is_v4}
use Rattle.cut_segments.proofs.JoinedLemmas.{joined_first, joined_holds, same_if}
use Rattle.cut_segments.proofs.joined.both_of.Goals as goal

pub returns-clause-held : goal.returns-clause-held
returns-clause-held c a =
    let first : c.growing.inside.first ≡ c.args.growing.first =
    ap (λ (r : Ends). r.first) c.growing.view_is in
    let growing : c.growing.inside.last ≡ c.args.growing.last =
    ap (λ (r : Ends). r.last) c.growing.view_is in
    let next : c.next.inside.last ≡ c.args.next.last = ap (λ (r : Ends). r.last) c.next.view_is in
    let last : c.max.result ≡ max c.args.growing.last c.args.next.last =
    c.max.ensures ∙ ap (λ l. max l c.next.inside.last) growing
    ∙ ap (λ l. max c.args.growing.last l) next in
    let family : is_v4 c.args.growing ≡ is_v4 c.args.next =
    sym c.is_v4.ensures ∙ same_if c.is_v4.result c.is_v4-2.result c.if-is_v4.false
    ∙ c.is_v4-2.ensures in
    let le : ground_first c.args.growing ≤ ground_first c.args.next =
    omega (
      arith,
      c.if-begins-ground_first.false,
      c.ground_first.ensures,
      c.ground_first-begins.ensures,
    ) in
    let near : ground_first c.args.next - 1 ≤ c.args.growing.last =
    omega (
      arith,
      c.if-saturating_sub-growing.false,
      c.saturating_sub.ensures,
      c.ground_first-begins.ensures,
      growing,
    ) in
    ap (λ f. holds (record { first = f; last = c.max.result }) a) first
    ∙ ap (λ l. holds (record { first = c.args.growing.first; last = l }) a) last
    ∙ joined_holds c.args.growing c.args.next family le near a

pub returns-clause-begun : goal.returns-clause-begun
returns-clause-begun c =
    let first : c.growing.inside.first ≡ c.args.growing.first =
    ap (λ (r : Ends). r.first) c.growing.view_is in
    let growing : c.growing.inside.last ≡ c.args.growing.last =
    ap (λ (r : Ends). r.last) c.growing.view_is in
    let next : c.next.inside.last ≡ c.args.next.last = ap (λ (r : Ends). r.last) c.next.view_is in
    let last : c.max.result ≡ max c.args.growing.last c.args.next.last =
    c.max.ensures ∙ ap (λ l. max l c.next.inside.last) growing
    ∙ ap (λ l. max c.args.growing.last l) next in
    let family : is_v4 c.args.growing ≡ is_v4 c.args.next =
    sym c.is_v4.ensures ∙ same_if c.is_v4.result c.is_v4-2.result c.if-is_v4.false
    ∙ c.is_v4-2.ensures in
    ap (λ f. ground_first (record { first = f; last = c.max.result })) first
    ∙ ap (λ l. ground_first (record { first = c.args.growing.first; last = l })) last
    ∙ joined_first c.args.growing c.args.next family
