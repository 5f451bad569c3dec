use Rattle.std.proofs.Common.{◌≡◌, ◌<◌, ◌≤◌, ◌+◌, arith, get_or, length, refl, sym, subst, min}
use Rattle.std.proofs.lemmas.Bool.Decides.{nat_tests}
use Rattle.std.proofs.lemmas.Option.{slice_get_read, slice_get-get_or}
use Rattle.first_index.specs.Links.{NoneReaches}
use Rattle.first_index.specs.declared.inetnums.links.Link.{Link}
use Rattle.first_index.proofs.CoverLemmas.{nearest_step}
use Rattle.first_index.proofs.inetnums.cover.nearest.Goals as goal

pub loop-index-preserved : goal.loop-index-preserved
loop-index-preserved c =
    let next : c.loop-index.left ≤ c.in-Some.index + 1 = grind (arith, nat_tests) in
    let left : c.loop-index.left ≤ c.args.end = c.loop-index.invariant.within in
    let before : c.in-Some.index < c.loop-index.left = grind (arith, nat_tests) in
    let most : c.args.end ≤ length c.args.refs.now = c.requires.within in
    let within : c.in-Some.index < length c.args.refs.now = omega arith in
    let linked : length c.args.links.now ≡ length c.args.refs.now = c.requires.linked in
    let in_links : c.in-Some.index < length c.args.links.now = omega arith in
    let l : Link = get_or c.args.links.now c.in-Some.index (record { reach = 0; outer = 0 }) in
    let lt : c.index-refs-index.result.range.last < c.args.last = omega arith in
    let m : c.min-left.result ≡ min l.outer c.in-Some.index = c.min-left.ensures in
    record {
      within = omega arith;
      none = subst (λ n. NoneReaches c.args.url.now c.args.family c.args.last c.args.refs.now n
          c.args.end) (sym m)
          (nearest_step c.args.url.now c.args.family c.args.last c.args.refs.now c.args.links.now
          c.index-refs-index.result l c.args.end c.loop-index.left c.in-Some.index
          c.requires.links c.loop-index.invariant.none next
          (slice_get_read c.args.refs.now
          (length c.args.refs.now) c.in-Some.index c.index-refs-index.result refl within
          c.index-refs-index.is) (slice_get-get_or c.args.links.now c.in-Some.index
          (record { reach = 0; outer = 0 }) in_links)
          (sym c.if-not-is_of.ensures) lt);
    }
