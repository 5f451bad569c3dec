use Rattle.std.proofs.Common.{◌≡◌, ◌<◌, ◌≤◌, ◌+◌, ◌&&◌, true, leb, arith, get_or, length, min, refl}
use Rattle.std.proofs.Common.{sym, subst}
use Rattle.std.proofs.lemmas.Bool.Decides.{nat_tests}
use Rattle.std.proofs.lemmas.Option.{slice_get_read, slice_get_within, slice_get-get_or}
use Rattle.first_index.specs.Links.{IsOuter}
use Rattle.first_index.specs.Shelf.{same_group}
use Rattle.first_index.specs.declared.inetnums.links.Link.{Link}
use Rattle.first_index.proofs.CoverLemmas.{outer_step}
use Rattle.first_index.proofs.ShelfLemmas.{and_left, and_right}
use Rattle.first_index.proofs.inetnums.links.outer_of.Goals as goal

pub loop-before-preserved : goal.loop-before-preserved
loop-before-preserved c =
    let next : c.loop-before.left ≤ c.in-Some.before + 1 = grind (arith, nat_tests) in
    let left : c.loop-before.left ≤ c.args.index = c.loop-before.invariant.within in
    let earlier : c.in-Some.before < c.loop-before.left = grind (arith, nat_tests) in
    let here : c.args.index < length c.args.refs.now =
    slice_get_within c.args.refs.now c.args.index c.args.reference.now c.requires.here in
    let within : c.in-Some.before < length c.args.refs.now = omega arith in
    let made : length c.args.links.now ≡ c.args.index = c.requires.made in
    let in_links : c.in-Some.before < length c.args.links.now = omega arith in
    let l : Link = get_or c.args.links.now c.in-Some.before (record { reach = 0; outer = 0 }) in
    let m : c.min-left.result ≡ min l.outer c.in-Some.before = c.min-left.ensures in
    let inner : (same_group c.index-refs-before.result c.args.reference.now
    && leb c.index-refs-before.result.range.last c.args.reference.now.range.last) ≡ true =
    sym c.if-not-is_inner.ensures in
    let le : leb c.index-refs-before.result.range.last c.args.reference.now.range.last ≡ true =
    and_right (same_group c.index-refs-before.result c.args.reference.now)
    (leb c.index-refs-before.result.range.last c.args.reference.now.range.last) inner in
    record {
      within = omega arith;
      outer = subst (λ n. IsOuter c.args.refs.now c.args.reference.now c.args.index n) (sym m)
          (outer_step c.args.refs.now c.args.links.now c.args.reference.now
          c.index-refs-before.result l c.args.index c.loop-before.left c.in-Some.before
          c.requires.links c.loop-before.invariant.outer next
          (slice_get_read c.args.refs.now
          (length c.args.refs.now) c.in-Some.before c.index-refs-before.result refl within
          c.index-refs-before.is) (slice_get-get_or c.args.links.now c.in-Some.before
          (record { reach = 0; outer = 0 }) in_links)
          (and_left (same_group c.index-refs-before.result c.args.reference.now)
          (leb c.index-refs-before.result.range.last c.args.reference.now.range.last) inner)
          (grind (arith, nat_tests)));
    }
