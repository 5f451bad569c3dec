use Rattle.std.proofs.Common.{◌≡◌, ◌<◌, ◌∙◌, ◌+◌, arith, get_or, length, max, refl, sym, ap, subst}
use Rattle.std.proofs.lemmas.Bool.Decides.{nat_tests}
use Rattle.std.proofs.lemmas.Option.{slice_get_read, slice_get_within, slice_get-get_or}
use Rattle.first_index.specs.Links.{IsReach}
use Rattle.first_index.specs.declared.inetnums.links.Link.{Link}
use Rattle.first_index.proofs.CoverLemmas.{reach_more, reach_other}
use Rattle.first_index.proofs.inetnums.links.reach_of.Goals as goal

pub returns-then-are_together : goal.returns-then-are_together
returns-then-are_together c =
    let next : c.args.index ≡ c.in-Some.before + 1 = grind (arith, nat_tests) in
    let here : c.args.index < length c.args.refs.now =
    slice_get_within c.args.refs.now c.args.index c.args.reference.now c.requires.here in
    let within : c.in-Some.before < length c.args.refs.now = omega arith in
    let made : length c.args.links.now ≡ c.args.index = c.requires.made in
    let in_links : c.in-Some.before < length c.args.links.now = omega arith in
    let l : Link = get_or c.args.links.now c.in-Some.before (record { reach = 0; outer = 0 }) in
    let m : c.max.result ≡ max l.reach c.args.reference.now.range.last =
    c.max.ensures ∙ ap (max l.reach) c.last_of-last.ensures in
    subst (λ n. IsReach c.args.refs.now c.args.reference.now c.args.index n) (sym m)
    (reach_more c.args.refs.now c.args.links.now c.args.reference.now c.index-refs-before.result l
    c.args.index c.in-Some.before c.requires.links c.requires.here
    (slice_get_read c.args.refs.now
    (length c.args.refs.now) c.in-Some.before c.index-refs-before.result refl within
    c.index-refs-before.is) (slice_get-get_or c.args.links.now c.in-Some.before
    (record { reach = 0; outer = 0 }) in_links)
    next (sym c.if-are_together.ensures))

pub returns-else-are_together : goal.returns-else-are_together
returns-else-are_together c =
    let next : c.args.index ≡ c.in-Some.before + 1 = grind (arith, nat_tests) in
    let here : c.args.index < length c.args.refs.now =
    slice_get_within c.args.refs.now c.args.index c.args.reference.now c.requires.here in
    let within : c.in-Some.before < length c.args.refs.now = omega arith in
    subst (λ n. IsReach c.args.refs.now c.args.reference.now c.args.index n)
    (sym c.last_of-last.ensures)
    (reach_other c.args.refs.now c.args.reference.now c.index-refs-before.result c.args.index
    c.in-Some.before c.requires.shelved c.requires.here
    (slice_get_read c.args.refs.now
    (length c.args.refs.now) c.in-Some.before c.index-refs-before.result refl within
    c.index-refs-before.is) next (sym c.if-are_together.ensures))
