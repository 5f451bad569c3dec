use Rattle.std.proofs.Common.{◌≡◌, ◌<◌, ◌≤◌, ◌∙◌, ◌+◌, ◌&&◌, Bool, false, leb, arith, get_or}
use Rattle.std.proofs.Common.{length, refl, sym, ap}
use Rattle.std.proofs.lemmas.Bool.Decides.{nat_tests}
use Rattle.std.proofs.lemmas.Option.{slice_get_read, slice_get-get_or}
use Rattle.first_index.specs.declared.inetnums.links.Link.{Link}
use Rattle.first_index.proofs.CoverLemmas.{tells_some}
use Rattle.first_index.proofs.inetnums.cover.some_reach.Goals as goal

pub returns-then-is_of : goal.returns-then-is_of
returns-then-is_of c =
    let next : c.args.end ≡ c.in-Some.index + 1 = grind (arith, nat_tests) in
    let most : c.args.end ≤ length c.args.refs.now = c.requires.within in
    let within : c.in-Some.index < length c.args.refs.now = omega arith in
    let linked : length c.args.links.now ≡ length c.args.refs.now = c.requires.linked in
    let in_links : c.in-Some.index < length c.args.links.now = omega arith in
    let l : Link = get_or c.args.links.now c.in-Some.index (record { reach = 0; outer = 0 }) in
    tells_some c.args.url.now c.args.family c.args.last c.args.refs.now c.args.links.now
    c.index-refs-index.result l c.args.end c.in-Some.index
    (leb c.args.last l.reach) c.requires.links c.requires.grouped next
    (slice_get_read c.args.refs.now
    (length c.args.refs.now) c.in-Some.index c.index-refs-index.result refl within
    c.index-refs-index.is) (slice_get-get_or c.args.links.now c.in-Some.index
    (record { reach = 0; outer = 0 }) in_links)
    (ap (λ (b : Bool). b && leb c.args.last l.reach) c.if-is_of.ensures)

pub returns-else-is_of : goal.returns-else-is_of
returns-else-is_of c =
    let next : c.args.end ≡ c.in-Some.index + 1 = grind (arith, nat_tests) in
    let most : c.args.end ≤ length c.args.refs.now = c.requires.within in
    let within : c.in-Some.index < length c.args.refs.now = omega arith in
    let linked : length c.args.links.now ≡ length c.args.refs.now = c.requires.linked in
    let in_links : c.in-Some.index < length c.args.links.now = omega arith in
    let l : Link = get_or c.args.links.now c.in-Some.index (record { reach = 0; outer = 0 }) in
    let none : c.is_of.result ≡ false = c.is_of.ensures ∙ sym c.if-is_of.ensures in
    tells_some c.args.url.now c.args.family c.args.last c.args.refs.now c.args.links.now
    c.index-refs-index.result l c.args.end c.in-Some.index c.is_of.result c.requires.links
    c.requires.grouped next
    (slice_get_read c.args.refs.now
    (length c.args.refs.now) c.in-Some.index c.index-refs-index.result refl within
    c.index-refs-index.is) (slice_get-get_or c.args.links.now c.in-Some.index
    (record { reach = 0; outer = 0 }) in_links)
    (none ∙ ap (λ (b : Bool). b && leb c.args.last l.reach) c.if-is_of.ensures)
