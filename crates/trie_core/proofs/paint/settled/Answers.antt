use Rattle.std.proofs.Common.{◌≡◌, ◌<◌, ◌≤◌, ap, arith}
use Rattle.trie_core.specs.declared.paint.Part.{Part}
use Rattle.trie_core.proofs.PartLemmas.{settled_before, settled_inside, settled_at}
use Rattle.trie_core.proofs.paint.settled.Goals as goal

pub returns-then-last-part : goal.returns-then-last-part
returns-then-last-part c =
    settled_before c.args.parts.now.now c.in-Some.part.now c.in-Some.ensures.value
    c.requires.ascending c.args.rec c.args.first c.args.last
    (omega (arith, c.if-last-part.true, ap (λ (p : Part). p.range.first) c.part.view_is))

pub returns-then-part-last-2 : goal.returns-then-part-last-2
returns-then-part-last-2 c =
    let begins : c.in-Some.part.now.range.first ≤ c.args.first =
    omega (arith, c.if-first-part.false, ap (λ (p : Part). p.range.first) c.part.view_is) in
    let at : c.in-Some.part.now.range.last ≡ c.args.last =
    omega (arith, c.if-part-last-2.true, ap (λ (p : Part). p.range.last) c.part.view_is) in
    rw (c.split_at.ensures.back, ap (λ (p : Part). p.leaf) c.part.view_is)
    (settled_at c.args.parts.now.now
    c.in-Some.part.now c.in-Some.ensures.value
    c.requires.ascending c.args.rec c.args.first c.args.last begins at)

pub returns-else-part-last-2 : goal.returns-else-part-last-2
returns-else-part-last-2 c =
    let begins : c.in-Some.part.now.range.first ≤ c.args.first =
    omega (arith, c.if-first-part.false, ap (λ (p : Part). p.range.first) c.part.view_is) in
    let ends = ap (λ (p : Part). p.range.last) c.part.view_is in
    let past : c.args.last < c.in-Some.part.now.range.last =
    omega (arith, c.if-part-last.false, c.if-part-last-2.false, ends) in
    rw (ap (λ (p : Part). p.leaf) c.part.view_is)
    (settled_inside c.args.parts.now.now c.in-Some.part.now c.in-Some.ensures.value
    c.requires.ascending c.args.rec c.args.first c.args.last begins past)
