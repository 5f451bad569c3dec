-- The lines are in preorder, and each has a leaf of the tree.
use Rattle.std.proofs.Common.{◌≡◌, ◌∙◌, ap, sym, subst, List}
use Rattle.geo_terms.specs.Numbers.{place_at}
use Rattle.trie_core.specs.Store.{tree_of}
use Rattle.publish_least.specs.Choice.{lines_of, part_of}
use Rattle.publish_least.specs.declared.line.Line.{Line}
use Rattle.published.specs.Reread.{AreApart, AreClean, says}
use Rattle.published.proofs.LineReads.{preorder_apart}
use Rattle.published.proofs.publication.publish.Goals as goal

pub returns-clause-reads_back : goal.returns-clause-reads_back
returns-clause-reads_back c url all =
    let law = c.numbers_do_not_matter.ensures in
    let slice : c.as_slice.result.now
    ≡ lines_of (part_of (tree_of c.args.store.now c.args.root) c.args.within) c.args.within =
    c.as_slice.ensures.value ∙ c.in_ok-lines.ensures.lines in
    let apart : AreApart c.as_slice.result.now =
    subst AreApart (sym c.as_slice.ensures.value) (preorder_apart c.args.within
    c.in_ok-lines.lines.items c.in_ok-lines.ensures.inside c.in_ok-lines.ensures.preorder) in
    let clean : AreClean (place_at c.args.places.now) c.as_slice.result.now =
    subst (λ (ls : List Line). AreClean (place_at c.args.places.now) ls) (sym slice)
    (law.clean all) in
    c.in_ok-text.ensures.reads_back url apart clean
    ∙ ap (λ (ls : List Line). says url (place_at c.args.places.now) ls) slice ∙ law.said url
