-- The root answers the record of the sources, by the numbers of the session's places.
use Rattle.std.proofs.Common.{◌≡◌, ◌≤◌, ◌∙◌, List, ap, ap₂, length, subst, sym}
use Rattle.geo_terms.specs.PlaceForm.{PlaceParts}
use Rattle.mmdb_file.specs.FileImage.{record_tree}
use Rattle.mmdb_file.specs.Writing.{place_tree}
use Rattle.published.specs.PlaceLines.{published, published_feed, published_lines}
use Rattle.published.specs.Reread.{IsCleanAt}
use Rattle.published.proofs.CleanRecords.{clean_records}
use Rattle.published.proofs.Shortest.{shortest_feed}
use Rattle.trie_core.specs.Store.{leaf_at}
use Rattle.trie_core.specs.Tree.{AllLeaves}
use Rattle.update_session.proofs.WriteLemmas.{leaf_is}
use Rattle.geofeed_cmd.proofs.commands.write_feed.feed_of.Goals as goal

pub publish-requires-clause-numbers : goal.publish-requires-clause-numbers
publish-requires-clause-numbers g c = λ address k below is.
    let held = c.build_tree.new.self in
    let here = ap₂ (λ pairs root. leaf_at pairs root address) (sym c.store.ensures)
    (sym c.root-root.ensures.same) ∙ is in
    subst (λ (places : List PlaceParts). k ≤ length places) (sym c.places.ensures)
    (leaf_is held.store held.places held.root _ address k
    (c.in-Ok.ensures.ok.root.answers address below) here).0

pub returns-in-Ok-publish-clause-text : goal.returns-in-Ok-publish-clause-text
returns-in-Ok-publish-clause-text g c =
    c.in-Ok-publish.ensures.text
    ∙ ap₂ (λ places pairs. published (place_tree places pairs c.root-root.result) c.args.block)
    c.places.ensures c.store.ensures
    ∙ ap (λ t. published t c.args.block) (c.root-root.ensures.tree _ c.in-Ok.ensures.ok.root)

pub returns-in-Ok-publish-clause-lines : goal.returns-in-Ok-publish-clause-lines
returns-in-Ok-publish-clause-lines g c =
    c.in-Ok-publish.ensures.lines
    ∙ ap₂ (λ places pairs. length (published_lines (place_tree places pairs c.root-root.result)
    c.args.block)) c.places.ensures c.store.ensures
    ∙ ap (λ t. length (published_lines t c.args.block))
    (c.root-root.ensures.tree _ c.in-Ok.ensures.ok.root)

pub returns-in-Ok-publish-clause-shortest : goal.returns-in-Ok-publish-clause-shortest
returns-in-Ok-publish-clause-shortest g c clean =
    let s = c.args.session.now.state.sources in
    let tree : place_tree c.places.result.now c.store.result.now c.root-root.result
    ≡ record_tree s =
    ap₂ (λ places pairs. place_tree places pairs c.root-root.result) c.places.ensures
    c.store.ensures ∙ c.root-root.ensures.tree _ c.in-Ok.ensures.ok.root in
    shortest_feed s c.args.block _ c.requires.aligned c.requires.plain
    (c.in-Ok-publish.ensures.text ∙ ap (λ t. published t c.args.block) tree)
    (λ url. c.in-Ok-publish.ensures.reads_back url
    (subst (AllLeaves IsCleanAt) (sym tree) (clean_records s clean))
    ∙ ap (λ t. published_feed url t c.args.block) tree)
