use Rattle.std.proofs.Common.{ℕ, length, ◌≤◌, le_refl}
use Rattle.trie_core.specs.Tree.{Tree, AllLeaves}
use Rattle.trie_core.specs.Laws.{IsReducedWithin}
use Rattle.trie_core.specs.Store.{tree_of, record_of}
use Rattle.trie_core.proofs.StoreLemmas.{IsReduced-meaning}
use Rattle.mmdb_file.proofs.ImageLemmas.{numbers_known}
use Rattle.mmdb_file.proofs.PlaceTreeLemmas.{tree_named, file_named, nodes_named, fewest_named}
use Rattle.mmdb_file.proofs.PlaceTreeLemmas.{bytes_named, end_is}
use Rattle.mmdb_file.proofs.writing.numbers_to_places.Goals as goal

known : (c : goal.After-len)
    → AllLeaves (λ k. k ≤ length c.args.places.now) (tree_of c.args.store.now c.args.root)
known c =
    numbers_known c.args.store.now c.rec_of.ensures.sound c.args.places.now
    (record_of c.args.root) c.requires.root c.requires.numbers

reduced : (c : goal.After-len) → IsReducedWithin 128 (tree_of c.args.store.now c.args.root)
reduced c = (
  c.rec_of.ensures.sound.low (record_of c.args.root) c.requires.root,
  IsReduced-meaning c.args.store.now c.rec_of.ensures.sound (length c.args.store.now)
      (record_of c.args.root) (le_refl _) c.requires.root,
)

pub returns : goal.returns
returns c =
    let t : Tree ℕ = tree_of c.args.store.now c.args.root in
    record {
      places = tree_named c.args.places.now c.len.ensures.distinct t (known c) (reduced c);
      bytes = file_named c.args.places.now c.len.ensures.distinct t (known c);
      nodes = nodes_named c.args.places.now c.len.ensures.distinct t (known c);
      fewest = fewest_named c.args.places.now c.len.ensures.distinct t (known c) (reduced c);
      section = bytes_named c.args.places.now c.len.ensures.distinct t (known c);
      end = end_is c.args.places.now c.len.ensures.distinct t (known c);
    }
