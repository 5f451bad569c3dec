use Rattle.trie_core.specs.Store.{tree_of, record_of}
use Rattle.mmdb_file.proofs.ImageLemmas.{numbers_known}
use Rattle.published.proofs.Numbering as numbering
use Rattle.published.proofs.publication.numbers_do_not_matter.Goals as goal

pub returns : goal.returns
returns c =
    numbering.numbers_do_not_matter c.args.places.now c.len.ensures.distinct
    (tree_of c.args.store.now c.args.root)
    (numbers_known c.args.store.now c.rec_of.ensures.sound c.args.places.now
    (record_of c.args.root) c.requires.root c.requires.numbers)
    c.args.within
