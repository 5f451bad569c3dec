use Rattle.geo_terms.specs.Precedence.{record_at}
use Rattle.mmdb_file.specs.FileImage.{record_tree}
use Rattle.update_session.proofs.WriteLemmas.{leaf_is}
use Rattle.update_session.proofs.write.means_records.Goals as goal

pub returns : goal.returns
unfolding record_tree
returns c = λ s answers.
    c.numbers_to_places.ensures.places (record_at s)
    (λ address k below is. (leaf_is _ _ _ s address k (answers address below) is).1)
