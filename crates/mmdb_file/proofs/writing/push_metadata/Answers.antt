use Rattle.std.proofs.Common.{sym, subst}
use Rattle.mmdb_data.specs.ValueTree.{CanBeSpelled}
use Rattle.mmdb_file.proofs.WritingLemmas.{told_spelled, metadata_spelled}
use Rattle.mmdb_file.proofs.writing.push_metadata.Goals as goal

pub encode-put-requires : goal.encode-put-requires
encode-put-requires c =
    subst CanBeSpelled (sym c.in_ok-metadata.ensures.value) (told_spelled _ _ _ _ c.requires)

pub returns-clause-bytes : goal.returns-clause-bytes
returns-clause-bytes c =
    metadata_spelled _ _ _ _ _ _ _ c.in_ok-metadata.ensures.value c.in_ok-put.ensures.spelled
