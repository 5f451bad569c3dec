use Rattle.std.proofs.Common.{not, rules}
use Rattle.std.specs.Ordering.{is_lt}
use Rattle.std.proofs.lemmas.List.Sorted.{IsPartitionPoint-from_clause}
use Rattle.geo_terms.specs.declared.statement.Reference.{Reference}
use Rattle.first_index.specs.Shelf.{Key, key_cmp, key_of}
use Rattle.first_index.proofs.ShelfLemmas.{end_found, parted}
use Rattle.first_index.proofs.inetnums.cover.end_of.Goals as goal

pub returns-clause-end : goal.returns-clause-end
returns-clause-end c =
    let key : Key = record { url = c.args.url.now; family = c.args.family; first = c.args.first } in
    end_found c.args.refs.now key c.partition_point.result c.partition_point.ensures.bound
    (IsPartitionPoint-from_clause
    (λ (r : Reference). not (is_lt (key_cmp key (key_of r)))) c.args.refs.now
    c.partition_point.result c.partition_point.ensures.partitioned
    (parted c.args.refs.now key c.requires) (λ a r q k. search rules))
