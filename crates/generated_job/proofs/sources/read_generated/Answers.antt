use Rattle.generated_job.proofs.FitLemmas.{feed_memory}
use Rattle.generated_job.proofs.sources.read_generated.Goals as goal

pub memory_of-requires : goal.memory_of-requires
memory_of-requires g c =
    feed_memory c.args.second c.args.lines c.requires.few c.in_ok-bytes.bytes.items
    c.in_ok-bytes.ensures c.read_feed_by_parts.result c.in-Err.fault c.in-Err.is
    c.read_feed_by_parts.ensures.too_long c.read_feed_by_parts.ensures.too_many
