-- What was found in the whole file.
use Rattle.std.proofs.Common.{◌∙◌, ap, filter_map}
use Rattle.feed_csv.specs.File.{entry_of, fault_of}
use Rattle.feed_csv.proofs.read.read_feed.Goals as goal

pub feed_of-requires : goal.feed_of-requires
feed_of-requires c = (
  c.args.bytes.now,
  (
    c.in_ok-found.ensures.entries ∙ ap (filter_map entry_of) c.whole.ensures,
    c.in_ok-found.ensures.faults ∙ ap (filter_map fault_of) c.whole.ensures,
  ),
)

pub returns-clause-read : goal.returns-clause-read
returns-clause-read c =
    c.in_ok-feed.ensures.read c.args.bytes.now (
      c.in_ok-found.ensures.entries ∙ ap (filter_map entry_of) c.whole.ensures,
      c.in_ok-found.ensures.faults ∙ ap (filter_map fault_of) c.whole.ensures,
    )
