-- What was found in the parts is what the file says.
use Rattle.std.proofs.Common.{◌<◌, ◌≤◌, List, length, rules, subst}
use Rattle.geo_terms.specs.declared.statement.Entry.{Entry}
use Rattle.feed_csv.specs.File.{most}
use Rattle.feed_csv.proofs.parts.read_feed_by_parts.Goals as goal

pub feed_of-requires : goal.feed_of-requires
feed_of-requires g c =
    (c.args.bytes.items, (c.in_ok-all.ensures.entries, c.in_ok-all.ensures.faults))

pub returns-then-len-gt-MOST-clause-too_many : goal.returns-then-len-gt-MOST-clause-too_many
returns-then-len-gt-MOST-clause-too_many g c = λ refused.
    subst (λ (es : List Entry). most < length es) c.in_ok-all.ensures.entries (search rules)

pub returns-clause-read : goal.returns-clause-read
returns-clause-read g c =
    c.in_ok-feed.ensures.read c.args.bytes.items
    (c.in_ok-all.ensures.entries, c.in_ok-all.ensures.faults)

pub returns-clause-within : goal.returns-clause-within
returns-clause-within g c =
    subst (λ (es : List Entry). length es ≤ most) c.in_ok-all.ensures.entries (search rules)
