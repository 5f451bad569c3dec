-- A line whose tail came before says what is known of it, and hands nothing over.
use Rattle.std.proofs.Common.{◌≡◌, []}
use Rattle.csv_lines.specs.Rests.{handed}
use Rattle.feed_csv.proofs.outcome.read_line.Goals as goal

pub returns-in-Some-clause-outcome : goal.returns-in-Some-clause-outcome
returns-in-Some-clause-outcome c =
    (rw c.in-Some.is at
    (c.in_ok-known.ensures c.args.line.now c.cut_line-cut.ensures.cut)).0

pub returns-in-Some-clause-stands : goal.returns-in-Some-clause-stands
returns-in-Some-clause-stands c left stands =
    let nothing : handed c.args.line.now ≡ [] =
    (rw c.in-Some.is at
    (c.in_ok-known.ensures c.args.line.now c.cut_line-cut.ensures.cut)).1 in
    rw nothing at stands
