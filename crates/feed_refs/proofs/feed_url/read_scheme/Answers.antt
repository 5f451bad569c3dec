use Rattle.std.proofs.Common.{rules}
use Rattle.feed_refs.proofs.feed_url.read_scheme.Goals as goal

pub returns-in_ok-of : goal.returns-in_ok-of
returns-in_ok-of c = search rules steps 1000000
