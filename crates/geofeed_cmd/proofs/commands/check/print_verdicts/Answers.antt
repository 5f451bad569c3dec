-- The feed that is found is that of its own URL.
use Rattle.std.proofs.Common.{sym}
use Rattle.geofeed_cmd.proofs.CheckLemmas.{own_feed}
use Rattle.geofeed_cmd.proofs.commands.check.print_verdicts.Goals as goal

pub text_of-requires : goal.text_of-requires
text_of-requires g c =
    own_feed c.sources-sources.result.now c.args.url.now c.in-Some.feed.now (sym c.in-Some.ensures)
