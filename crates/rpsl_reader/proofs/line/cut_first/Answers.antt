use Rattle.geo_addr.proofs.PrefixLemmas.{cut_first-is}
use Rattle.rpsl_reader.proofs.line.cut_first.Goals as goal

pub returns : goal.returns
returns c =
    cut_first-is c.args.separator c.args.text.now _ _ c.cut_at.ensures.free c.cut_at.ensures.joined
