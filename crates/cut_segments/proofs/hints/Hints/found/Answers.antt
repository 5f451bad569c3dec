use Rattle.std.proofs.Common.{◌≡◌, ◌||◌, false, true, subst}
use Rattle.geo_addr.specs.Ranges.{Ends, holds}
use Rattle.cut_segments.proofs.JoinedLemmas.{held_at}
use Rattle.cut_segments.proofs.hints.Hints.found.Goals as goal

pub returns : goal.returns
returns c a e =
    held_at c.args.kept.now c.args.self.now.near c.index-kept-self.result a c.if-self-kept.false
    (subst (λ (r : Ends). (holds r a || false) ≡ true) c.index-kept-self.is e)
