use Rattle.std.proofs.Common.{◌<◌, ◌≤◌, arith, length, refl}
use Rattle.std.specs.Option.{option_copied}
use Rattle.std.proofs.lemmas.Option.{slice_get_read}
use Rattle.first_index.proofs.CoverLemmas.{first_step}
use Rattle.first_index.proofs.inetnums.cover.first_reaching.Goals as goal

pub loop-index-preserved : goal.loop-index-preserved
loop-index-preserved c =
    let left : c.loop-index.left ≤ c.args.end = c.loop-index.invariant.within in
    let below : c.in-Some.index < c.loop-index.left = c.in-Some.ensures.below in
    let most : c.args.end ≤ length c.args.refs.now = c.requires.within in
    let within : c.in-Some.index < length c.args.refs.now = omega arith in
    record {
      within = omega arith;
      first = first_step c.args.url.now c.args.family c.args.last c.args.refs.now
          (option_copied c.loop-index.first) c.index-refs-index.result c.better.result.now
          c.args.end c.loop-index.left c.in-Some.index c.loop-index.invariant.first
          c.in-Some.ensures.near left
          (slice_get_read c.args.refs.now
          (length c.args.refs.now) c.in-Some.index c.index-refs-index.result refl within
          c.index-refs-index.is) c.better.ensures;
    }
