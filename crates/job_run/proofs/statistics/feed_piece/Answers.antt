use Rattle.std.proofs.Common.{◌++◌, ◌<◌, length, refl}
use Rattle.nro_stats.specs.File.{longest}
use Rattle.job_run.proofs.ActLemmas.{le_from}
use Rattle.job_run.proofs.statistics.feed_piece.Goals as goal

pub returns-in-Ok-clause-read : goal.returns-in-Ok-clause-read
returns-in-Ok-clause-read g c = λ slot text fed. (
  c.in-Ok.ensures.read slot text fed,
  le_from (length (text ++ c.args.piece.now)) longest
      (λ (over : longest < length (text ++ c.args.piece.now)).
      let e = (c.in-Ok.ensures.too_long slot text fed).1 over in cc),
)

pub returns-in-Err-TooLong-clause-refused : goal.returns-in-Err-TooLong-clause-refused
returns-in-Err-TooLong-clause-refused g c = λ slot text fed. (
  refl,
  (c.in-Err-TooLong.ensures.too_long slot text fed).0 (cc),
)
