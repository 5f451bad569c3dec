use Rattle.job_run.proofs.ActLemmas.{fresh_is}
use Rattle.job_run.proofs.emitting.emitted.Goals as goal

pub returns-in-Ok-clause-least : goal.returns-in-Ok-clause-least
returns-in-Ok-clause-least g c = record {
  fresh_bytes = fresh_is c.args.session.now.state _ c.in-Ok.ensures.file;
  walked = c.in-Ok.ensures.walked;
  fewest = c.in-Ok.ensures.fewest;
  told = c.in-Ok.ensures.told;
}
