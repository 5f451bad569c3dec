use Rattle.precedence.proofs.sources.Sources.why_at.Goals as goal

pub returns : goal.returns
returns c = cc
