use Rattle.override_rows.proofs.outcome.set_at.Goals as goal

pub returns-in-Nothing : goal.returns-in-Nothing
returns-in-Nothing c = cc
