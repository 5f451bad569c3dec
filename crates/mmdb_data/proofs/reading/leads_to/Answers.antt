use Rattle.mmdb_data.proofs.reading.leads_to.Goals as goal

pub returns-in-1-clause-two : goal.returns-in-1-clause-two
returns-in-1-clause-two c = assumption
