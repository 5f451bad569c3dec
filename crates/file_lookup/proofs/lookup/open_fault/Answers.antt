use Rattle.file_lookup.proofs.lookup.open_fault.Goals as goal

pub returns-in-NoMarker : goal.returns-in-NoMarker
returns-in-NoMarker c = cc
