use Rattle.test_session.proofs.tests.emits.emitted_by.Given as goal

-- the counter is that of the blank
abbrev pub ghosts-counted : goal.ghosts-counted
ghosts-counted g a = record { name = a.blank.name; parts = a.blank.parts }
