use Rattle.test_program.proofs.tests.steps.ends_so.Given as goal

-- the counter is that of the blank
abbrev pub ghosts-done : goal.ghosts-done
ghosts-done g a = record { name = a.blank.name; parts = a.blank.parts }
