use Rattle.test_program.proofs.tests.ended.Given as goal

-- the counter is that of the blank
abbrev pub ghosts-do_words : goal.ghosts-do_words
ghosts-do_words g a = record { name = a.blank.name; parts = a.blank.parts }
