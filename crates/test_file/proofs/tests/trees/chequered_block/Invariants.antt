use Rattle.test_file.proofs.tests.trees.chequered_block.Given as goal

-- the counter is that of the blank
abbrev pub ghosts-holds : goal.ghosts-holds
ghosts-holds _ a = record { name = a.blank.name; parts = a.blank.parts }
