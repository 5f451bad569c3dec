use Rattle.test_file.proofs.tests.compacts.compacts_to_one_store.Given as goal

-- the counter is that of the blank
abbrev pub ghosts-compacted : goal.ghosts-compacted
ghosts-compacted _ a = record { name = a.blank.name; parts = a.blank.parts }
