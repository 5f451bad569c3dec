use Rattle.test_file.proofs.tests.files.equal_trees_equal_files.Given as goal

-- the counter is that of the blank
abbrev pub ghosts-file_of : goal.ghosts-file_of
ghosts-file_of g a = record { name = a.blank.name; parts = a.blank.parts }
