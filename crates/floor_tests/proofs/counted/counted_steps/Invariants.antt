use Rattle.floor_tests.proofs.counted.counted_steps.Given as goal

abbrev pub ghosts-two_steps : goal.ghosts-two_steps
ghosts-two_steps g a = record { name = a.blank.name; parts = a.blank.parts }
