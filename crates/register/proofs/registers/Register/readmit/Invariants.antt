use Rattle.register.proofs.registers.Register.readmit.Given as goal

abbrev pub ghosts-readmit_counted : goal.ghosts-readmit_counted
ghosts-readmit_counted a = record { name = a.blank.name; parts = a.blank.parts }
