-- The counter is that of the blank.
use Rattle.register.proofs.registers.Register.settle.Given as goal

abbrev pub ghosts-settle_counted : goal.ghosts-settle_counted
ghosts-settle_counted a = record { name = a.blank.name; parts = a.blank.parts }
