-- The counter is that of the blank.
use Rattle.register.proofs.registers.Register.turn.Given as goal

abbrev pub ghosts-turn_counted : goal.ghosts-turn_counted
ghosts-turn_counted a = record { name = a.blank.name; parts = a.blank.parts }
