-- The counter is that of the blank.
use Rattle.office_rows.proofs.counted.computed.Given as goal

abbrev pub ghosts-computed_counted : goal.ghosts-computed_counted
ghosts-computed_counted a = record { name = a.blank.name; parts = a.blank.parts }
