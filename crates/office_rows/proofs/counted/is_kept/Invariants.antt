-- The counter is that of the blank.
use Rattle.office_rows.proofs.counted.is_kept.Given as goal

abbrev pub ghosts-is_kept_counted : goal.ghosts-is_kept_counted
ghosts-is_kept_counted a = record { name = a.blank.name; parts = a.blank.parts }
