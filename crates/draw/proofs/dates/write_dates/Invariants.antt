use Rattle.std.specs.Prelude.{◌≡◌, ◌++◌, pos, ◌+ℤ◌}
use Rattle.fixed_units.specs.Quantities.{first_day}
use Rattle.draw.specs.Dates.{date_text}
use Rattle.draw.specs.Frames.{first_texts}
use Rattle.draw.proofs.dates.write_dates.Given as goal

-- the dates so far were added
abbrev pub invariant-loop-place : goal.invariant-loop-place
invariant-loop-place l = l.out ≡ l.fn.out ++ first_texts (λ k. date_text l.zone l.times (first_day +ℤ pos k)) l.place
