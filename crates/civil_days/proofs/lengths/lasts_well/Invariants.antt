use Rattle.std.proofs.Common.{pos, ◌-ℤ◌, ◌≤ℤ◌, unsigned_abs}
use Rattle.jiff_tz.specs.PosixText.{tz_view}
use Rattle.fixed_units.specs.Quantities.{first_day}
use Rattle.civil_days.proofs.StretchLemmas.{IsPast}
use Rattle.civil_days.specs.Seasons.{IsStretch}
use Rattle.civil_days.proofs.lengths.lasts_well.Given as goal

abbrev pub invariant-loop-stretch : goal.invariant-loop-stretch
invariant-loop-stretch l = record {
  low : first_day ≤ℤ l.stretch.first;
  stretch : IsStretch (tz_view l.rule) l.stretch;
  past : IsPast (tz_view l.rule) l.stretch.first;
}

abbrev pub decreases-loop-stretch : goal.decreases-loop-stretch
decreases-loop-stretch l = unsigned_abs (pos 48_000 -ℤ l.stretch.next)
