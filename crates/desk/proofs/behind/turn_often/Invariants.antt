use Rattle.std.specs.Prelude.{◌-◌, ◌≤◌, length}
use Rattle.desk.proofs.DayByDayLemmas.{AreTurning}
use Rattle.shared_office.specs.Passing.{IsOf, fixed_in}
use Rattle.turnstile.specs.Passes.{seen}
use Rattle.desk.proofs.behind.turn_often.Given as goal

-- so many turns are left as were not counted
abbrev pub invariant-loop : goal.invariant-loop
invariant-loop g l = record {
  pass : IsOf l.lock l.pass;
  turning : AreTurning (fixed_in l.lock) l.count (l.count - l.counter) l.fn.given l.pass l.turned;
  few : l.turned.published ≤ length (seen l.pass);
}
