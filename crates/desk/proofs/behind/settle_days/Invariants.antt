use Rattle.std.specs.Prelude.{◌≤◌, length}
use Rattle.desk.proofs.DayByDayLemmas.{IsSettling}
use Rattle.shared_office.specs.Passing.{IsOf, fixed_in}
use Rattle.turnstile.specs.Passes.{seen}
use Rattle.desk.proofs.behind.settle_days.Given as goal

-- the settlement goes on behind the last day that was found
abbrev pub invariant-loop : goal.invariant-loop
invariant-loop g l = record {
  next : (goal.iterator-loop g).can_next l.iterator';
  finite : (goal.iterator-loop g).is_finite l.iterator';
  pass : IsOf l.lock l.pass;
  settling : IsSettling (fixed_in l.lock) l.last l.fn.given l.pass l.published;
  few : l.published ≤ length (seen l.pass);
}
