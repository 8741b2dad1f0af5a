use Rattle.std.proofs.Common.{◌≡◌, ◌+◌, length}
use Rattle.history.specs.After.{after_turns}
use Rattle.register.specs.Registered.{NoneOut}
use Rattle.desk.proofs.answers.turn_often.Given as goal

-- as many turns as were counted were made, and each published a day
abbrev pub invariant-loop-published : goal.invariant-loop-published
invariant-loop-published g l = record {
  history : l.office.register.history ≡ after_turns l.published l.fn.office.register.history;
  claims : NoneOut l.office.register;
  grown : length l.office.register.history.events ≡ length l.fn.office.register.history.events + l.published;
  disk : l.office.disk ≡ l.fn.office.disk;
}
