use Rattle.std.proofs.Common.{◌≡◌}
use Rattle.history.specs.After.{after_turns}
use Rattle.register.specs.Registered.{NoneOut}
use Rattle.table_writing.proofs.turns.turn_often.Given as goal

-- as many turns as were counted were made
abbrev pub invariant-loop-made : goal.invariant-loop-made
invariant-loop-made g l = record {
  history : l.office.register.history ≡ after_turns l.made l.fn.office.register.history;
  claims : NoneOut l.office.register;
  disk : l.office.disk ≡ l.fn.office.disk;
}
