-- The sheets of the days before the next one were made.
use Rattle.std.specs.Prelude.{true}
use Rattle.history.specs.Awaited.{value_at}
use Rattle.register.proofs.ReviewLemmas.{AreMade}
use Rattle.sheets.specs.Sheets.{sheet}
use Rattle.register.proofs.registers.Register.day_sheets.Given as goal

abbrev pub invariant-loop-number : goal.invariant-loop-number
invariant-loop-number l =
    AreMade (λ day. sheet l.site day (value_at l.self.history.events l.site day) true) l.fn.from l.fn.to l.number l.sheets
