-- Passes of a lock round numbers.
use Rattle.std.specs.Prelude.{ℕ, Option}
use Rattle.atomic_table.specs.declared.shared.Seat.{Seat}
use Rattle.turnstile.specs.Passes.{IsPassOf}
use Rattle.turnstile.specs.declared.parties.Party.{Party}
use Rattle.turnstile.specs.declared.lock.Turnstile.{Turnstile}
use Rattle.floor_tests.specs.declared.numbers.Numbers.{Numbers}

-- a pass of this lock
abbrev pub IsOf : Turnstile Numbers ℕ (Unit {0}) → Seat (Option Numbers) (Party ℕ (Unit {0})) → Type 0
IsOf lock pass = IsPassOf (λ (n : Numbers). n.list.items) (λ _. tt) lock pass
