-- Each key of a turn before keeps another place.
use Rattle.std.proofs.Common.{ℕ, ◌≡◌, ◌<◌}
use Rattle.std.specs.Prelude.{IsSome}
use Rattle.register.specs.References.{key_of, place_at}
use Rattle.register.proofs.references.References.put.Given as goal

abbrev pub invariant-loop-turn : goal.invariant-loop-turn
invariant-loop-turn l =
    (l.self ≡ l.fn.self) × ((earlier : ℕ) → earlier < l.turn → IsSome (place_at l.self (key_of l.reference earlier)))
