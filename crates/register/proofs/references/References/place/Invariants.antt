-- Each key of a turn before keeps a place, whose record has not the reference.
use Rattle.std.proofs.Common.{ℕ, ◌≡◌, ◌<◌}
use Rattle.std.specs.Prelude.{Some, false}
use Rattle.register.specs.References.{key_of, place_at, has_reference}
use Rattle.register.proofs.references.References.place.Given as goal

abbrev pub invariant-loop-turn : goal.invariant-loop-turn
invariant-loop-turn l =
    (earlier : ℕ) → earlier < l.turn
    → (place : ℕ) × (place_at l.self (key_of l.reference earlier) ≡ Some place) × (has_reference l.pieces l.reference place ≡ false)
