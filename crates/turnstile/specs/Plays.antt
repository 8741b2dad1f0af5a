-- What each step tells.
use Rattle.std.specs.Prelude.{◌≡◌, ◌≢◌, ℕ, ◌^◌, ◌-◌, List, [], ◌∷◌, length, Option, Some, None}
use mathlib.Core.List.{IsPrefix}
use Rattle.atomic_table.specs.Table.{Me, Step, rest}
use Rattle.turnstile.specs.Places.{places, times, longer}
use Rattle.turnstile.specs.Parties.{holding, wrote, at_rest, has_seen, learned}
use Rattle.turnstile.specs.declared.parties.Party.{Party}

-- a party at the table: what it knows, and the slots that are out with it
abbrev pub AtTable : Type 0 → Type 0 → Type 0 → Type 0
AtTable T E F = Me (Option T) (Party E F)

-- the history of what was in the slot
abbrev pub history_of : {T E : Type 0} → (T → List E) → Option T → List E
history_of history None = []
history_of history (Some v) = history v

-- the history of the value that was put into the slot
abbrev pub history_in : {T E : Type 0} → (T → List E) → List (ℕ × Option T) → List E
history_in history [] = []
history_in history (x ∷ xs) = history_of history x.1

module _ {T E F : Type 0} where
  -- the turn was free, and the value was taken; or nothing happened
  abbrev pub Takes : (T → List E) → (T → F) → Step (Option T) → AtTable T E F → ℕ → AtTable T E F → Type 0
  Takes history fixed st m found m' =
      (found ≡ 0 → (v : T) × (m'.1 ≡ (0, Some v) ∷ m.1) × (m'.0 ≡ holding m.0 (history v)) × IsPrefix m.0.seen (history v) × (m.0.fixed ≡ Some (fixed v)))
      × (found ≢ 0 → m' ≡ m)

  -- the length was written
  abbrev pub Writes : (T → List E) → Step (Option T) → AtTable T E F → ℕ → AtTable T E F → Type 0
  Writes history st m found m' = m' ≡ (wrote m.0 (history_in history m.1), m.1)

  -- the value was put back, and the turn is free
  abbrev pub Gives : Step (Option T) → AtTable T E F → ℕ → AtTable T E F → Type 0
  Gives st m found m' = m' ≡ (at_rest m.0, rest m.1)

  -- the history of this length was seen
  abbrev pub Glances : Step (Option T) → AtTable T E F → ℕ → AtTable T E F → Type 0
  Glances st m found m' = (log : List E) × (m' ≡ (has_seen m.0 log, m.1)) × IsPrefix m.0.seen log × (length log ≡ found)
      × (m.0.share ≡ 2 ^ 32 → (x : ℕ) → times x m.0.tally ≡ times x (places m.0.start (found - m.0.start)))

  -- what was told of is learned
  abbrev pub Learns : Step (Option T) → AtTable T E F → ℕ → AtTable T E F → Type 0
  Learns st m found m' = (m' ≡ (learned m.0, m.1)) × IsPrefix m.0.seen (longer m.0.seen m.0.told) × IsPrefix m.0.told (longer m.0.seen m.0.told)

  -- with the whole share the turn is free, and the value is taken, whose history was seen
  abbrev pub Closes : (T → List E) → (T → F) → Step (Option T) → AtTable T E F → ℕ → AtTable T E F → Type 0
  Closes history fixed st m found m' =
      (v : T) × (m'.1 ≡ (0, Some v) ∷ m.1) × (history v ≡ m.0.seen) × (m.0.fixed ≡ Some (fixed v))
      × ((x : ℕ) → times x m.0.tally ≡ times x (places m.0.start (length (history v) - m.0.start)))
