-- Passes and holdings of a turnstile, and what they know.
use Rattle.std.specs.Prelude.{◌≡◌, ◌<◌, ◌≤◌, ℕ, true, false, List, [], ◌∷◌, length, Option, Some, None, All}
use Rattle.atomic_table.specs.Seated.{TableId}
use Rattle.atomic_table.specs.declared.shared.Seat.{Seat}
use Rattle.turnstile.specs.declared.parties.Party.{Party}
use Rattle.turnstile.specs.declared.lock.Turnstile.{Turnstile}
use Rattle.turnstile.specs.declared.held.Held.{Held}

-- a table of two words, the turn and the length, and one slot for the value
abbrev pub IsSized : TableId → Type 0
IsSized table = (table.words ≡ 2) × (table.slots ≡ 1)

module _ {T E F : Type 0} where
  -- what a pass knows
  abbrev pub knows : Seat (Option T) (Party E F) → Party E F
  knows pass = pass.me.0

  -- the history that it has seen
  abbrev pub seen : Seat (Option T) (Party E F) → List E
  seen pass = (knows pass).seen

  -- its part of 2^32 shares
  abbrev pub share : Seat (Option T) (Party E F) → ℕ
  share pass = (knows pass).share

  -- the places of the entries that its holdings added
  abbrev pub tally : Seat (Option T) (Party E F) → List ℕ
  tally pass = (knows pass).tally

  -- a holding's pass, and the value that it holds
  abbrev pub pass_of : Held T E F → Seat (Option T) (Party E F)
  pass_of held = held.pass

  abbrev pub value_of : Held T E F → T
  value_of held = held.value

  -- the history at `enter`, which the pass of a holding has seen
  abbrev pub entered : Held T E F → List E
  entered held = seen (pass_of held)

  -- the value that the turnstile was made with
  abbrev pub first_value : Turnstile T E F → T
  first_value turnstile = turnstile.table.shared.key.value

  -- a party at this table with nothing in hand, and a share
  abbrev pub Rests : TableId → Seat (Option T) (Party E F) → Type 0
  Rests table pass =
      (pass.table_id ≡ table) × (pass.me.1 ≡ []) × ((knows pass).holds ≡ false) × (0 < share pass) × ((knows pass).told ≡ [])

  -- a party at this table that has taken the value out of its slot
  abbrev pub Holds : TableId → Seat (Option T) (Party E F) → Type 0
  Holds table pass =
      (pass.table_id ≡ table) × (pass.me.1 ≡ (0, None) ∷ []) × ((knows pass).holds ≡ true) × (0 < share pass) × ((knows pass).told ≡ [])

  module _ (history : T → List E) (fixed : T → F) where
    -- what each party knows of the first value, whose history is no longer than what it has seen, and that each place of its tally lies in
    -- what it has seen
    pub record Belongs (turnstile : Turnstile T E F) (pass : Seat (Option T) (Party E F)) : Type 0 where
      pub fixed_part : (knows pass).fixed ≡ Some (fixed (first_value turnstile))
      pub start : (knows pass).start ≡ length (history (first_value turnstile))
      pub begun : length (history (first_value turnstile)) ≤ length (seen pass)
      pub within : All (λ place. place < length (seen pass)) (tally pass)

    -- a pass of this turnstile
    abbrev pub IsPassOf : Turnstile T E F → Seat (Option T) (Party E F) → Type 0
    IsPassOf turnstile pass = Rests turnstile.table.shared.table_id pass × Belongs turnstile pass

    -- a holding of this turnstile
    abbrev pub IsHeldOf : Turnstile T E F → Held T E F → Type 0
    IsHeldOf turnstile held = Holds turnstile.table.shared.table_id held.pass × Belongs turnstile held.pass
