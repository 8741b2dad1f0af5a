-- The lock's rule. Word 0 is the turn and word 1 the length of the history; the slot has the value where the turn is free.
use Rattle.std.specs.Prelude.{◌≡◌, ℕ, ◌^◌, ◌<◌, ◌≤◌, ◌-◌, true, List, [], ◌∷◌, length, Option, Some, None}
use mathlib.Core.Option as opt
use mathlib.Core.List.{IsPrefix}
use lib.ListN.{get_elem?}
use Rattle.atomic_table.specs.Table.{State}
use Rattle.turnstile.specs.Places.{places, times}
use Rattle.turnstile.specs.Parties.{total}
use Rattle.turnstile.specs.declared.parties.Party.{Party}

-- the word of the turn: 0 while it is free
abbrev pub turn_of : Option ℕ → ℕ
turn_of None = 0
turn_of (Some holder) = 1

module _ {T E F : Type 0} (history : T → List E) (fixed : T → F) (first : T) where
  -- the length of the history when the turnstile was made
  abbrev pub begins_at : ℕ
  begins_at = length (history first)

  -- what each party knows
  pub record Fits (log : List E) (holder : Option ℕ) (id : ℕ) (v : Party E F) : Type 0 where
    pub prefix : IsPrefix v.seen log
    pub told : IsPrefix v.told log
    pub held : v.holds ≡ true → (holder ≡ Some id) × (v.seen ≡ log) × (0 < v.share)
    pub knows : 0 < v.share → (v.fixed ≡ Some (fixed first)) × (v.start ≡ begins_at) × (begins_at ≤ length v.seen)
    pub spent : v.share ≡ 0 → v.tally ≡ []
    pub inside : (x : ℕ) → length v.seen ≤ x → length v.told ≤ x → times x v.tally ≡ 0

  -- where the value is
  abbrev pub Lies : List E → List (Party E F) → Option ℕ → List (opt.Option (Option T)) → Type 0
  Lies log views None homes = (v : T) × (homes ≡ opt.some (Some v) ∷ []) × (history v ≡ log) × (fixed v ≡ fixed first)
  Lies log views (Some id) homes = (homes ≡ opt.none ∷ []) × ((v : Party E F) × (get_elem? views id ≡ opt.some v) × (v.holds ≡ true))

  -- all parties together: their shares are the whole, and each place since the beginning stands in one tally once
  pub record Shares (log : List E) (holder : Option ℕ) (views : List (Party E F)) : Type 0 where
    pub grown : begins_at ≤ length log
    pub each : (id : ℕ) (v : Party E F) → get_elem? views id ≡ opt.some v → Fits log holder id v
    pub whole : total (λ v. v.share) views ≡ 2 ^ 32
    pub once : (x : ℕ) → total (λ v. times x v.tally) views ≡ times x (places begins_at (length log - begins_at))

  -- the rule: there is one history, of which each party has seen a beginning; the value with that history is in the slot while
  -- the turn is free, and else with the one party that has the turn
  pub record Turns (s : State (Option T) (Party E F)) : Type 0 where
    pub log : List E
    pub holder : Option ℕ
    pub words : s.words ≡ turn_of holder ∷ length log ∷ []
    pub lies : Lies log s.views holder s.homes
    pub shares : Shares log holder s.views
