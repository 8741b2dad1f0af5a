-- What a party knows, and sums over all parties.
use Rattle.std.specs.Prelude.{ℕ, ◌+◌, ◌-◌, ◌^◌, true, false, List, [], ◌∷◌, ◌++◌, length, Some, None}
use Rattle.turnstile.specs.Places.{places, longer}
use Rattle.turnstile.specs.declared.parties.Party.{Party}

module _ {E F : Type 0} where
  -- the sum of a number over all parties
  abbrev pub total : (Party E F → ℕ) → List (Party E F) → ℕ
  total f [] = 0
  total f (v ∷ vs) = f v + total f vs

  -- with this history in hand
  abbrev pub holding : Party E F → List E → Party E F
  holding p log = record p { seen = log; holds = true }

  -- the history has grown to this one
  abbrev pub wrote : Party E F → List E → Party E F
  wrote p log = record p { seen = log; tally = p.tally ++ places (length p.seen) (length log - length p.seen) }

  -- without the value
  abbrev pub at_rest : Party E F → Party E F
  at_rest p = record p { holds = false }

  -- with this history seen
  abbrev pub has_seen : Party E F → List E → Party E F
  has_seen p log = record p { seen = log }

  -- the first party, with the whole share
  abbrev pub newcomer : List E → F → Party E F
  newcomer log fixed = record { share = 2 ^ 32; seen = log; told = []; tally = []; fixed = Some fixed; start = length log; holds = false }

  -- the two parts of a party: the first keeps the rest of the share and the tally, the second has one share and no tally
  abbrev pub left_part : Party E F → Party E F
  left_part p = record p { share = p.share - 1 }

  abbrev pub right_part : Party E F → Party E F
  right_part p = record p { share = 1; tally = [] }

  -- what a party knows that takes in another, which it then learns
  abbrev pub joined : Party E F → Party E F → Party E F
  joined p q = record p { share = p.share + q.share; told = q.seen; tally = p.tally ++ q.tally }

  -- what is left of a party that joined another
  abbrev pub spent : Party E F
  spent = record { share = 0; seen = []; told = []; tally = []; fixed = None; start = 0; holds = false }

  -- what a party knows once it has learned what it was told
  abbrev pub learned : Party E F → Party E F
  learned p = record p { seen = longer p.seen p.told; told = [] }
