-- What a stop leaves.
use Rattle.std.specs.Prelude.{◌≡◌, ◌⊎◌, ℕ, List, [], ◌∷◌, ◌++◌, Option, Some, None}
use Rattle.history.specs.Accepted.{accepted}
use Rattle.history.specs.After.{doubt, go_on}
use Rattle.history.specs.Events.{Event, Accepted, Published, Faulted, History}
use Rattle.journal.specs.JournalBytes.{StandsFor}
use Rattle.records.specs.Sheets.{Record}

-- between two calls: the journal of the accepted edits, or of these and the one in doubt
abbrev pub IsLeft : History → List ℕ → Type 0
IsLeft h image = StandsFor h.format (accepted h.events) (doubt h) image

-- the record that may stand in the journal before this event has come
abbrev pub in_flight : Event → Option Record
in_flight (Accepted piece) = Some piece
in_flight (Published site day) = None
in_flight (Faulted left) = left

-- the record that may stand in the journal behind those of the accepted edits, when these events are still to come: the one in doubt, or
-- the one that is in flight
abbrev pub MayFollow : History → List Event → Record → Type 0
MayFollow h [] piece = doubt h ≡ Some piece
MayFollow h (event ∷ behind) piece = (doubt h ≡ Some piece) ⊎ (in_flight event ≡ Some piece)

-- what a stop leaves when these events are still to come: the same, or the journal of the accepted edits and the one that is in flight
abbrev pub IsLeftBefore : History → List Event → List ℕ → Type 0
IsLeftBefore h [] image = IsLeft h image
IsLeftBefore h (event ∷ behind) image = IsLeft h image ⊎ StandsFor h.format (accepted h.events) (in_flight event) image

-- What a stop at some moment leaves while a history goes on to another: what it leaves at some point on the way.
pub record IsLeftBetween (h after : History) (image : List ℕ) : Type 0 where
  pub since : List Event
  pub behind : List Event
  pub after_is : after.events ≡ (h.events ++ since) ++ behind
  pub left : IsLeftBefore (go_on h since) behind image
