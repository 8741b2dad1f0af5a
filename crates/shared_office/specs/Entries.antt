-- The list of a shared office: what has happened in it, and among that where its end was told.
use Rattle.std.specs.Prelude.{◌≡◌, ℕ, ◌+◌, ◌-◌, ◌<◌, ◌^◌, Bool, true, false, if◌then◌else◌, List, [], ◌∷◌, ◌++◌, length, map, take, drop, Option, Some, None}
use Rattle.history.specs.After.{go_on}
use Rattle.history.specs.Awaited.{pending_days}
use Rattle.history.specs.Events.{Event, History}
use Rattle.shared_office.specs.declared.entries.Entry.{Entry}
use Rattle.shared_office.specs.declared.entries.Entry.TheVariants.{Happened, Ending}
use Rattle.shared_office.specs.declared.entries.Fixed.{Fixed}

-- what has happened, with the ending behind so many events
abbrev pub entries : List Event → Option ℕ → List Entry
entries events None = map Happened events
entries events (Some n) = map Happened (take n events) ++ Ending ∷ map Happened (drop n events)

-- what has happened, without the ending
abbrev pub events_in : List Entry → List Event
events_in [] = []
events_in (Happened event ∷ more) = event ∷ events_in more
events_in (Ending ∷ more) = events_in more

abbrev pub has_ended : List Entry → Bool
has_ended [] = false
has_ended (Happened event ∷ more) = has_ended more
has_ended (Ending ∷ more) = true

-- what stands before the ending
abbrev pub before_ending : List Entry → List Entry
before_ending [] = []
before_ending (Happened event ∷ more) = Happened event ∷ before_ending more
before_ending (Ending ∷ more) = []

-- the part that never changes
abbrev pub fixed_part : History → Fixed
fixed_part h = record { opened = h.opened; limits = h.limits; format = h.format }

-- the history of a shared office whose list is this one
abbrev pub history_of : Fixed → List Entry → History
history_of fixed list = record { opened = fixed.opened; limits = fixed.limits; format = fixed.format; events = events_in list }

-- a list that goes on by these events
abbrev pub with_events : List Entry → List Event → List Entry
with_events list added = list ++ map Happened added

-- a list in which the end is told, which is told once
abbrev pub with_ending : List Entry → List Entry
with_ending list = if has_ended list then list else list ++ Ending ∷ []

-- the history goes on by these events, and the list with it
abbrev pub GoOn : History → Option ℕ → History → Option ℕ → List Event → Type 0
GoOn old ending new ended added =
    (new ≡ go_on old added) × (ended ≡ ending) × (entries new.events ended ≡ with_events (entries old.events ending) added)

-- the events, a publication of each pending day, and the ending can be counted, whatever is still accepted
abbrev pub CanEnd : History → Type 0
CanEnd h = (h.limits.events < 2 ^ 64 - 1) × (length h.events + length (pending_days h.events) < 2 ^ 64 - 1)
