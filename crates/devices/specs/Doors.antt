-- Doors: what they tell of each connection that they gave, by its number.
use Rattle.std.specs.Prelude.{◌≡◌, ◌≢◌, ℕ, zero, suc, ◌<◌, List, [], ◌∷◌, ◌++◌, length, map, Option, Some, None}
use Rattle.std.proofs.Common.{refl, arith}
use Rattle.devices.specs.declared.doors.Next.{Next}
use Rattle.devices.specs.declared.doors.Next.TheVariants.{Open, Failed}
use Rattle.devices.specs.declared.sinks.Sink.{Ghosts as SinkGhosts}
use Rattle.devices.specs.declared.sources.Source.{Ghosts as SourceGhosts}
use Rattle.devices.specs.Faults.{Rose}

-- What the two ends of a connection tell: the bytes that the source has left and those that were put into the sink, where
-- they tell them, and their counts of faults.
pub record Ends : Type 0 where
  pub left : Option (List ℕ)
  pub input_faults : ℕ
  pub written : Option (List ℕ)
  pub output_faults : ℕ

abbrev pub ends_of : {I O : Type 0} → SourceGhosts I → SinkGhosts O → I → O → Ends
ends_of source sink input output =
    record { left = source.left input; input_faults = source.faults input; written = sink.written output; output_faults = sink.faults output }

-- What doors tell: what the ends of each connection told when they were given, in the order of giving, and what those of a
-- connection that was taken back told then. A connection's number is its place in the order of giving, from 1.
pub record Connections : Type 0 where
  pub given : List Ends
  pub back : ℕ → Option Ends

-- no connection was given, and none was taken back
pub record Stay (old new : Connections) : Type 0 where
  pub given : new.given ≡ old.given
  pub back : (number : ℕ) → new.back number ≡ old.back number

-- one more connection was given
pub record IsGiven (ends : Ends) (old new : Connections) : Type 0 where
  pub given : new.given ≡ old.given ++ ends ∷ []
  pub back : (number : ℕ) → new.back number ≡ old.back number

-- the connection of this number was taken back
pub record IsBack (number : ℕ) (ends : Ends) (old new : Connections) : Type 0 where
  pub given : new.given ≡ old.given
  pub here : new.back number ≡ Some ends
  pub others : (other : ℕ) → other ≢ number → new.back other ≡ old.back other

-- the next connection is given, or the doors failed
abbrev pub IsNext : {I O : Type 0} → SourceGhosts I → SinkGhosts O → Connections → Next I O → Connections → Type 0
IsNext source sink old (Open input output) new = IsGiven (ends_of source sink input output) old new
IsNext source sink old Failed new = Stay old new

-- the count of faults rises where they failed, and stays where they did not
abbrev pub HasCause : {I O : Type 0} → ℕ → ℕ → Next I O → Type 0
HasCause before now (Open input output) = now ≡ before
HasCause before now Failed = Rose before now

-- what was taken back at a place, from 0
abbrev pub back_at : {P : Type 0} → (P → Option Ends) → List P → ℕ → Option Ends
back_at back [] place = None
back_at back (p ∷ places) zero = back p
back_at back (p ∷ places) (suc place) = back_at back places place

-- what was taken back under a number, from 1
abbrev pub back_under : {P : Type 0} → (P → Option Ends) → List P → ℕ → Option Ends
back_under back places zero = None
back_under back places (suc place) = back_at back places place

-- what doors tell that keep a place for each connection
abbrev pub told_by : {P : Type 0} → (P → Ends) → (P → Option Ends) → List P → Connections
told_by given back places = record { given = map given places; back = back_under back places }

none_at : {P : Type 0} → (given : P → Ends) (back : P → Option Ends) (places : List P) (place : ℕ) → length (map given places) < suc place
    → back_at back places place ≡ None
none_at given back [] place behind = refl
none_at given back (p ∷ places) zero behind = absurd (omega arith)
none_at given back (p ∷ places) (suc place) behind = none_at given back places place (omega arith)

-- a connection that was not given was not taken back
pub none_back : {P : Type 0} → (given : P → Ends) (back : P → Option Ends) (places : List P) (number : ℕ) → length (map given places) < number
    → back_under back places number ≡ None
none_back given back places zero behind = refl
none_back given back places (suc place) behind = none_at given back places place behind
