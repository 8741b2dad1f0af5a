-- What the grammar of the words promises as a whole.
use Rattle.std.specs.Prelude.{◌≡◌, ◌≢◌, List, [], ℕ, All, ⊤}
use Rattle.edits.specs.Texts.{AreInitials, IsReference}
use Rattle.fixed_units.specs.Quantities.{IsDay, IsSite, IsStage, IsStamp}
use Rattle.command_words.specs.Words.{Asked, Given, Journal, Numeric, Station, Column, Sender, Reference, From, To, At, Gage, Graded, IsAsked, IsInRange, Takes, options_of}

-- words ask one thing at most
abbrev pub OneIsAsked : Type 0
OneIsAsked = (words : List (List ℕ)) (one other : Asked) → IsAsked words one → IsAsked words other → one ≡ other

-- what an option can say: any name or text but the empty one, any number that it takes, any site, initials and reference, any day
-- of the calendar, any stamp, stage and grade
abbrev pub CanBeGiven : Given → Type 0
CanBeGiven (Journal name) = name ≢ []
CanBeGiven (Numeric option number) = IsInRange option number
CanBeGiven (Station site) = IsSite site
CanBeGiven (Column name) = name ≢ []
CanBeGiven (Sender letters) = AreInitials letters
CanBeGiven (Reference text) = IsReference text
CanBeGiven (From text) = text ≢ []
CanBeGiven (To day) = IsDay day
CanBeGiven (At instant) = IsStamp instant
CanBeGiven (Gage stage) = IsStage stage
CanBeGiven (Graded grade) = ⊤

-- what can be asked
abbrev pub CanBeAsked : Asked → Type 0
CanBeAsked asked = All CanBeGiven (options_of asked) × Takes asked

-- words ask nothing else
abbrev pub NothingElseIsAsked : Type 0
NothingElseIsAsked = (words : List (List ℕ)) (asked : Asked) → IsAsked words asked → CanBeAsked asked

-- and some words ask each
abbrev pub EachIsAsked : Type 0
EachIsAsked = (asked : Asked) → CanBeAsked asked → (words : List (List ℕ)) × IsAsked words asked
