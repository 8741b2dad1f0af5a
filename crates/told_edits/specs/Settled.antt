-- What became of edits that were asked, one behind another.
use Rattle.std.specs.Prelude.{◌≡◌, ◌⊎◌, ℕ, List, [], ◌∷◌, ◌++◌, None, ⊤}
use Rattle.edits.specs.declared.content.Edit.{Edit}
use Rattle.history.specs.Accepted.{edits_of, named}
use Rattle.history.specs.Events.{History}
use Rattle.history.specs.Legal.{IsLegal}
use Rattle.history.specs.Verdicts.{Repeats, verdict}
use Rattle.office_inputs.specs.declared.refusals.Refusal.{Refusal}
use Rattle.told_edits.specs.Lines.{accepted_line, refused_line}

-- its reference is that of no accepted edit
abbrev pub IsNew : History → Edit → Type 0
IsNew h edit = named (edits_of h.events) edit.reference ≡ None

-- some of these edits, in order, none of which had been accepted
abbrev pub AreNewOnesOf : History → List Edit → List Edit → Type 0
AreNewOnesOf h [] joined = joined ≡ []
AreNewOnesOf h (edit ∷ edits) joined =
    AreNewOnesOf h edits joined ⊎ ((rest : List Edit) × (joined ≡ edit ∷ rest) × IsNew h edit × AreNewOnesOf h edits rest)

-- it is told this number whenever it is sent, whatever is accepted meanwhile
abbrev pub IsKnownAs : History → Edit → ℕ → Type 0
IsKnownAs h edit number =
    (later : History) (more : List Edit) → edits_of later.events ≡ edits_of h.events ++ more → verdict later edit ≡ Repeats number

-- the line tells the number that it is known by, or why it was refused
abbrev pub IsKnownOrRefused : List ℕ → History → Edit → List ℕ → Type 0
IsKnownOrRefused end h edit line =
    ((number : ℕ) × (line ≡ accepted_line end number) × IsKnownAs h edit number) ⊎ ((refusal : Refusal) × (line ≡ refused_line end refusal))

abbrev pub AreKnownOrRefused : (Edit → List ℕ) → History → List Edit → List (List ℕ) → Type 0
AreKnownOrRefused end h [] [] = ⊤
AreKnownOrRefused end h [] (line ∷ lines) = ⊥
AreKnownOrRefused end h (edit ∷ edits) [] = ⊥
AreKnownOrRefused end h (edit ∷ edits) (line ∷ lines) = IsKnownOrRefused (end edit) h edit line × AreKnownOrRefused end h edits lines

-- Edits were asked from one history to another. Those that joined the accepted ones stand behind them; each that was not refused is known
-- from then on; and the history is legal.
pub record AreSettled (end : Edit → List ℕ) (h after : History) (edits : List Edit) (lines : List (List ℕ)) : Type 0 where
  pub joined : List Edit
  pub behind : edits_of after.events ≡ edits_of h.events ++ joined
  pub new : AreNewOnesOf h edits joined
  pub told : AreKnownOrRefused end after edits lines
  pub legal : IsLegal after
