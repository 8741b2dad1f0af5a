-- Which of the accepted edits changed a day last.
use Rattle.std.specs.Prelude.{◌≡◌, ℕ, ◌+◌, true, false, List, [], ◌∷◌, ◌++◌, length, ℤ}
use Rattle.edits.specs.declared.content.Edit.{Edit}
use Rattle.fixed_units.specs.Quantities.{SiteNumber}
use Rattle.history.specs.Accepted.{changes}
use Rattle.office_inputs.specs.Stations.{stations_of}

-- none of these edits changes the day, each on the stations in force before it; they come behind others
abbrev pub NoneChanges : SiteNumber → ℤ → List Edit → List Edit → Type 0
NoneChanges site day before [] = Unit {0}
NoneChanges site day before (edit ∷ edits) =
    (changes (stations_of before) edit site day ≡ false) × NoneChanges site day (before ++ edit ∷ []) edits

-- the edit of this number is the last one that changed the day
pub record ChangedLast (edits : List Edit) (site : SiteNumber) (day : ℤ) (number : ℕ) : Type 0 where
  pub older : List Edit
  pub edit : Edit
  pub newer : List Edit
  pub edits_are : edits ≡ older ++ edit ∷ newer
  pub number_is : number ≡ length older + 1
  pub changed : changes (stations_of older) edit site day ≡ true
  pub since : NoneChanges site day (older ++ edit ∷ []) newer
