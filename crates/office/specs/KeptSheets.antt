-- What may become of an approved day over a stop.
use Rattle.std.specs.Prelude.{◌≡◌, true, [], ◌∷◌, ◌++◌, Option, ℤ}
use Rattle.edits.specs.declared.content.Edit.{Edit}
use Rattle.fixed_units.specs.Quantities.{SiteNumber}
use Rattle.history.specs.Accepted.{accepted}
use Rattle.history.specs.Events.{History}
use Rattle.history.specs.Rescissions.{takes_back}
use Rattle.office.specs.Steps.{MayBeFound}
use Rattle.records.specs.Sheets.{Record}

-- Beside the accepted edits the opening found one more, which takes the approval of the day back: the one in doubt, or that of the edit
-- whose call was cut off.
pub record FoundRescinded (old : History) (cut : Option Edit) (opened : History) (site : SiteNumber) (day : ℤ) : Type 0 where
  pub found : Record
  pub may_be : MayBeFound old cut found
  pub records : accepted opened.events ≡ accepted old.events ++ found ∷ []
  pub rescinds : takes_back site day found.edit ≡ true
