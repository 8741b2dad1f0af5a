-- Which edits take back the approval of a day of a site.
use Rattle.std.specs.Prelude.{◌≡◌, Bool, false, ◌&&◌, List, All, ℤ}
use Rattle.approval.specs.Statuses.{rescinds}
use Rattle.edits.specs.declared.content.Edit.{Edit}
use Rattle.fixed_units.specs.Quantities.{SiteNumber, same_site}

abbrev pub takes_back : SiteNumber → ℤ → Edit → Bool
takes_back site day edit = same_site edit.site site && rescinds edit.what day

-- none of these edits does
abbrev pub NoneRescinds : SiteNumber → ℤ → List Edit → Type 0
NoneRescinds site day edits = All (λ edit. takes_back site day edit ≡ false) edits
