use Rattle.std.specs.Prelude.{◌≡◌, ◌<◌, true, List, ℤ}
use Rattle.std.proofs.Common.{ap, sym, subst}
use Rattle.approval.specs.Statuses.{is_approved}
use Rattle.fixed_units.specs.Quantities.{IsDay, SiteNumber}
use Rattle.history.specs.Events.{Event, History}
use Rattle.history.specs.Legal.{IsLegal, IsOrderly}
use Rattle.history.specs.Sheets.{IsFromScratch}
use Rattle.history.specs.Statuses.{standing_at, status_at}
use Rattle.register.proofs.StoredLemmas.{Told, own_sheet, stored_since}
use Rattle.register.proofs.laws.a_kept_sheet_is_from_scratch.Goals as goal

from_scratch : (h : History) (site : SiteNumber) (day : ℤ) → IsLegal h → IsDay day → is_approved (status_at h.events site day) ≡ true
    → h.opened < (standing_at h.events site day).edit → IsFromScratch h.events site day
from_scratch h site day legal is approved late =
    let events = ap (λ (x : History). x.events) legal.opened in
    let opened = ap (λ (x : History). x.opened) legal.opened in
    subst (λ (l : List Event). Told h.limits h.format legal.first site day is l) (sym events)
    (stored_since h.limits h.format legal.first site day is legal.since (subst (IsOrderly h.limits h.format) events legal.orderly) legal.made)
    approved (subst (λ n. n < (standing_at h.events site day).edit) opened late)

pub returns-clause-approval : goal.returns-clause-approval
returns-clause-approval c h site day legal is approved late = from_scratch h site day legal is approved late

pub returns-clause-site : goal.returns-clause-site
returns-clause-site c h site day legal is named all approved late =
    own_sheet h.events site day named all (from_scratch h site day legal is approved late)
