use Rattle.std.specs.Prelude.{◌≡◌, ◌++◌, true, List, ℤ}
use Rattle.std.proofs.Common.{ap, subst, ◌∙◌}
use Rattle.approval.specs.Statuses.{is_approved}
use Rattle.fixed_units.specs.Quantities.{IsDay, SiteNumber}
use Rattle.history.specs.Accepted.{edits_of}
use Rattle.history.specs.Awaited.{inputs_at}
use Rattle.history.specs.Events.{Event, History}
use Rattle.history.specs.Legal.{IsLegal, IsOrderly}
use Rattle.history.specs.Rescissions.{NoneRescinds}
use Rattle.history.specs.Statuses.{standing_at, status_at, stored_sheet}
use Rattle.history.proofs.ApprovedLemmas.{Stays, approved_stays, sheet_stays}
use Rattle.history.proofs.laws.an_approved_day_does_not_move.Goals as goal

stays : (h : History) (events since : List Event) (site : SiteNumber) (day : ℤ) → IsLegal h → (is : IsDay day) → h.events ≡ events ++ since
    → is_approved (status_at events site day) ≡ true → NoneRescinds site day (edits_of since) → Stays h.limits h.format site day is events (events ++ since)
stays h events since site day legal is e approved none =
    approved_stays h.limits h.format site day is since events (subst (IsOrderly h.limits h.format) e legal.orderly) approved none

pub returns-clause-standing : goal.returns-clause-standing
returns-clause-standing c h events since site day legal is e approved none =
    ap (λ (l : List Event). standing_at l site day) e ∙ (stays h events since site day legal is e approved none).standing

pub returns-clause-inputs : goal.returns-clause-inputs
returns-clause-inputs c h events since site day legal is e approved none =
    ap (λ (l : List Event). inputs_at l site day) e ∙ (stays h events since site day legal is e approved none).inputs

pub returns-clause-sheet : goal.returns-clause-sheet
returns-clause-sheet c h events since site day legal is e approved none =
    ap (λ (l : List Event). stored_sheet l site day) e
    ∙ sheet_stays events since site day (stays h events since site day legal is e approved none).standing
