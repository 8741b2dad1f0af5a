-- An approved day stays as it is over every list of steps that takes its approval not back, and an opening has its sheet.
use Rattle.std.specs.Prelude.{◌≡◌, ◌⊎◌, ℕ, Bool, true, false, List, [], ◌∷◌, ◌++◌, Option, Some, None, ℤ}
use Rattle.std.proofs.Common.{refl, ap, sym, subst, inl, inr, ◌∙◌}
use Rattle.std.proofs.lemmas.List.Elements.{All-cons, All-nil}
use Rattle.approval.specs.Statuses.{Standing, is_approved}
use Rattle.edits.specs.declared.content.Edit.{Edit}
use Rattle.fixed_units.specs.Quantities.{IsDay, SiteNumber}
use Rattle.history.specs.Accepted.{accepted}
use Rattle.history.specs.Events.{History}
use Rattle.history.specs.Legal.{IsLegal}
use Rattle.history.specs.Rescissions.{NoneRescinds, takes_back}
use Rattle.history.specs.Sheets.{Text, shown_at}
use Rattle.history.specs.Statuses.{status_at, stored_sheet}
use Rattle.history.proofs.EventLemmas.{accepted_all}
use Rattle.history.proofs.KeptStationLemmas.{shows_kept}
use Rattle.history.proofs.OpeningLemmas.{IsSame, added_to, opened_day}
use Rattle.office.specs.KeptSheets.{FoundRescinded}
use Rattle.office.specs.Steps.{GoesOver, IsReopened, MayBeFound, Step, added}
use Rattle.office.proofs.CourseLemmas.{adds_steps, legal_steps}
use Rattle.records.specs.Sheets.{Record}
use Rattle.register.specs.Registered.{Registered}

pub same_after : (old new : Registered) (steps : List Step) (site : SiteNumber) (day : ℤ) → GoesOver old steps new → IsLegal old.history → IsDay day
    → is_approved (status_at old.history.events site day) ≡ true → NoneRescinds site day (added steps)
    → IsSame new.history.events old.history.events site day
same_after old new steps site day goes legal is approved none =
    let adds = adds_steps old steps new goes in
    added_to new.history old.history.events adds.records site day (legal_steps old steps new goes legal) is adds.accepted_are approved
    (subst (NoneRescinds site day) (sym adds.edits_are) none)

-- and the same is shown of it
same_text : (a b : List ℕ) → Some a ≡ Some b → Text a ≡ Text b
same_text a b e = cc

pub shown_after : (old new : Registered) (steps : List Step) (site : SiteNumber) (day : ℤ) → GoesOver old steps new → IsLegal old.history → IsDay day
    → is_approved (status_at old.history.events site day) ≡ true → NoneRescinds site day (added steps)
    → shown_at new.history.events site day ≡ shown_at old.history.events site day
shown_after old new steps site day goes legal is approved none =
    let same = same_after old new steps site day goes legal is approved none in
    let still : is_approved (status_at new.history.events site day) ≡ true = ap (λ (s : Standing). is_approved s.status) same.standing ∙ approved in
    let before = shows_kept old.history.limits old.history.format site day old.history.events legal.orderly approved in
    let after = shows_kept new.history.limits new.history.format site day new.history.events (legal_steps old steps new goes legal).orderly still in
    after.2 ∙ same_text after.0 before.0 (sym after.1 ∙ same.sheet ∙ before.1) ∙ sym before.2

-- one record more was found, which takes the approval back or does not
found_one : (old new : History) (cut : Option Edit) (piece : Record) (site : SiteNumber) (day : ℤ) (b : Bool) → takes_back site day piece.edit ≡ b
    → IsLegal new → IsDay day → is_approved (status_at old.events site day) ≡ true → MayBeFound old cut piece
    → accepted new.events ≡ accepted old.events ++ piece ∷ []
    → (stored_sheet new.events site day ≡ stored_sheet old.events site day) ⊎ FoundRescinded old cut new site day
found_one old new cut piece site day true e legal is approved may records =
    inr (record { found = piece; may_be = may; records = records; rescinds = e })
found_one old new cut piece site day false e legal is approved may records =
    inl (added_to new old.events (piece ∷ []) site day legal is records approved
    (All-cons (λ edit. takes_back site day edit ≡ false) piece.edit [] e (All-nil (λ edit. takes_back site day edit ≡ false)))).sheet

pub sheet_on_opening : (old new : Registered) (cut : Option Edit) (found : Option Record) (site : SiteNumber) (day : ℤ) → IsReopened old cut found new
    → IsLegal new.history → IsDay day → is_approved (status_at old.history.events site day) ≡ true
    → (stored_sheet new.history.events site day ≡ stored_sheet old.history.events site day) ⊎ FoundRescinded old.history cut new.history site day
sheet_on_opening old new cut None site day is legal k approved =
    inl (ap (λ (x : History). stored_sheet x.events site day) is.0 ∙ (opened_day old.history.events site day).sheet)
sheet_on_opening old new cut (Some piece) site day is legal k approved =
    found_one old.history new.history cut piece site day (takes_back site day piece.edit) refl legal k approved is.0
    (ap (λ (x : History). accepted x.events) is.1 ∙ accepted_all (accepted old.history.events ++ piece ∷ []))
