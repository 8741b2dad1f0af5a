-- How far the record of a day is approved, and what an accepted edit makes of it.
use Rattle.std.specs.Prelude.{ℕ, Bool, true, false, not, ◌&&◌, if◌then◌else◌, List, codes, bytes_eq, Option, Some, None, option_map, find, count_by, ℤ, int_le}
use Rattle.approval.specs.declared.objections.Objection.{Objection}
use Rattle.approval.specs.declared.objections.Objection.TheVariants.{NotInReview, SamePerson, NotApproved, AlreadyApproved}
use Rattle.approval.specs.declared.status.Status.{Status}
use Rattle.approval.specs.declared.status.Status.TheVariants.{Working, InReview, Approved}
use Rattle.edits.specs.declared.content.Edit.{Edit}
use Rattle.edits.specs.declared.content.What.{What}
use Rattle.edits.specs.declared.content.What.TheVariants.{Review, Decide}
use Rattle.edits.specs.declared.decisions.Decision.TheVariants.{Approve, Rescind}
use Rattle.fixed_units.specs.Calendar.{calendar}
use Rattle.fixed_units.specs.Quantities.{SiteNumber, same_site}

-- a status, as replies have it
abbrev pub status_name : Status → List ℕ
status_name Working = codes "working"
status_name (InReview by) = codes "review"
status_name (Approved by) = codes "approved"

abbrev pub is_in_review : Status → Bool
is_in_review Working = false
is_in_review (InReview by) = true
is_in_review (Approved by) = false

abbrev pub is_approved : Status → Bool
is_approved Working = false
is_approved (InReview by) = false
is_approved (Approved by) = true

-- the person put it in review
abbrev pub is_reviewed_by : List ℕ → Status → Bool
is_reviewed_by person Working = false
is_reviewed_by person (InReview by) = bytes_eq by person
is_reviewed_by person (Approved by) = false

-- the status of a day, and the number of the accepted edit that gave it: 0 where the record is being worked
pub record Standing : Type 0 where
  pub status : Status
  pub edit : ℕ

abbrev pub worked : Standing
worked = record { status = Working; edit = 0 }

-- the day is one of those from one to another
abbrev pub spans : ℤ → ℤ → ℤ → Bool
spans from to day = int_le from day && int_le day to

-- What an accepted edit of a number by a person makes of a day of its site, which it changes or not: a review puts its days in review,
-- in place of an earlier reviewer's; an approval approves them, and a rescission gives them back to be worked; and a day in review that
-- any other edit changes is worked again.
abbrev pub after_what : ℕ → List ℕ → What → Bool → ℤ → Standing → Standing
after_what number by (Review from to) changed day s = if spans from to day then record { status = InReview by; edit = number } else s
after_what number by (Decide from to Approve) changed day s = if spans from to day then record { status = Approved by; edit = number } else s
after_what number by (Decide from to Rescind) changed day s = if spans from to day then worked else s
after_what number by _ changed day s = if changed && is_in_review s.status then worked else s

-- and of a day of any site
abbrev pub standing_after : ℕ → Edit → Bool → SiteNumber → ℤ → Standing → Standing
standing_after number edit changed site day s =
    if same_site edit.site site then after_what number edit.by edit.what changed day s else s

-- the first of the days from one to another of which a test holds
abbrev pub first_day_of : (ℤ → Bool) → ℤ → ℤ → Option ℤ
first_day_of test from to = find (λ day. spans from to day && test day) calendar

-- the first of two objections, asked in this order
abbrev pub or_else : Option Objection → Option Objection → Option Objection
or_else None later = later
or_else (Some objection) later = Some objection

-- Why a person may not make this edit, by the statuses of the days of its site: an approval needs each of its days in review, and then
-- that none of them was put in review by the approver; a rescission needs each approved; a review needs none approved.
abbrev pub objection_of : (ℤ → Status) → List ℕ → What → Option Objection
objection_of at by (Review from to) = option_map AlreadyApproved (first_day_of (λ day. is_approved (at day)) from to)
objection_of at by (Decide from to Approve) =
    or_else (option_map NotInReview (first_day_of (λ day. not (is_in_review (at day))) from to))
    (option_map SamePerson (first_day_of (λ day. is_reviewed_by by (at day)) from to))
objection_of at by (Decide from to Rescind) = option_map NotApproved (first_day_of (λ day. not (is_approved (at day))) from to)
objection_of at by _ = None

-- the first day of a list that is approved
abbrev pub first_approved : (ℤ → Status) → List ℤ → Option ℤ
first_approved at days = find (λ day. is_approved (at day)) days

-- how many days of the calendar are approved
abbrev pub approved_days : (ℤ → Status) → ℕ
approved_days at = count_by (λ day. is_approved (at day)) calendar

-- the edit takes the approval of the day back
abbrev pub rescinds : What → ℤ → Bool
rescinds (Decide from to Rescind) day = spans from to day
rescinds _ day = false
