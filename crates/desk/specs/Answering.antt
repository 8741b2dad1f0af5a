-- Which bytes are told, and what is known of a day.
use Rattle.std.specs.Prelude.{◌≡◌, ◌⊎◌, ℕ, List, Option, Some, None, false, ℤ}
use Rattle.desk.specs.Replies.{fault_reply}
use Rattle.desk.specs.Replying.{memory_reply}
use Rattle.desk.specs.declared.answers.Told.{Told}
use Rattle.desk.specs.declared.answers.Told.TheVariants as told
use Rattle.fixed_units.specs.Quantities.{SiteNumber}
use Rattle.history.specs.Awaited as days
use Rattle.history.specs.Awaited.{DayAnswer, answer_at}
use Rattle.history.specs.Events.{Event}
use Rattle.history.specs.Statuses.{status_at}
use Rattle.http_api.specs.Replies.{bytes_of}
use Rattle.http_api.specs.declared.days.DayAnswer.{DayAnswer as Answer}
use Rattle.http_api.specs.declared.days.DayAnswer.TheVariants as answers
use Rattle.http_api.specs.declared.days.DayReply.{DayReply}
use Rattle.http_api.specs.declared.replies.Reply.{Reply}
use Rattle.http_api.specs.declared.replies.Reply.TheVariants as replies
use Rattle.office_inputs.specs.declared.refusals.Refusal.{Refusal}

-- the bytes that are told: a reply that was made, or one of those that stand ready
abbrev pub told_bytes : Told → List ℕ → List ℕ
told_bytes told.Made reply = reply
told_bytes (told.JournalFault in_doubt) reply = fault_reply in_doubt
told_bytes told.NoMemory reply = memory_reply

-- the reply to an edit that is accepted under this number, or, where none is given, the text
abbrev pub acceptance_or : Option ℕ → List ℕ → List ℕ
acceptance_or None text = text
acceptance_or (Some number) text = bytes_of (replies.Edit number false)

-- a reply was made, or there was no memory for it
abbrev pub IsMade : Reply → List ℕ → Type 0
IsMade reply bytes = (bytes ≡ bytes_of reply) ⊎ (bytes ≡ memory_reply)

-- what is told of a refused edit
abbrev pub IsRefusedBy : Refusal → List ℕ → Type 0
IsRefusedBy refusal bytes = (bytes ≡ bytes_of (replies.Refused refusal)) ⊎ (bytes ≡ memory_reply)

-- the answer of the history that is told as this one
abbrev pub answer_of : Answer → DayAnswer
answer_of (answers.Pending edit) = days.Pending edit
answer_of (answers.Computed value) = days.Computed value.now

-- what is known of a day of a site: the history's answer, and its status
pub record IsKnown (events : List Event) (site : SiteNumber) (number : ℤ) (known : DayReply) : Type 0 where
  pub day : known.day ≡ number
  pub answer : answer_of known.answer ≡ answer_at events site number
  pub status : known.status ≡ status_at events site number
