-- The rows of a daily table, one day after another, and the replies for days.
use Rattle.std.specs.Prelude.{◌≡◌, ℕ, Bool, true, false, List, [], ◌++◌, map, Option, Some, None, is_some, option_map, ℤ, pos, ◌+ℤ◌, ◌≤ℤ◌, ◌<ℤ◌}
use Rattle.std.proofs.Common.{Bor, arith, refl, ap, sym, ◌∙◌, append_assoc}
use Rattle.std.specs.List.{flat_map}
use Rattle.std.proofs.lemmas.Int.{ints}
use Rattle.std.proofs.lemmas.List.{append-nil}
use Rattle.approval.specs.declared.status.Status.{Status}
use Rattle.depend.specs.Compared.{days_within}
use Rattle.depend.proofs.CalendarLemmas.{within_cons, within_none}
use Rattle.desk.specs.Answering.{IsKnown, answer_of}
use Rattle.desk.specs.Replies.{answer_bytes, day_reply, sheet_reply, table_reply}
use Rattle.fixed_units.specs.Quantities.{IsDay, SiteNumber, first_day}
use Rattle.history.specs.Awaited.{answer_at}
use Rattle.history.specs.Events.{Event}
use Rattle.history.specs.Sheets.{Text}
use Rattle.history.specs.Statuses.{status_at}
use Rattle.http_api.specs.Days.{answer_members, status_member}
use Rattle.http_api.specs.Replies.{bytes_of}
use Rattle.http_api.specs.Tables.{Row, row_of}
use Rattle.http_api.specs.declared.days.DayAnswer.{DayAnswer as Answer}
use Rattle.http_api.specs.declared.days.DayAnswer.TheVariants as answers
use Rattle.http_api.specs.declared.days.DayReply.{DayReply}
use Rattle.http_api.specs.declared.replies.Reply.TheVariants as replies

-- the rows that were gathered are those of the days before the next one
pub record AreGathered (rows_on : ℤ → List Row) (first last next : ℤ) (rows : List Row) : Type 0 where
  pub low : first_day ≤ℤ next
  pub rest : rows ++ flat_map rows_on (days_within next last) ≡ flat_map rows_on (days_within first last)

pub gathered_first : (rows_on : ℤ → List Row) (first last next : ℤ) (rows : List Row) → IsDay first → next ≡ first → rows ≡ []
    → AreGathered rows_on first last next rows
gathered_first rows_on first last next rows h e none =
    rw e (record { low = h.low; rest = ap (λ (x : List Row). x ++ flat_map rows_on (days_within first last)) none })

gathered_next : (rows_on : ℤ → List Row) (first last next : ℤ) (rows more : List Row) → next ≤ℤ last → more ≡ rows ++ rows_on next
    → AreGathered rows_on first last next rows → AreGathered rows_on first last (next +ℤ pos 1) more
gathered_next rows_on first last next rows more l m h =
    let rest = flat_map rows_on (days_within (next +ℤ pos 1) last) in
    record {
      low = (let a = h.low in omega (arith, ints));
      rest =
          ap (λ (x : List Row). x ++ rest) m
          ∙ append_assoc rows (rows_on next) rest
          ∙ ap (λ (days : List ℤ). rows ++ flat_map rows_on days) (sym (within_cons next last l))
          ∙ h.rest;
    }

pub gathered_after : (rows_on : ℤ → List Row) (first last number next : ℤ) (rows more : List Row) → number ≤ℤ last → next ≡ number +ℤ pos 1
    → more ≡ rows ++ rows_on number → AreGathered rows_on first last number rows → AreGathered rows_on first last next more
gathered_after rows_on first last number next rows more l e m h = rw e (gathered_next rows_on first last number rows more l m h)

pub gathered_last : (rows_on : ℤ → List Row) (first last next : ℤ) (rows : List Row) → last <ℤ next → AreGathered rows_on first last next rows
    → rows ≡ flat_map rows_on (days_within first last)
gathered_last rows_on first last next rows l h =
    sym (append-nil rows) ∙ ap (λ (days : List ℤ). rows ++ flat_map rows_on days) (sym (within_none next last l)) ∙ h.rest

-- ---- the replies

-- what is known of a day is told as the history answers it
told_day : (known : DayReply) → bytes_of (replies.Day known) ≡ day_reply known.status (answer_of known.answer)
unfolding bytes_of
told_day known = by known.answer
  where
    by : (answer : Answer) → answer_bytes (answer_members answer ++ status_member known.status) ≡ day_reply known.status (answer_of answer)
    by (answers.Pending number) = refl
    by (answers.Computed value) = refl

pub day_told : (events : List Event) (site : SiteNumber) (day : ℤ) (known : DayReply) → IsKnown events site day known
    → bytes_of (replies.Day known) ≡ day_reply (status_at events site day) (answer_at events site day)
day_told events site day known h =
    told_day known
    ∙ ap (λ (s : Status). day_reply s (answer_of known.answer)) h.status
    ∙ ap (day_reply (status_at events site day)) h.answer

-- no table is told where the site is not kept, and else one of the rows
pub no_table : (kept : Bool) (rows : List Row) → kept ≡ false → bytes_of replies.NoStation ≡ table_reply kept rows
no_table false rows e = refl
no_table true rows e = absurd (cc)

pub table_told : (kept : Bool) (days : Bor (List DayReply)) (rows : List Row) → kept ≡ true → map row_of days.now ≡ rows
    → bytes_of (replies.Daily days) ≡ table_reply kept rows
unfolding bytes_of
table_told false days rows e same = absurd (cc)
table_told true days rows e same = ap (λ (r : List Row). table_reply true r) same

-- a site is kept exactly where its station is found
pub is_kept : {X Y : Type 0} (f : X → Y) (found : Option X) (station : Option Y) → option_map f found ≡ station → is_some station ≡ is_some found
is_kept f None station e = ap is_some (sym e)
is_kept f (Some x) station e = ap is_some (sym e)

-- a sheet is told as text
pub sheet_made : (text : Bor (List ℕ)) → bytes_of (replies.Sheet text) ≡ sheet_reply (Text text.now)
unfolding bytes_of
sheet_made text = refl
