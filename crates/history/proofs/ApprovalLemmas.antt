-- What approves a day: an edit that leaves it approved found it so, or is an approval of days among which it is. And the sheets of that.
use Rattle.std.specs.Prelude.{◌≡◌, ℕ, zero, suc, ◌+◌, ◌-◌, ◌==◌, ◌<◌, Bool, true, false, ◌&&◌, cond, List, [], ◌∷◌, ◌++◌, length, filter, slice_get, Some, None, is_some, ◌⊎◌, ℤ, pos, negsuc, ◌+ℤ◌, ◌-ℤ◌, ◌≤ℤ◌, ◌<ℤ◌, unsigned_abs}
use Rattle.std.proofs.Common.{arith, refl, ap, subst, inl, inr, ◌∙◌}
use Rattle.std.proofs.lemmas.Bool.Decides.{nat_tests}
use Rattle.std.proofs.lemmas.Int.{ints, by_lt_z}
use Rattle.std.proofs.lemmas.List.{length-map}
use Rattle.std.proofs.lemmas.Option.{slice_get-get_or}
use Rattle.approval.specs.Statuses.{Standing, after_what, is_approved, is_in_review, spans, worked}
use Rattle.approval.specs.declared.status.Status.TheVariants.{InReview, Approved}
use Rattle.edits.specs.Lawful.{IsLawful, IsReviewSpan}
use Rattle.edits.specs.declared.content.What.{What}
use Rattle.edits.specs.declared.content.What.TheVariants.{Review, Decide}
use Rattle.edits.specs.declared.decisions.Decision.{Decision}
use Rattle.edits.specs.declared.decisions.Decision.TheVariants.{Approve, Rescind}
use Rattle.fixed_units.specs.Calendar.{calendar, days_from, days_of_calendar}
use Rattle.fixed_units.specs.Quantities.{SiteNumber, first_day}
use Rattle.fixed_units.proofs.CalendarLemmas.{filter_days_none}
use Rattle.history.specs.Events.{Event}
use Rattle.history.specs.Legal.{HasItsSheets}
use Rattle.history.specs.Statuses.{sheet_by}
use Rattle.history.specs.Verdicts.{sheets_of}
use Rattle.records.specs.Sheets.{AreSheetsOf, Record}

-- the days from one to another
pub spans_is : (from to day : ℤ) → spans from to day ≡ true → (from ≤ℤ day) × (day ≤ℤ to)
spans_is from to day h = (grind (arith, ints), grind (arith, ints))

pub spans_yes : (from to day : ℤ) → from ≤ℤ day → day ≤ℤ to → spans from to day ≡ true
spans_yes from to day a b = grind (arith, ints)

-- what an edit makes of a day that is approved behind it: as it stood before, or approved by this very edit
pub record IsApproval (number : ℕ) (what : What) (day : ℤ) (t : Standing) : Type 0 where
  pub from : ℤ
  pub to : ℤ
  pub what_is : what ≡ Decide from to Approve
  pub within : spans from to day ≡ true
  pub edit_is : t.edit ≡ number

other_made : (b : Bool) (number : ℕ) (what : What) (day : ℤ) (s : Standing) → is_approved (cond b worked s).status ≡ true
    → (cond b worked s ≡ s) ⊎ IsApproval number what day (cond b worked s)
other_made true number what day s h = absurd (cc)
other_made false number what day s h = inl refl

reviewed_made : (b : Bool) (number : ℕ) (by : List ℕ) (what : What) (day : ℤ) (s : Standing)
    → is_approved (cond b (record { status = InReview by; edit = number }) s).status ≡ true
    → (cond b (record { status = InReview by; edit = number }) s ≡ s) ⊎ IsApproval number what day (cond b (record { status = InReview by; edit = number }) s)
reviewed_made true number by what day s h = absurd (cc)
reviewed_made false number by what day s h = inl refl

approved_made : (b : Bool) (number : ℕ) (by : List ℕ) (from to day : ℤ) (s : Standing) → spans from to day ≡ b
    → (cond b (record { status = Approved by; edit = number }) s ≡ s) ⊎ IsApproval number (Decide from to Approve) day (cond b (record { status = Approved by; edit = number }) s)
approved_made true number by from to day s e = inr (record { from = from; to = to; what_is = refl; within = e; edit_is = refl })
approved_made false number by from to day s e = inl refl

decided_made : (number : ℕ) (by : List ℕ) (from to : ℤ) (decision : Decision) (changed : Bool) (day : ℤ) (s : Standing)
    → is_approved (after_what number by (Decide from to decision) changed day s).status ≡ true
    → (after_what number by (Decide from to decision) changed day s ≡ s) ⊎ IsApproval number (Decide from to decision) day (after_what number by (Decide from to decision) changed day s)
decided_made number by from to Approve changed day s h = approved_made (spans from to day) number by from to day s refl
decided_made number by from to Rescind changed day s h = other_made (spans from to day) number (Decide from to Rescind) day s h

pub made_by : (number : ℕ) (by : List ℕ) (what : What) (changed : Bool) (day : ℤ) (s : Standing) → is_approved (after_what number by what changed day s).status ≡ true
    → (after_what number by what changed day s ≡ s) ⊎ IsApproval number what day (after_what number by what changed day s)
made_by number by (Review from to) changed day s h = reviewed_made (spans from to day) number by _ day s h
made_by number by (Decide from to decision) changed day s h = decided_made number by from to decision changed day s h
made_by number by _ changed day s h = other_made (changed && is_in_review s.status) number _ day s h

-- how far one day is behind another
pub distance : (z : ℤ) → pos 0 ≤ℤ z → pos (unsigned_abs z) ≡ z
distance (pos n) h = refl
distance (negsuc n) h = absurd (omega (arith, ints))

-- the record of the edit that is accepted last
last_get : (xs : List Record) (x : Record) → slice_get (xs ++ x ∷ []) (length xs) ≡ Some x
last_get [] x = refl
last_get (y ∷ xs) x = last_get xs x

pub last_numbered : (xs : List Record) (x : Record) → cond (length xs + 1 == 0) None (slice_get (xs ++ x ∷ []) (length xs + 1 - 1)) ≡ Some x
last_numbered xs x =
    let test : (length xs + 1 == 0) ≡ false = grind (arith, nat_tests) in
    let place : length xs + 1 - 1 ≡ length xs = omega arith in
    rw (test, place) (last_get xs x)

-- how many days of the calendar are from one to another
passed_step : (b : Bool) (day : ℤ) (days : List ℤ) → b ≡ false → length (cond b (day ∷ days) days) ≡ length days
passed_step b day days e = rw e refl

taken_step : (b : Bool) (day : ℤ) (days : List ℤ) → b ≡ true → length (cond b (day ∷ days) days) ≡ suc (length days)
taken_step b day days e = rw e refl

spans_not_yet : (from to day : ℤ) → day <ℤ from → spans from to day ≡ false
spans_not_yet from to day l = grind (arith, ints)

spans_no_more : (from to day : ℤ) → to <ℤ day → spans from to day ≡ false
spans_no_more from to day l = grind (arith, ints)

counted_inside : (from to day : ℤ) (n : ℕ) → from ≤ℤ day → day ≤ℤ (to +ℤ pos 1) → to <ℤ (day +ℤ pos n)
    → pos (length (filter (spans from to) (days_from day n))) ≡ (to -ℤ day) +ℤ pos 1
unfolding days_from
counted_inside from to day zero a b c = omega (arith, ints, b, c)
counted_inside from to day (suc n) a b c =
    by_lt_z to day
    (λ l.
    let none : filter (spans from to) (days_from (day +ℤ pos 1) n) ≡ [] =
    filter_days_none (spans from to) (day +ℤ pos 1) n (λ d k. let low = k.low in spans_no_more from to d (omega (arith, ints, low, l))) in
    let few = passed_step (spans from to day) day (filter (spans from to) (days_from (day +ℤ pos 1) n)) (spans_no_more from to day l) ∙ ap length none in
    omega (arith, ints, few, b, l))
    (λ l.
    let more = taken_step (spans from to day) day (filter (spans from to) (days_from (day +ℤ pos 1) n)) (spans_yes from to day a l) in
    let rest = counted_inside from to (day +ℤ pos 1) n (omega (arith, ints, a)) (omega (arith, ints, l)) (omega (arith, ints, c)) in
    omega (arith, ints, more, rest))

counted_from : (from to day : ℤ) (n : ℕ) → day ≤ℤ from → from ≤ℤ to → to <ℤ (day +ℤ pos n)
    → pos (length (filter (spans from to) (days_from day n))) ≡ (to -ℤ from) +ℤ pos 1
unfolding days_from
counted_from from to day zero a o c = absurd (omega (arith, ints, a, o, c))
counted_from from to day (suc n) a o c =
    by_lt_z day from
    (λ l.
    let same = passed_step (spans from to day) day (filter (spans from to) (days_from (day +ℤ pos 1) n)) (spans_not_yet from to day l) in
    let rest = counted_from from to (day +ℤ pos 1) n (omega (arith, ints, l)) o (omega (arith, ints, c)) in
    omega (arith, ints, same, rest))
    (λ l.
    let here : day ≡ from = omega (arith, ints, a, l) in
    let count = counted_inside from to day (suc n) l (omega (arith, ints, here, o)) c in
    omega (arith, ints, count, here))

count_spanned : (from to : ℤ) → IsReviewSpan from to → pos (length (filter (spans from to) calendar)) ≡ (to -ℤ from) +ℤ pos 1
unfolding calendar
count_spanned from to span =
    let low = span.begins.low in
    let high = span.ends.high in
    counted_from from to first_day days_of_calendar (omega (arith, ints, low)) span.ordered (omega (arith, ints, high))

-- the sheets that an edit is given are as many as it approves days, and so are those of a record
decided_sheets : (events : List Event) (site : SiteNumber) (from to : ℤ) (decision : Decision) → IsReviewSpan from to
    → HasItsSheets (Decide from to decision) (sheets_of events site (Decide from to decision))
decided_sheets events site from to Approve span =
    ap pos (length-map (filter (spans from to) calendar) _) ∙ count_spanned from to span
decided_sheets events site from to Rescind span = refl

pub made_sheets : (events : List Event) (site : SiteNumber) (what : What) → IsLawful what → HasItsSheets what (sheets_of events site what)
made_sheets events site (Decide from to decision) l = decided_sheets events site from to decision l
made_sheets events site _ l = refl

decided_fit : (from to : ℤ) (decision : Decision) (sheets : List (List ℕ)) → AreSheetsOf (Decide from to decision) sheets → HasItsSheets (Decide from to decision) sheets
decided_fit from to Approve sheets f = f.one_a_day
decided_fit from to Rescind sheets f = f

pub sheets_fit : (what : What) (sheets : List (List ℕ)) → AreSheetsOf what sheets → HasItsSheets what sheets
sheets_fit (Decide from to decision) sheets f = decided_fit from to decision sheets f
sheets_fit _ sheets f = f

-- so each day that it approves has one
spanned_sheet : (from to day : ℤ) (sheets : List (List ℕ)) → HasItsSheets (Decide from to Approve) sheets → spans from to day ≡ true
    → is_some (sheet_by (Decide from to Approve) sheets day) ≡ true
spanned_sheet from to day sheets fit within =
    let a = (spans_is from to day within).0 in
    let b = (spans_is from to day within).1 in
    let k = unsigned_abs (day -ℤ from) in
    let far : pos k ≡ day -ℤ from = distance (day -ℤ from) (omega (arith, ints, a)) in
    let few : k < length sheets = omega (arith, ints, far, fit, b) in
    ap (λ (test : Bool). is_some (cond test (slice_get sheets k) None)) within ∙ ap is_some (slice_get-get_or sheets k [] few)

pub approved_sheet : (what : What) (sheets : List (List ℕ)) (from to day : ℤ) → what ≡ Decide from to Approve → HasItsSheets what sheets → spans from to day ≡ true
    → is_some (sheet_by what sheets day) ≡ true
approved_sheet what sheets from to day e fit within =
    ap (λ (w : What). is_some (sheet_by w sheets day)) e
    ∙ spanned_sheet from to day sheets (subst (λ (w : What). HasItsSheets w sheets) e fit) within
