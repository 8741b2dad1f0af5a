-- An approved day keeps its status, its inputs and its sheet until a rescission of it is accepted.
use Rattle.std.specs.Prelude.{◌≡◌, ℕ, zero, suc, ◌+◌, ◌-◌, ◌==◌, ◌≤◌, ◌<◌, Bool, true, false, not, ◌&&◌, ◌||◌, cond, List, [], ◌∷◌, ◌++◌, length, map, filter, find, reverse, slice_get, Option, Some, None, ℤ}
use Rattle.std.specs.List.{list_any}
use Rattle.std.proofs.Common.{arith, refl, ap, sym, subst, ◌∙◌}
use Rattle.std.proofs.lemmas.Bool.{false≢true, false_from_ne_true}
use Rattle.std.proofs.lemmas.List.{append-nil, append_assoc, length-map, length-reverse}
use Rattle.std.proofs.lemmas.List.Elements.{All-head, All-tail}
use Rattle.approval.specs.Statuses.{Standing, after_what, is_approved, is_in_review, rescinds, spans, worked}
use Rattle.approval.proofs.LawLemmas.{approved_stays as standing_stays}
use Rattle.approval.specs.declared.status.Status.{Status}
use Rattle.approval.specs.declared.status.Status.TheVariants.{InReview, Approved}
use Rattle.edits.specs.declared.content.Edit.{Edit}
use Rattle.edits.specs.declared.content.What.{What}
use Rattle.edits.specs.declared.content.What.TheVariants.{Review, Decide}
use Rattle.edits.specs.declared.decisions.Decision.{Decision}
use Rattle.edits.specs.declared.decisions.Decision.TheVariants.{Approve, Rescind}
use Rattle.fixed_units.specs.Calendar.{calendar}
use Rattle.fixed_units.specs.Quantities.{SiteNumber, IsDay, site_place, same_site}
use Rattle.fixed_units.proofs.CalendarLemmas.{calendar_any}
use Rattle.history.specs.Accepted.{accepted, changes, edit_of, edits_of, record_numbered, stations_at}
use Rattle.history.specs.Awaited.{inputs_at}
use Rattle.history.specs.Events.{Event, Accepted, Published, Faulted}
use Rattle.history.specs.Legal.{IsOrderly, MayBeKept}
use Rattle.history.specs.Rescissions.{NoneRescinds, takes_back}
use Rattle.history.specs.Statuses.{sheet_kept, sheet_of, standing_at, standing_back, standing_of, status_at, stored_sheet}
use Rattle.history.proofs.EventLemmas.{accepted-append, accepted_published, accepted_faulted, stations_accepted}
use Rattle.history.proofs.FirstDayLemmas.{find_filtered}
use Rattle.history.proofs.PendingLemmas.{same_site_by}
use Rattle.history.proofs.StandingLemmas.{standing_accepted}
use Rattle.history.proofs.StationLemmas.{places_equal, unchanged_day}
use Rattle.office_inputs.specs.Changes.{keeps_day}
use Rattle.office_inputs.specs.Stations.{inputs_of_day, stations_of}
use Rattle.office_inputs.specs.declared.limits.Limits.{Limits}
use Rattle.records.specs.Sheets.{Record}
use Rattle.records.specs.declared.formats.Format.{Format}
use Rattle.station_inputs.specs.Stations.{StationState}

-- where no day of the calendar passes a test, none does
none_step : (b : Bool) (x : ℤ) (found : Option ℤ) (any : Bool) → cond b (Some x) found ≡ None → (found ≡ None → any ≡ false) → (b || any) ≡ false
none_step true x found any h rec = absurd (cc)
none_step false x found any h rec = rec h

none_any : (p : ℤ → Bool) (xs : List ℤ) → find p xs ≡ None → list_any p xs ≡ false
none_any p [] h = refl
none_any p (x ∷ xs) h = none_step (p x) x (find p xs) (list_any p xs) h (none_any p xs)

pub none_passes : (p : ℤ → Bool) (day : ℤ) → IsDay day → find p calendar ≡ None → p day ≡ false
none_passes p day k h = false_from_ne_true (p day) (λ t. false≢true (sym (none_any p calendar h) ∙ calendar_any p day k t))

pub none_filtered : (p q : ℤ → Bool) (xs : List ℤ) → find p (filter q xs) ≡ None → find (λ d. q d && p d) xs ≡ None
none_filtered p q xs h = sym (find_filtered p q xs) ∙ h

-- a day stands as its site's place tells
standing_back_by : (back : List Edit) (a b : SiteNumber) (day : ℤ) → site_place a ≡ site_place b → standing_back back a day ≡ standing_back back b day
unfolding standing_back
standing_back_by [] a b day e = refl
standing_back_by (edit ∷ back) a b day e = rw (same_site_by edit.site a b e, standing_back_by back a b day e) refl

pub standing_by : (events : List Event) (a b : SiteNumber) (day : ℤ) → site_place a ≡ site_place b → standing_at events a day ≡ standing_at events b day
standing_by events a b day e = standing_back_by (reverse (edits_of events)) a b day e

status_by : (events : List Event) (a b : SiteNumber) (day : ℤ) → site_place a ≡ site_place b → status_at events a day ≡ status_at events b day
status_by events a b day e = ap (λ (s : Standing). s.status) (standing_by events a b day e)

and_false : (b c : Bool) → (b && c) ≡ false → c ≡ true → b ≡ false
and_false true true h e = absurd (false≢true (sym h))
and_false true false h e = absurd (false≢true e)
and_false false c h e = refl

module _ (limits : Limits) (format : Format) (site : SiteNumber) (day : ℤ) (is : IsDay day) where
  -- of its own site it stands as before behind an edit that no status stands against and that does not take its approval back
  own_step : (events : List Event) (piece : Record) (changed b : Bool) → same_site piece.edit.site site ≡ b → MayBeKept limits format events piece
      → is_approved (status_at events site day) ≡ true → (b && rescinds piece.edit.what day) ≡ false
      → cond b (after_what (length (accepted events) + 1) piece.edit.by piece.edit.what changed day (standing_at events site day)) (standing_at events site day)
      ≡ standing_at events site day
  own_step events piece changed true e m approved r =
      let place = places_equal piece.edit.site site e in
      let own = standing_by events piece.edit.site site day place in
      let stays =
      standing_stays (standing_at events piece.edit.site) (length (accepted events) + 1) piece.edit changed site day is
      (ap (λ (s : Standing). is_approved s.status) own ∙ approved) m.statuses r in
      let whole : cond true (after_what (length (accepted events) + 1) piece.edit.by piece.edit.what changed day (standing_at events piece.edit.site day)) (standing_at events piece.edit.site day)
      ≡ standing_at events piece.edit.site day =
      subst (λ (c : Bool). cond c (after_what (length (accepted events) + 1) piece.edit.by piece.edit.what changed day (standing_at events piece.edit.site day)) (standing_at events piece.edit.site day)
      ≡ standing_at events piece.edit.site day) e stays in
      subst (λ (s : Standing). after_what (length (accepted events) + 1) piece.edit.by piece.edit.what changed day s ≡ s) own whole
  own_step events piece changed false e m approved r = refl

  pub approved_step : (events : List Event) (piece : Record) → MayBeKept limits format events piece → is_approved (status_at events site day) ≡ true
      → takes_back site day piece.edit ≡ false → standing_at (events ++ Accepted piece ∷ []) site day ≡ standing_at events site day
  approved_step events piece m approved r =
      standing_accepted events piece site day
      ∙ own_step events piece (changes (stations_at events) piece.edit site day) (same_site piece.edit.site site) refl m approved r

  -- and is not changed
  unlocked_step : (events : List Event) (piece : Record) (b : Bool) → same_site piece.edit.site site ≡ b → MayBeKept limits format events piece
      → is_approved (status_at events site day) ≡ true → (b && not (keeps_day (stations_at events) piece.edit day)) ≡ false
  unlocked_step events piece true e m approved =
      and_false (not (keeps_day (stations_at events) piece.edit day)) (is_approved (status_at events piece.edit.site day))
      (none_passes (λ d. not (keeps_day (stations_at events) piece.edit d) && is_approved (status_at events piece.edit.site d)) day is
      (none_filtered (λ d. is_approved (status_at events piece.edit.site d)) (λ d. not (keeps_day (stations_at events) piece.edit d)) calendar m.unlocked))
      (ap is_approved (status_by events piece.edit.site site day (places_equal piece.edit.site site e)) ∙ approved)
  unlocked_step events piece false e m approved = refl

  pub inputs_step : (events : List Event) (piece : Record) → MayBeKept limits format events piece → is_approved (status_at events site day) ≡ true
      → inputs_at (events ++ Accepted piece ∷ []) site day ≡ inputs_at events site day
  inputs_step events piece m approved =
      ap (λ (l : List StationState). inputs_of_day l site day) (stations_accepted events piece)
      ∙ unchanged_day (stations_at events) piece.edit site day (unlocked_step events piece (same_site piece.edit.site site) refl m approved)

  -- what stays of an approved day
  pub record Stays (before after : List Event) : Type 0 where
    pub standing : standing_at after site day ≡ standing_at before site day
    pub inputs : inputs_at after site day ≡ inputs_at before site day

  behind_one : (events : List Event) (e : Event) (rest : List Event) → Stays events (events ++ e ∷ []) → Stays (events ++ e ∷ []) ((events ++ e ∷ []) ++ rest)
      → Stays events (events ++ e ∷ rest)
  behind_one events e rest one more =
      subst (λ (l : List Event). Stays events l) (append_assoc events (e ∷ []) rest)
      (record { standing = more.standing ∙ one.standing; inputs = more.inputs ∙ one.inputs })

  pub same_records : (events : List Event) (e : Event) → accepted (events ++ e ∷ []) ≡ accepted events → Stays events (events ++ e ∷ [])
  same_records events e same = record {
    standing = ap (λ (ps : List Record). standing_of (map edit_of ps) site day) same;
    inputs = ap (λ (ps : List Record). inputs_of_day (stations_of (map edit_of ps)) site day) same;
  }

  still_approved : (before after : List Event) → Stays before after → is_approved (status_at before site day) ≡ true → is_approved (status_at after site day) ≡ true
  still_approved before after stays approved = ap (λ (s : Standing). is_approved s.status) stays.standing ∙ approved

  orderly_on : (events : List Event) (e : Event) (rest : List Event) → IsOrderly limits format (events ++ e ∷ rest) → IsOrderly limits format ((events ++ e ∷ []) ++ rest)
  orderly_on events e rest k = subst (IsOrderly limits format) (sym (append_assoc events (e ∷ []) rest)) k

  pub approved_stays : (since events : List Event) → IsOrderly limits format (events ++ since) → is_approved (status_at events site day) ≡ true
      → NoneRescinds site day (edits_of since) → Stays events (events ++ since)
  approved_stays [] events k approved none = subst (λ (l : List Event). Stays events l) (sym (append-nil events)) (record { standing = refl; inputs = refl })
  approved_stays (Accepted piece ∷ rest) events k approved none =
      let m = k.accepted events rest piece refl in
      let one : Stays events (events ++ Accepted piece ∷ []) = record {
        standing = approved_step events piece m approved (All-head (λ edit. takes_back site day edit ≡ false) piece.edit (edits_of rest) none);
        inputs = inputs_step events piece m approved;
      } in
      behind_one events (Accepted piece) rest one
      (approved_stays rest (events ++ Accepted piece ∷ []) (orderly_on events (Accepted piece) rest k)
      (still_approved events (events ++ Accepted piece ∷ []) one approved)
      (All-tail (λ edit. takes_back site day edit ≡ false) piece.edit (edits_of rest) none))
  approved_stays (Published own its ∷ rest) events k approved none =
      let one = same_records events (Published own its) (accepted_published events own its) in
      behind_one events (Published own its) rest one
      (approved_stays rest (events ++ Published own its ∷ []) (orderly_on events (Published own its) rest k)
      (still_approved events (events ++ Published own its ∷ []) one approved) none)
  approved_stays (Faulted left ∷ rest) events k approved none =
      let one = same_records events (Faulted left) (accepted_faulted events left) in
      behind_one events (Faulted left) rest one
      (approved_stays rest (events ++ Faulted left ∷ []) (orderly_on events (Faulted left) rest k)
      (still_approved events (events ++ Faulted left ∷ []) one approved) none)

-- the number of a standing is that of an accepted edit
other_within : (b : Bool) (number : ℕ) (s : Standing) → s.edit ≤ number → (cond b worked s).edit ≤ number
other_within true number s l = omega (arith, l)
other_within false number s l = l

set_within : (b : Bool) (number : ℕ) (status : Status) (s : Standing) → s.edit ≤ number → (cond b (record { status = status; edit = number }) s).edit ≤ number
set_within true number status s l = omega arith
set_within false number status s l = l

decided_within : (number : ℕ) (by : List ℕ) (from to : ℤ) (decision : Decision) (changed : Bool) (day : ℤ) (s : Standing) → s.edit ≤ number
    → (after_what number by (Decide from to decision) changed day s).edit ≤ number
decided_within number by from to Approve changed day s l = set_within (spans from to day) number (Approved by) s l
decided_within number by from to Rescind changed day s l = other_within (spans from to day) number s l

what_within : (number : ℕ) (by : List ℕ) (what : What) (changed : Bool) (day : ℤ) (s : Standing) → s.edit ≤ number → (after_what number by what changed day s).edit ≤ number
what_within number by (Review from to) changed day s l = set_within (spans from to day) number (InReview by) s l
what_within number by (Decide from to decision) changed day s l = decided_within number by from to decision changed day s l
what_within number by _ changed day s l = other_within (changed && is_in_review s.status) number s l

step_within : (b : Bool) (number : ℕ) (t s : Standing) → t.edit ≤ number → s.edit ≤ number → (cond b t s).edit ≤ number
step_within true number t s k l = k
step_within false number t s k l = l

within_back : (back : List Edit) (site : SiteNumber) (day : ℤ) → (standing_back back site day).edit ≤ length back
unfolding standing_back
within_back [] site day = omega arith
within_back (edit ∷ older) site day =
    let rest = within_back older site day in
    let before = standing_back older site day in
    let most : before.edit ≤ length older + 1 = omega (arith, rest) in
    let changed = changes (stations_of (reverse older)) edit site day in
    let step = step_within (same_site edit.site site) (length older + 1) (after_what (length older + 1) edit.by edit.what changed day before) before
    (what_within (length older + 1) edit.by edit.what changed day before most) most in
    omega (arith, step)

pub standing_within : (events : List Event) (site : SiteNumber) (day : ℤ) → (standing_at events site day).edit ≤ length (accepted events)
standing_within events site day =
    let l = within_back (reverse (edits_of events)) site day in
    let a = length-reverse (edits_of events) in
    let b = length-map (accepted events) edit_of in
    omega (arith, l, a, b)

-- the first so many stand where they stood
get_front : (xs ys : List Record) (k : ℕ) → k < length xs → slice_get (xs ++ ys) k ≡ slice_get xs k
get_front [] ys k l = absurd (omega (arith, l))
get_front (x ∷ xs) ys zero l = refl
get_front (x ∷ xs) ys (suc k) l = get_front xs ys k (omega (arith, l))

numbered_front : (xs ys : List Record) (n : ℕ) → n ≤ length xs → cond (n == 0) None (slice_get (xs ++ ys) (n - 1)) ≡ cond (n == 0) None (slice_get xs (n - 1))
numbered_front xs ys zero l = refl
numbered_front xs ys (suc k) l =
    let e : suc k - 1 ≡ k = omega arith in
    rw e (ap (λ (o : Option Record). cond (suc k == 0) None o) (get_front xs ys k (omega (arith, l))))

-- the record of an accepted edit stays
pub record_stays : (events since : List Event) (number : ℕ) → number ≤ length (accepted events)
    → record_numbered (events ++ since) number ≡ record_numbered events number
record_stays events since number l =
    ap (λ (ps : List Record). cond (number == 0) None (slice_get ps (number - 1))) (accepted-append events since)
    ∙ numbered_front (accepted events) (accepted since) number l

-- the sheet that is kept of a day stays as long as the day stands as it does
pub sheet_stays : (events since : List Event) (site : SiteNumber) (day : ℤ) → standing_at (events ++ since) site day ≡ standing_at events site day
    → stored_sheet (events ++ since) site day ≡ stored_sheet events site day
sheet_stays events since site day same =
    ap (sheet_kept (events ++ since) site day) same
    ∙ ap (λ (o : Option Record). cond (is_approved (status_at events site day)) (sheet_of o day) None)
    (record_stays events since (standing_at events site day).edit (standing_within events site day))
