-- An office that is opened again on its accepted edits has no more events and pending days than before.
use Rattle.std.specs.Prelude.{◌≡◌, ℕ, ◌+◌, ◌≤◌, Bool, true, false, cond, List, [], ◌∷◌, ◌++◌, length, map, reverse, count_by, Option, Some, None, is_some, is_none, ℤ}
use Rattle.std.proofs.Common.{arith, refl, ap, sym, subst, ◌∙◌, length-append}
use Rattle.std.proofs.lemmas.Bool.{false≢true}
use Rattle.std.proofs.lemmas.List.{append-nil, append_assoc, length-map, map-append, reverse-append, reverse-reverse}
use Rattle.std.proofs.lemmas.List.Sums.{sum_by-cons}
use Rattle.edits.specs.declared.content.Edit.{Edit}
use Rattle.fixed_units.specs.Quantities.{SiteNumber, IsDay}
use Rattle.history.specs.Accepted.{accepted, edit_of, stations_at, changes}
use Rattle.history.specs.After.{after_edit, publication, reopen}
use Rattle.history.specs.Awaited.{SiteDay, awaited_back, awaited, is_day_of, is_pending, pending_days}
use Rattle.history.specs.Events.{Event, Accepted, Published, Faulted, History}
use Rattle.history.specs.Verdicts.{Accepts, record_of, verdict}
use Rattle.history.proofs.EventLemmas.{accepted_all, accepted_accepted, accepted_published, accepted_faulted, awaited_accepted}
use Rattle.history.proofs.PendingLemmas.{pending_more}
use Rattle.office_inputs.specs.Changes.{changed_days}
use Rattle.office_inputs.specs.Stations.{stations_of}
use Rattle.station_inputs.specs.Stations.{StationState}
use Rattle.records.specs.Sheets.{Record}
use Rattle.register.specs.Keeping.{KeepsToTheLimit}
use Rattle.register.proofs.CourseLemmas.{ArePublished}
use Rattle.register.proofs.FaultLemmas.{pending_faulted}
use Rattle.register.proofs.LimitLemmas.{edit_keeps_to, one_fewer, stations_rise}
use Rattle.register.proofs.TurnLemmas.{IsPending}

-- the events of an office that is opened again on the accepted edits
abbrev pub again : List Event → List Event
again events = map Accepted (accepted events)

again_accepted : (events : List Event) (piece : Record) → again (events ++ Accepted piece ∷ []) ≡ again events ++ Accepted piece ∷ []
again_accepted events piece = ap (λ (l : List Record). map Accepted l) (accepted_accepted events piece) ∙ map-append Accepted (accepted events) (piece ∷ [])

again_published : (events : List Event) (site : SiteNumber) (day : ℤ) → again (events ++ Published site day ∷ []) ≡ again events
again_published events site day = ap (λ (l : List Record). map Accepted l) (accepted_published events site day)

again_faulted : (events : List Event) (left : Option Record) → again (events ++ Faulted left ∷ []) ≡ again events
again_faulted events left = ap (λ (l : List Record). map Accepted l) (accepted_faulted events left)

stations_again : (events : List Event) → stations_at (again events) ≡ stations_at events
stations_again events = ap (λ (l : List Record). stations_of (map edit_of l)) (accepted_all (accepted events))

-- a day that is pending is pending again
some_step : (b : Bool) (n m : ℕ) (o p : Option ℕ) → is_some (cond b (Some n) o) ≡ true → (is_some o ≡ true → is_some p ≡ true)
    → is_some (cond b (Some m) p) ≡ true
some_step true n m o p h rec = refl
some_step false n m o p h rec = rec h

published_some : (b : Bool) (o : Option ℕ) → is_some (cond b None o) ≡ true → is_some o ≡ true
published_some true o h = absurd (false≢true h)
published_some false o h = h

again_back : (back : List Event) (site : SiteNumber) (day : ℤ) → is_some (awaited_back back site day) ≡ true → is_pending (again (reverse back)) site day ≡ true
unfolding awaited_back
again_back [] site day h = absurd (false≢true h)
again_back (Accepted piece ∷ back) site day h =
    let older = again (reverse back) in
    ap (λ (l : List Event). is_pending l site day) (ap again (reverse-append (Accepted piece ∷ []) back) ∙ again_accepted (reverse back) piece)
    ∙ ap (λ (o : Option ℕ). is_some o) (awaited_accepted older piece site day)
    ∙ ap (λ (s : List StationState). is_some (cond (changes s piece.edit site day) (Some (length (accepted older) + 1)) (awaited older site day))) (stations_again (reverse back))
    ∙ some_step (changes (stations_at (reverse back)) piece.edit site day) (length (accepted back) + 1) (length (accepted older) + 1) (awaited_back back site day)
    (awaited older site day) h (again_back back site day)
again_back (Published own its ∷ back) site day h =
    ap (λ (l : List Event). is_pending l site day) (ap again (reverse-append (Published own its ∷ []) back) ∙ again_published (reverse back) own its)
    ∙ again_back back site day (published_some (is_day_of own its site day) (awaited_back back site day) h)
again_back (Faulted left ∷ back) site day h =
    ap (λ (l : List Event). is_pending l site day) (ap again (reverse-append (Faulted left ∷ []) back) ∙ again_faulted (reverse back) left)
    ∙ again_back back site day h

pending_again : (events : List Event) (site : SiteNumber) (day : ℤ) → is_pending events site day ≡ true → is_pending (again events) site day ≡ true
pending_again events site day h =
    ap (λ (l : List Event). is_pending (again l) site day) (sym (reverse-reverse events)) ∙ again_back (reverse events) site day h

none_by : (o p : Option ℕ) → (is_some o ≡ true → is_some p ≡ true) → is_none p ≡ true → is_none o ≡ true
none_by None p h k = refl
none_by (Some n) None h k = absurd (false≢true (h refl))
none_by (Some n) (Some m) h k = absurd (false≢true k)

-- a test that holds less often counts no more
count_step : (a b : Bool) (m n : ℕ) → (a ≡ true → b ≡ true) → m ≤ n → cond {A = ℕ} a 1 0 + m ≤ cond {A = ℕ} b 1 0 + n
count_step true true m n h l = omega (arith, l)
count_step true false m n h l = absurd (false≢true (h refl))
count_step false true m n h l = omega (arith, l)
count_step false false m n h l = omega (arith, l)

no_more : (p q : ℤ → Bool) (days : List ℤ) → ((d : ℤ) → p d ≡ true → q d ≡ true) → count_by p days ≤ count_by q days
no_more p q [] h = omega arith
no_more p q (d ∷ days) h =
    let a = sum_by-cons (λ (x : ℤ). cond {A = ℕ} (p x) 1 0) d days in
    let b = sum_by-cons (λ (x : ℤ). cond {A = ℕ} (q x) 1 0) d days in
    let step = count_step (p d) (q d) (count_by p days) (count_by q days) (h d) (no_more p q days h) in
    omega (arith, a, b, step)

-- opened again, there are no more events and pending days
abbrev pub IsNoLonger : List Event → Type 0
IsNoLonger events = length (accepted events) + length (pending_days (again events)) ≤ length events + length (pending_days events)

pub no_longer_accepted : (events : List Event) (piece : Record) → IsNoLonger events → IsNoLonger (events ++ Accepted piece ∷ [])
no_longer_accepted events piece k =
    let site = piece.edit.site in
    let now = pending_more events piece (stations_rise events) in
    let then = pending_more (again events) piece (stations_rise (again events)) in
    let days = ap (λ (s : List StationState). count_by (λ (d : ℤ). is_none (awaited (again events) site d)) (changed_days s piece.edit)) (stations_again events) in
    let fewer =
    no_more (λ (d : ℤ). is_none (awaited (again events) site d)) (λ (d : ℤ). is_none (awaited events site d)) (changed_days (stations_at events) piece.edit)
    (λ d. none_by (awaited events site d) (awaited (again events) site d) (pending_again events site d)) in
    let whole = ap (λ (l : List Event). length (pending_days l)) (again_accepted events piece) in
    let records = ap (λ (l : List Record). length l) (accepted_accepted events piece) in
    let one = length-append (accepted events) (piece ∷ []) in
    let event = length-append events (Accepted piece ∷ []) in
    omega (arith, k, now, then, days, fewer, whole, records, one, event)

pub no_longer_faulted : (events : List Event) (left : Option Record) → IsNoLonger events → IsNoLonger (events ++ Faulted left ∷ [])
no_longer_faulted events left k =
    let same = pending_faulted events left in
    let whole = ap (λ (l : List Event). length (pending_days l)) (again_faulted events left) in
    let records = ap (λ (l : List Record). length l) (accepted_faulted events left) in
    let event = length-append events (Faulted left ∷ []) in
    omega (arith, k, same, whole, records, event)

no_longer_one : (events : List Event) (d : SiteDay) → IsDay d.day → IsPending events d → IsNoLonger events → IsNoLonger (events ++ publication d ∷ [])
no_longer_one events d day pending k =
    let less = one_fewer events d.site d.day day pending in
    let whole = ap (λ (l : List Event). length (pending_days l)) (again_published events d.site d.day) in
    let records = ap (λ (l : List Record). length l) (accepted_published events d.site d.day) in
    let event = length-append events (publication d ∷ []) in
    omega (arith, k, less, whole, records, event)

pub no_longer_published : (events : List Event) (days : List SiteDay) → ArePublished events days → IsNoLonger events → IsNoLonger (events ++ map publication days)
no_longer_published events [] p k = subst IsNoLonger (sym (append-nil events)) k
no_longer_published events (d ∷ days) p k =
    subst IsNoLonger (append_assoc events (publication d ∷ []) (map publication days))
    (no_longer_published (events ++ publication d ∷ []) days p.2 (no_longer_one events d p.0 p.1 k))

pub no_longer_opened : (pieces : List Record) → IsNoLonger (map Accepted pieces)
no_longer_opened pieces =
    let records = ap (λ (l : List Record). length l) (accepted_all pieces) in
    let whole = ap (λ (l : List Record). length (pending_days (map Accepted l))) (accepted_all pieces) in
    let event = length-map pieces (λ (p : Record). Accepted p) in
    omega (arith, records, whole, event)

-- so it keeps to the limit
pub opened_keeps_to : (h : History) → IsNoLonger h.events → KeepsToTheLimit h → KeepsToTheLimit (reopen h.limits h.format (accepted h.events))
opened_keeps_to h k keeps =
    let event = length-map (accepted h.events) (λ (p : Record). Accepted p) in
    omega (arith, k, keeps, event)

-- also with the record of an edit that would be accepted
pub opened_with_keeps_to : (h : History) (edit : Edit) → verdict h edit ≡ Accepts → IsNoLonger h.events
    → KeepsToTheLimit (reopen h.limits h.format (accepted h.events ++ record_of h edit ∷ []))
opened_with_keeps_to h edit v k =
    subst (λ (l : List Record). KeepsToTheLimit (reopen h.limits h.format l)) (accepted_accepted h.events (record_of h edit))
    (opened_keeps_to (after_edit h edit) (no_longer_accepted h.events (record_of h edit) k) (edit_keeps_to h edit v))
