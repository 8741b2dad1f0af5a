-- A publication of a pending day adds one event and takes one pending day away.
use Rattle.std.specs.Prelude.{◌≡◌, ℕ, zero, suc, ◌+◌, Bool, true, false, not, ◌&&◌, cond, List, [], ◌∷◌, ◌++◌, length, map, filter, fold, take, drop, slice_get, sum_by, All, Option, Some, None, is_some, ℤ, pos, ◌+ℤ◌}
use Rattle.std.specs.List.{flat_map}
use Rattle.std.specs.Ordering.{int_eq}
use Rattle.std.proofs.Common.{arith, refl, ap, sym, subst, ◌∙◌, length-append}
use Rattle.std.proofs.lemmas.Bool.{false≢true, false_from_ne_true}
use Rattle.std.proofs.lemmas.Bool.Decides.{Decides-int_eq}
use Rattle.std.proofs.lemmas.Int.{ints, by_lt_z}
use Rattle.std.proofs.lemmas.List.{append_assoc, append-nil, length-map, take-append-drop}
use Rattle.std.proofs.lemmas.List.Elements.{All-append, All-filter, All-head, All-map, All-nil, filter_agree}
use Rattle.edits.specs.declared.content.Edit.{Edit}
use Rattle.fixed_units.specs.Calendar.{calendar, days_from, days_of_calendar}
use Rattle.fixed_units.specs.Quantities.{SiteNumber, IsDay, first_day, same_site, site_place}
use Rattle.fixed_units.proofs.CalendarLemmas.{IsAmong, filter_days_same, is_among}
use Rattle.history.specs.Accepted.{edit_of, edits_of, stations_at}
use Rattle.history.specs.After.{after_edit, after_fault, after_publication, after_publications, after_settlement, after_turn, publication}
use Rattle.history.specs.Awaited.{SiteDay, is_day_of, is_pending, pending_of, pending_days}
use Rattle.history.specs.Events.{Event, Accepted, Published, History}
use Rattle.history.specs.Verdicts.{Accepts, record_of, verdict}
use Rattle.history.proofs.CountLemmas.{sums_swapped}
use Rattle.history.proofs.EventLemmas.{accepted_published}
use Rattle.history.proofs.PendingLemmas.{calendar_days, own_site, pending_at, pending_by, pending_has_station, pending_sum, stations_rise_after}
use Rattle.history.proofs.StationLemmas.{found_place, places_equal}
use Rattle.history.proofs.VerdictLemmas.{accepted_parts}
use Rattle.office_inputs.specs.Stations.{place_of, station_of, stations_of, stations_after}
use Rattle.station_inputs.specs.Stations.{StationState}
use Rattle.records.specs.Sheets.{Record}
use Rattle.register.specs.Keeping.{KeepsToTheLimit}
use Rattle.register.proofs.FaultLemmas.{fault_keeps_to}
use Rattle.register.proofs.SettleLemmas.{rest_left, still_pending}
use Rattle.register.proofs.TurnLemmas.{IsPending, all_pending}
use Rattle.rising.specs.Lists.{IsRising}

-- the stations in force rise by their sites
rise_after_all : (stations : List StationState) (edits : List Edit) → IsRising place_of stations → IsRising place_of (fold stations_after stations edits)
rise_after_all stations [] h = h
rise_after_all stations (edit ∷ edits) h = rise_after_all (stations_after stations edit) edits (stations_rise_after stations edit h)

none_rise : IsRising place_of []
none_rise = λ i j d u v. absurd (omega arith)

pub stations_rise : (events : List Event) → IsRising place_of (stations_at events)
stations_rise events = rise_after_all [] (edits_of events) none_rise

-- a test that fails on one day of the calendar more keeps one day less
and_true : (b c : Bool) → c ≡ false → (b && not c) ≡ b
and_true true c e = ap not e
and_true false c e = refl

own_step : (b c : Bool) (day : ℤ) (ys zs : List ℤ) → b ≡ false → c ≡ true → ys ≡ zs → length (cond b (day ∷ ys) ys) + 1 ≡ length (cond c (day ∷ zs) zs)
own_step b c day ys zs e f g = rw (e, f, g) (omega arith)

other_step : (b c : Bool) (day : ℤ) (ys zs : List ℤ) → b ≡ c → length ys + 1 ≡ length zs → length (cond b (day ∷ ys) ys) + 1 ≡ length (cond c (day ∷ zs) zs)
other_step true true day ys zs e h = omega (arith, h)
other_step true false day ys zs e h = absurd (cc)
other_step false true day ys zs e h = absurd (cc)
other_step false false day ys zs e h = h

module _ (p q : ℤ → Bool) (own : ℤ) (other : (d : ℤ) → q d ≡ (p d && not (int_eq own d))) (passes : p own ≡ true) where
  apart : (d : ℤ) → (own ≡ d → ⊥) → q d ≡ p d
  apart d h = other d ∙ and_true (p d) (int_eq own d) (false_from_ne_true (int_eq own d) (λ t. h ((Decides-int_eq own d).0 t)))

  fails : q own ≡ false
  fails = other own ∙ ap (λ b. b && not (int_eq own own)) passes ∙ ap not ((Decides-int_eq own own).1 refl)

  one_day_less : (day : ℤ) (n : ℕ) → IsAmong day n own → length (filter q (days_from day n)) + 1 ≡ length (filter p (days_from day n))
  unfolding days_from
  one_day_less day zero w = absurd (let a = w.low in let b = w.high in omega (arith, ints))
  one_day_less day (suc n) w =
      let next = day +ℤ pos 1 in
      by_lt_z day own
      (λ l. other_step (q day) (p day) day (filter q (days_from next n)) (filter p (days_from next n)) (apart day (λ e. omega (arith, ints, l, e)))
      (one_day_less next n (record { low = omega (arith, ints); high = let b = w.high in omega (arith, ints) })))
      (λ m. let e : own ≡ day = (let a = w.low in omega (arith, ints)) in
      own_step (q day) (p day) day (filter q (days_from next n)) (filter p (days_from next n)) (ap q (sym e) ∙ fails) (ap p (sym e) ∙ passes)
      (filter_days_same q p next n (λ d l. apart d (λ f. omega (arith, ints, l, e, f)))))

  pub one_less_in_calendar : IsDay own → length (filter q calendar) + 1 ≡ length (filter p calendar)
  unfolding calendar
  one_less_in_calendar h = one_day_less first_day days_of_calendar (is_among own h)

module _ (events : List Event) (own : SiteNumber) (its : ℤ) (day : IsDay its) (pending : is_pending events own its ≡ true) where
  abbrev more : List Event
  more = events ++ Published own its ∷ []

  -- of the days of its site
  own_fewer : pending_at more own + 1 ≡ pending_at events own
  own_fewer =
      one_less_in_calendar (is_pending events own) (is_pending more own) its
      (λ d. still_pending events own its own d ∙ ap (λ b. is_pending events own d && not (b && int_eq its d)) (own_site own)) pending day

  -- and of no other
  other_same : (site : SiteNumber) → same_site own site ≡ false → pending_at more site ≡ pending_at events site
  other_same site h =
      ap (λ (days : List ℤ). length days) (filter_agree (is_pending more site) (is_pending events site)
      (λ d. still_pending events own its site d ∙ and_true (is_pending events site d) (is_day_of own its site d) (ap (λ b. b && int_eq its d) h)) calendar)

  elsewhere : (s : StationState) → (place_of s ≡ site_place own → ⊥) → pending_at more s.site ≡ pending_at events s.site
  elsewhere s apart = other_same s.site (false_from_ne_true (same_site own s.site) (λ t. apart (sym (places_equal own s.site t))))

  fewer_at : (found : Option StationState) → station_of (stations_at events) own ≡ found → is_some found ≡ true
      → length (pending_days more) + 1 ≡ length (pending_days events)
  fewer_at None e h = absurd (false≢true h)
  fewer_at (Some s) e h =
      let place = found_place (stations_at events) own s e in
      let swapped =
      sums_swapped place_of (λ (s : StationState). pending_at events s.site) (λ (s : StationState). pending_at more s.site) (site_place own) elsewhere
      (stations_at events) s (stations_rise events) e in
      let whole : length (pending_days more) ≡ sum_by (λ (s : StationState). pending_at more s.site) (stations_at events) =
      pending_sum more
      ∙ ap (λ (ps : List Record). sum_by (λ (s : StationState). pending_at more s.site) (stations_of (map edit_of ps))) (accepted_published events own its) in
      let before = pending_sum events in
      let a = pending_by events s.site own place in
      let b = pending_by more s.site own place in
      let less = own_fewer in
      omega (arith, swapped, whole, before, a, b, less)

  pub one_fewer : length (pending_days more) + 1 ≡ length (pending_days events)
  one_fewer = fewer_at (station_of (stations_at events) own) refl (pending_has_station events own its pending)

-- each pending day is one of the calendar
pub days_are : (events : List Event) (stations : List StationState) → All (λ (d : SiteDay). IsDay d.day) (flat_map (pending_of events) stations)
days_are events [] = All-nil (λ (d : SiteDay). IsDay d.day)
days_are events (s ∷ stations) =
    All-append (λ (d : SiteDay). IsDay d.day) (pending_of events s) (flat_map (pending_of events) stations)
    (All-map (λ (d : SiteDay). IsDay d.day) (λ (day : ℤ). record { site = s.site; day = day }) (filter (is_pending events s.site) calendar)
    (All-filter (is_pending events s.site) IsDay calendar calendar_days))
    (days_are events stations)

-- the first of the pending days were published, in order
pub left_behind : (events : List Event) (days rest : List SiteDay) → pending_days events ≡ days ++ rest → pending_days (events ++ map publication days) ≡ rest
left_behind events [] rest e = ap pending_days (append-nil events) ∙ e
left_behind events (d ∷ days) rest e =
    let pending : IsPending events d = All-head (IsPending events) d (days ++ rest) (subst (All (IsPending events)) e (all_pending events)) in
    let day : IsDay d.day =
    All-head (λ (d : SiteDay). IsDay d.day) d (days ++ rest) (subst (All (λ (d : SiteDay). IsDay d.day)) e (days_are events (stations_at events))) in
    let first : pending_days (events ++ publication d ∷ []) ≡ days ++ rest =
    rest_left events d (days ++ rest) e (one_fewer events d.site d.day day pending) in
    ap pending_days (sym (append_assoc events (publication d ∷ []) (map publication days))) ∙ left_behind (events ++ publication d ∷ []) days rest first

pub published_keep_to : (h : History) (days rest : List SiteDay) → pending_days h.events ≡ days ++ rest → KeepsToTheLimit h
    → KeepsToTheLimit (after_publications h days)
published_keep_to h days rest e k =
    let whole = ap (λ (l : List SiteDay). length l) e in
    let parts = length-append days rest in
    let left = ap (λ (l : List SiteDay). length l) (left_behind h.events days rest e) in
    let events = length-append h.events (map publication days) in
    let as_many = length-map days publication in
    omega (arith, whole, parts, left, events, as_many, k)

pub some_keep_to : (h : History) (count : ℕ) → KeepsToTheLimit h → KeepsToTheLimit (after_publications h (take count (pending_days h.events)))
some_keep_to h count k =
    published_keep_to h (take count (pending_days h.events)) (drop count (pending_days h.events)) (sym (take-append-drop count (pending_days h.events))) k

pub settled_keep_to : (h : History) → KeepsToTheLimit h → KeepsToTheLimit (after_settlement h)
settled_keep_to h k = published_keep_to h (pending_days h.events) [] (sym (append-nil (pending_days h.events))) k

turn_keeps_to : (h : History) (days : List SiteDay) → pending_days h.events ≡ days → KeepsToTheLimit h → KeepsToTheLimit (after_publication h (slice_get days 0))
turn_keeps_to h [] e k = k
turn_keeps_to h (d ∷ rest) e k = published_keep_to h (d ∷ []) rest e k

pub turned_keep_to : (h : History) → KeepsToTheLimit h → KeepsToTheLimit (after_turn h)
turned_keep_to h k = turn_keeps_to h (pending_days h.events) refl k

-- any pending day was published
pub publication_keeps_to : (h : History) (d : SiteDay) → KeepsToTheLimit h → IsDay d.day → is_pending h.events d.site d.day ≡ true
    → KeepsToTheLimit (after_publications h (d ∷ []))
publication_keeps_to h d k day pending =
    let less = one_fewer h.events d.site d.day day pending in
    let one = length-append h.events (publication d ∷ []) in
    omega (arith, less, one, k)

-- an edit was accepted, or refused by a fault
pub edit_keeps_to : (h : History) (edit : Edit) → verdict h edit ≡ Accepts → KeepsToTheLimit (after_edit h edit)
edit_keeps_to h edit v =
    let room = (accepted_parts h edit v).events in
    let one = length-append h.events (Accepted (record_of h edit) ∷ []) in
    omega (arith, room, one)

pub refused_keeps_to : (h : History) (edit : Edit) (left : Option Record) → verdict h edit ≡ Accepts → KeepsToTheLimit (after_fault h left)
refused_keeps_to h edit left v = fault_keeps_to h edit left (stations_rise h.events) v
