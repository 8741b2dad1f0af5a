-- How many days are pending, and how many cells there are, with one edit more.
use Rattle.std.specs.Prelude.{◌≡◌, ◌≢◌, ℕ, zero, suc, ◌+◌, ◌-◌, Bool, true, false, not, ◌&&◌, ◌||◌, cond, List, [], ◌∷◌, ◌++◌, length, map, filter, sum_by, count_by, reverse, All, Option, Some, None, is_some, is_none, ℤ, pos, ◌+ℤ◌}
use Rattle.std.specs.Ordering.{int_eq}
use Rattle.std.proofs.Common.{arith, refl, ap, sym, ◌∙◌, inl, inr, get_or}
use Rattle.std.proofs.lemmas.Bool.{false≢true, false_from_ne_true, or_cases}
use Rattle.std.proofs.lemmas.Bool.Decides.{Decides-int_eq}
use Rattle.std.proofs.lemmas.List.{length-map, reverse-append, reverse-reverse}
use Rattle.std.proofs.lemmas.List.Concat.{length-flat_map}
use Rattle.std.proofs.lemmas.List.Elements.{All-cons, All-nil, All-weaker, filter_agree}
use Rattle.day_cells.specs.Spans.{with_days, days_of}
use Rattle.edits.specs.declared.content.Edit.{Edit}
use Rattle.edits.specs.declared.content.What.{What}
use Rattle.fixed_units.specs.Calendar.{calendar, days_from, days_of_calendar}
use Rattle.fixed_units.specs.Quantities.{SiteNumber, IsDay, site_place, same_site, first_day}
use Rattle.fixed_units.proofs.CalendarLemmas.{IsAmong, among_first, among_rest, is_day}
use Rattle.history.specs.Accepted.{accepted, edit_of, stations_at, changes, was_changed_back, was_changed, days_ever_changed, cells_of, cell_count}
use Rattle.history.specs.Awaited.{awaited_back, awaited, is_day_of, is_pending, pending_of, pending_days}
use Rattle.history.specs.Events.{Event, Accepted, Published, Faulted}
use Rattle.history.proofs.CountLemmas.{sums_same, sums_swapped, sums_kept, count_or}
use Rattle.history.proofs.EventLemmas.{awaited_accepted, stations_accepted, accepted_published, accepted_faulted}
use Rattle.history.proofs.MergeLemmas.{given, merged_sums}
use Rattle.history.proofs.SpanLemmas.{span_more, none_ever_changed, stations_more}
use Rattle.history.proofs.StationLemmas.{places_equal, found_passes, found_place, station_stays, changed_has_station}
use Rattle.office_inputs.specs.Changes.{keeps_day, changed_days}
use Rattle.office_inputs.specs.Stations.{added, place_of, station_of, stations_of, stations_after, with_added, with_changed}
use Rattle.station_inputs.specs.Stations.{StationState, station_after}
use Rattle.records.specs.Sheets.{Record}
use Rattle.rising.specs.Lists.{IsRising, at}
use Rattle.rising.proofs.Placing.{put_rises}

-- each day of the calendar is one
days_are : (day : ℤ) (n : ℕ) → All (IsAmong day n) (days_from day n)
unfolding days_from
days_are day zero = All-nil (IsAmong day 0)
days_are day (suc n) =
    All-cons (IsAmong day (suc n)) day (days_from (day +ℤ pos 1) n) (among_first day n)
    (All-weaker (IsAmong (day +ℤ pos 1) n) (IsAmong day (suc n)) (λ d h. among_rest day n d h) (days_from (day +ℤ pos 1) n) (days_are (day +ℤ pos 1) n))

pub calendar_days : All IsDay calendar
unfolding calendar
calendar_days =
    All-weaker (IsAmong first_day days_of_calendar) IsDay (λ d h. is_day d h) (days_from first_day days_of_calendar) (days_are first_day days_of_calendar)

-- stations that rise still do after an edit
changed_rise : (change : StationState → StationState) (found : Option StationState) (stations : List StationState) → IsRising place_of stations
    → IsRising place_of (with_changed change found stations)
changed_rise change None stations h = h
changed_rise change (Some s) stations h = put_rises place_of (change s) stations h

added_rises : (site : SiteNumber) (what : What) (o : Option StationState) (stations : List StationState) → IsRising place_of stations
    → IsRising place_of (with_added site what o stations)
added_rises site what None stations h = changed_rise (station_after what) (station_of stations site) stations h
added_rises site what (Some s) stations h = put_rises place_of s stations h

pub stations_rise_after : (stations : List StationState) (edit : Edit) → IsRising place_of stations → IsRising place_of (stations_after stations edit)
stations_rise_after stations edit h = added_rises edit.site edit.what (added edit.site edit.what) stations h

-- what is awaited hangs on where the site stands
pub same_site_by : (own a b : SiteNumber) → site_place a ≡ site_place b → same_site own a ≡ same_site own b
same_site_by own a b e = ap (λ n. int_eq (site_place own) n) e

pub awaited_back_by : (back : List Event) (a b : SiteNumber) (day : ℤ) → site_place a ≡ site_place b → awaited_back back a day ≡ awaited_back back b day
unfolding awaited_back
awaited_back_by [] a b day e = refl
awaited_back_by (Accepted piece ∷ back) a b day e = rw (same_site_by piece.edit.site a b e, awaited_back_by back a b day e) refl
awaited_back_by (Published own its ∷ back) a b day e = rw (same_site_by own a b e, awaited_back_by back a b day e) refl
awaited_back_by (Faulted doubt ∷ back) a b day e = awaited_back_by back a b day e

changed_back_by : (back : List Edit) (a b : SiteNumber) (day : ℤ) → site_place a ≡ site_place b → was_changed_back back a day ≡ was_changed_back back b day
unfolding was_changed_back
changed_back_by [] a b day e = refl
changed_back_by (edit ∷ back) a b day e = rw (same_site_by edit.site a b e, changed_back_by back a b day e) refl

cells_by : (edits : List Edit) (a b : SiteNumber) → site_place a ≡ site_place b → cells_of edits a ≡ cells_of edits b
cells_by edits a b e =
    ap (λ (days : List ℤ). days_of (with_days None days)) (filter_agree (was_changed edits a) (was_changed edits b) (λ d. changed_back_by (reverse edits) a b d e) calendar)

-- how many days of a site are pending
abbrev pub pending_at : List Event → SiteNumber → ℕ
pending_at events site = length (filter (is_pending events site) calendar)

pub pending_by : (events : List Event) (a b : SiteNumber) → site_place a ≡ site_place b → pending_at events a ≡ pending_at events b
pending_by events a b e =
    ap (λ (days : List ℤ). length days) (filter_agree (is_pending events a) (is_pending events b) (λ d. ap (λ (o : Option ℕ). is_some o) (awaited_back_by (reverse events) a b d e)) calendar)

at_number : (stations : List StationState) (s : StationState) (n : ℤ) → at place_of n stations ≡ Some s → place_of s ≡ n
at_number stations s n h = (Decides-int_eq (place_of s) n).0 (found_passes (λ (t : StationState). int_eq (place_of t) n) stations s h)

some_cond : (b : Bool) (n : ℕ) (o : Option ℕ) → is_some (cond b (Some n) o) ≡ (b || is_some o)
some_cond true n o = refl
some_cond false n o = refl

published_some : (b : Bool) (o : Option ℕ) → is_some (cond b None o) ≡ true → is_some o ≡ true
published_some true o h = absurd (false≢true h)
published_some false o h = h

-- a sum over the stations with one edit more, of a number that hangs on the site
module _ (stations : List StationState) (edit : Edit) (f g : SiteNumber → ℕ)
    (f_by : (a b : SiteNumber) → site_place a ≡ site_place b → f a ≡ f b) (g_by : (a b : SiteNumber) → site_place a ≡ site_place b → g a ≡ g b)
    (others : (site : SiteNumber) → same_site edit.site site ≡ false → g site ≡ f site)
    (none_before : (site : SiteNumber) → is_some (station_of stations site) ≡ false → f site ≡ 0)
    (none_after : is_some (station_of (stations_after stations edit) edit.site) ≡ false → g edit.site ≡ f edit.site) where
  kept_at : (n : ℤ) (old new : Option StationState) → at place_of n stations ≡ old → at place_of n (stations_after stations edit) ≡ new
      → given 0 (λ (s : StationState). f s.site) new ≡ given 0 (λ (s : StationState). f s.site) old
  kept_at n None None e k = refl
  kept_at n (Some s) (Some t) e k = f_by t.site s.site (at_number (stations_after stations edit) t n k ∙ sym (at_number stations s n e))
  kept_at n None (Some t) e k = none_before t.site (ap is_some (ap (λ m. at place_of m stations) (at_number (stations_after stations edit) t n k) ∙ e))
  kept_at n (Some s) None e k =
      let here : is_some (station_of stations s.site) ≡ true = ap is_some (ap (λ m. at place_of m stations) (at_number stations s n e) ∙ e) in
      let gone : is_some (station_of (stations_after stations edit) s.site) ≡ false =
      ap is_some (ap (λ m. at place_of m (stations_after stations edit)) (at_number stations s n e) ∙ k) in
      absurd (false≢true (sym gone ∙ station_stays stations edit s.site here))

  kept_sum : IsRising place_of stations → sum_by (λ (s : StationState). f s.site) (stations_after stations edit) ≡ sum_by (λ (s : StationState). f s.site) stations
  kept_sum h =
      merged_sums place_of place_of (λ (s : StationState). f s.site) (λ (s : StationState). f s.site) (stations_after stations edit) stations
      (stations_rise_after stations edit h) h (λ n. kept_at n (at place_of n stations) (at place_of n (stations_after stations edit)) refl refl)

  elsewhere : (s : StationState) → (place_of s ≡ site_place edit.site → ⊥) → g s.site ≡ f s.site
  elsewhere s apart = others s.site (false_from_ne_true (same_site edit.site s.site) (λ t. apart (sym (places_equal edit.site s.site t))))

  sum_step : IsRising place_of stations → (found : Option StationState) → station_of (stations_after stations edit) edit.site ≡ found
      → sum_by (λ (s : StationState). g s.site) (stations_after stations edit) + f edit.site ≡ sum_by (λ (s : StationState). f s.site) stations + g edit.site
  sum_step h None e =
      let kept = sums_kept place_of (λ (s : StationState). f s.site) (λ (s : StationState). g s.site) (site_place edit.site) elsewhere (stations_after stations edit) e in
      let same = none_after (ap is_some e) in
      let sum = kept_sum h in
      omega (arith, kept, same, sum)
  sum_step h (Some s) e =
      let place = found_place (stations_after stations edit) edit.site s e in
      let swapped =
      sums_swapped place_of (λ (s : StationState). f s.site) (λ (s : StationState). g s.site) (site_place edit.site) elsewhere (stations_after stations edit) s
      (stations_rise_after stations edit h) e in
      let a = f_by s.site edit.site place in
      let b = g_by s.site edit.site place in
      let sum = kept_sum h in
      omega (arith, swapped, a, b, sum)

  pub sum_after : IsRising place_of stations
      → sum_by (λ (s : StationState). g s.site) (stations_after stations edit) + f edit.site ≡ sum_by (λ (s : StationState). f s.site) stations + g edit.site
  sum_after h = sum_step h (station_of (stations_after stations edit) edit.site) refl

-- a pending day is one of a station
pending_back_has_station : (back : List Event) (site : SiteNumber) (day : ℤ) → is_some (awaited_back back site day) ≡ true
    → is_some (station_of (stations_at (reverse back)) site) ≡ true
unfolding awaited_back
pending_back_has_station [] site day h = absurd (false≢true h)
pending_back_has_station (Accepted piece ∷ back) site day h =
    let turn : stations_at (reverse (Accepted piece ∷ back)) ≡ stations_after (stations_at (reverse back)) piece.edit =
    ap stations_at (reverse-append (Accepted piece ∷ []) back) ∙ stations_accepted (reverse back) piece in
    let split : (changes (stations_at (reverse back)) piece.edit site day || is_some (awaited_back back site day)) ≡ true =
    sym (some_cond (changes (stations_at (reverse back)) piece.edit site day) (length (accepted back) + 1) (awaited_back back site day)) ∙ h in
    ap (λ (s : List StationState). is_some (station_of s site)) turn
    ∙ elim (or_cases (changes (stations_at (reverse back)) piece.edit site day) (is_some (awaited_back back site day)) split) [
      | inl y ↦ changed_has_station (stations_at (reverse back)) piece.edit site day y
      | inr y ↦ station_stays (stations_at (reverse back)) piece.edit site (pending_back_has_station back site day y)
    ]
pending_back_has_station (Published own its ∷ back) site day h =
    let turn : stations_at (reverse (Published own its ∷ back)) ≡ stations_at (reverse back) =
    ap stations_at (reverse-append (Published own its ∷ []) back)
    ∙ ap (λ (ps : List Record). stations_of (map edit_of ps)) (accepted_published (reverse back) own its) in
    ap (λ (s : List StationState). is_some (station_of s site)) turn
    ∙ pending_back_has_station back site day (published_some (is_day_of own its site day) (awaited_back back site day) h)
pending_back_has_station (Faulted doubt ∷ back) site day h =
    let turn : stations_at (reverse (Faulted doubt ∷ back)) ≡ stations_at (reverse back) =
    ap stations_at (reverse-append (Faulted doubt ∷ []) back)
    ∙ ap (λ (ps : List Record). stations_of (map edit_of ps)) (accepted_faulted (reverse back) doubt) in
    ap (λ (s : List StationState). is_some (station_of s site)) turn ∙ pending_back_has_station back site day h

pub pending_has_station : (events : List Event) (site : SiteNumber) (day : ℤ) → is_pending events site day ≡ true → is_some (station_of (stations_at events) site) ≡ true
pending_has_station events site day h =
    ap (λ es. is_some (station_of (stations_at es) site)) (sym (reverse-reverse events)) ∙ pending_back_has_station (reverse events) site day h

none_pass : (days : List ℤ) → length (filter (λ (d : ℤ). false) days) ≡ 0
none_pass [] = refl
none_pass (d ∷ days) = none_pass days

none_pending : (events : List Event) (site : SiteNumber) → is_some (station_of (stations_at events) site) ≡ false → pending_at events site ≡ 0
none_pending events site h =
    ap (λ (days : List ℤ). length days) (filter_agree (is_pending events site) (λ (d : ℤ). false)
    (λ d. false_from_ne_true (is_pending events site d) (λ t. false≢true (sym h ∙ pending_has_station events site d t))) calendar)
    ∙ none_pass calendar

not_none : {A : Type 0} (o : Option A) → not (is_some o) ≡ is_none o
not_none None = refl
not_none (Some a) = refl

-- the pending days by station
pub pending_sum : (events : List Event) → length (pending_days events) ≡ sum_by (λ (s : StationState). pending_at events s.site) (stations_at events)
pending_sum events =
    length-flat_map (pending_of events) (stations_at events)
    ∙ sums_same (λ (s : StationState). pending_at events s.site) (λ (s : StationState). length (pending_of events s)) (stations_at events)
    (λ k d l. length-map (filter (is_pending events (get_or (stations_at events) k d).site) calendar) (λ day. record { site = (get_or (stations_at events) k d).site; day = day }))

pub own_site : (site : SiteNumber) → same_site site site ≡ true
own_site site = (Decides-int_eq (site_place site) (site_place site)).1 refl

module _ (events : List Event) (piece : Record) (rising : IsRising place_of (stations_at events)) where
  pending_accepted : (site : SiteNumber) (day : ℤ) → is_pending (events ++ Accepted piece ∷ []) site day
      ≡ (changes (stations_at events) piece.edit site day || is_pending events site day)
  pending_accepted site day =
      ap (λ (o : Option ℕ). is_some o) (awaited_accepted events piece site day)
      ∙ some_cond (changes (stations_at events) piece.edit site day) (length (accepted events) + 1) (awaited events site day)

  other_pending : (site : SiteNumber) → same_site piece.edit.site site ≡ false → pending_at (events ++ Accepted piece ∷ []) site ≡ pending_at events site
  other_pending site h =
      ap (λ (days : List ℤ). length days) (filter_agree (is_pending (events ++ Accepted piece ∷ []) site) (is_pending events site)
      (λ d. pending_accepted site d ∙ ap (λ b. (b && not (keeps_day (stations_at events) piece.edit d)) || is_pending events site d) h) calendar)

  own_pending : pending_at (events ++ Accepted piece ∷ []) piece.edit.site
      ≡ pending_at events piece.edit.site + count_by (λ d. is_none (awaited events piece.edit.site d)) (changed_days (stations_at events) piece.edit)
  own_pending =
      let site = piece.edit.site in
      let p = changes (stations_at events) piece.edit site in
      let changed : filter p calendar ≡ changed_days (stations_at events) piece.edit =
      filter_agree p (λ d. not (keeps_day (stations_at events) piece.edit d)) (λ d. ap (λ b. b && not (keeps_day (stations_at events) piece.edit d)) (own_site site)) calendar in
      ap (λ (days : List ℤ). length days) (filter_agree (is_pending (events ++ Accepted piece ∷ []) site) (λ d. p d || is_pending events site d) (pending_accepted site) calendar)
      ∙ count_or p (is_pending events site) calendar
      ∙ ap (λ (days : List ℤ). pending_at events site + count_by (λ d. not (is_pending events site d)) days) changed
      ∙ ap (λ n. pending_at events site + n)
      (sums_same (λ d. cond (is_none (awaited events site d)) 1 0) (λ d. cond (not (is_pending events site d)) 1 0) (changed_days (stations_at events) piece.edit)
      (λ k d l. ap (λ b. cond {A = ℕ} b 1 0) (not_none (awaited events site (get_or (changed_days (stations_at events) piece.edit) k d)))))

  -- an accepted edit makes those of its changed days pending that await nothing
  pub pending_more : length (pending_days (events ++ Accepted piece ∷ []))
      ≡ length (pending_days events) + count_by (λ d. is_none (awaited events piece.edit.site d)) (changed_days (stations_at events) piece.edit)
  pending_more =
      let more = events ++ Accepted piece ∷ [] in
      let own = piece.edit.site in
      let turn = stations_accepted events piece in
      let sum : sum_by (λ (s : StationState). pending_at more s.site) (stations_after (stations_at events) piece.edit) + pending_at events own
      ≡ sum_by (λ (s : StationState). pending_at events s.site) (stations_at events) + pending_at more own =
      sum_after (stations_at events) piece.edit (pending_at events) (pending_at more) (pending_by events) (pending_by more) other_pending (none_pending events)
      (λ h. none_pending more own (ap (λ (s : List StationState). is_some (station_of s own)) turn ∙ h)
      ∙ sym (none_pending events own (false_from_ne_true (is_some (station_of (stations_at events) own))
      (λ t. false≢true (sym h ∙ station_stays (stations_at events) piece.edit own t)))))
      rising in
      let whole = pending_sum more ∙ ap (λ (s : List StationState). sum_by (λ (s : StationState). pending_at more s.site) s) turn in
      let before = pending_sum events in
      let here = own_pending in
      omega (arith, sum, whole, before, here)

-- the cells of all stations with one edit more
module _ (edits : List Edit) (edit : Edit) (rising : IsRising place_of (stations_of edits)) where
  no_cells : (some : List Edit) (site : SiteNumber) → is_some (station_of (stations_of some) site) ≡ false → cells_of some site ≡ 0
  no_cells some site h = ap (λ (days : List ℤ). days_of (with_days None days)) (none_ever_changed some site h)

  pub cells_more : cell_count (edits ++ edit ∷ []) + cells_of edits edit.site
      ≡ cell_count edits + days_of (with_days (with_days None (days_ever_changed edits edit.site)) (changed_days (stations_of edits) edit))
  cells_more =
      let more = edits ++ edit ∷ [] in
      let own = edit.site in
      let turn = stations_more edits edit in
      let wide = with_days (with_days None (days_ever_changed edits own)) (changed_days (stations_of edits) edit) in
      let sum : sum_by (λ (s : StationState). cells_of more s.site) (stations_after (stations_of edits) edit) + cells_of edits own
      ≡ sum_by (λ (s : StationState). cells_of edits s.site) (stations_of edits) + cells_of more own =
      sum_after (stations_of edits) edit (cells_of edits) (cells_of more) (cells_by edits) (cells_by more)
      (λ site h. ap days_of (span_more edits edit site
      ∙ ap (λ b. cond b (with_days (with_days None (days_ever_changed edits site)) (changed_days (stations_of edits) edit)) (with_days None (days_ever_changed edits site))) h))
      (no_cells edits)
      (λ h. no_cells more own (ap (λ (s : List StationState). is_some (station_of s own)) turn ∙ h)
      ∙ sym (no_cells edits own (false_from_ne_true (is_some (station_of (stations_of edits) own))
      (λ t. false≢true (sym h ∙ station_stays (stations_of edits) edit own t)))))
      rising in
      let here : cells_of more own ≡ days_of wide =
      ap days_of (span_more edits edit own ∙ ap (λ b. cond b wide (with_days None (days_ever_changed edits own))) (own_site own)) in
      let whole : cell_count more ≡ sum_by (λ (s : StationState). cells_of more s.site) (stations_after (stations_of edits) edit) =
      ap (λ (s : List StationState). sum_by (λ (s : StationState). cells_of more s.site) s) turn in
      omega (arith, sum, here, whole)
