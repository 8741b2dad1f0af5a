-- The days of an edition: those that it can change, and those that are compared for it.
use Rattle.std.specs.Prelude.{◌≡◌, ◌*◌, ℕ, Bool, true, false, option_map, List, [], ◌∷◌, All, Option, Some, None, ℤ, pos, ◌+ℤ◌, ◌-ℤ◌, ◌≤ℤ◌, ◌<ℤ◌}
use Rattle.std.proofs.Common.{Bor, arith, refl, ap, sym, subst, ◌∙◌}
use Rattle.std.specs.Int.{int_max, int_min}
use Rattle.std.proofs.lemmas.Int.{ints, by_lt_z}
use Rattle.std.proofs.lemmas.List.Elements.{All-filter, All-head}
use Rattle.civil_days.specs.Starts.{IsIn, day_start_of, calendar_end}
use Rattle.civil_days.proofs.RiseLemmas.{rise, zone_steps}
use Rattle.fixed_units.specs.Quantities.{IsDay, IsStamp, SiteNumber, last_stamp}
use Rattle.fixed_units.specs.declared.readings.Reading.{Reading}
use Rattle.rising.specs.Ends.{first}
use Rattle.rising.specs.Lists as lists
use Rattle.rising.proofs.Ends.{first-kept}
use Rattle.rising.proofs.Parting.{after_is_after, IsAfter as IsLater}
use Rattle.readings.proofs.WindowLemmas.{window_keeps}
use Rattle.day_inputs.specs.DayInputs.{window_ends}
use Rattle.day_inputs.specs.Equality.{same_inputs}
use Rattle.edits.specs.Lawful.{IsSetEdition}
use Rattle.edits.specs.declared.content.What.{What}
use Rattle.edits.specs.declared.content.What.TheVariants.{SetEdition}
use Rattle.office_inputs.specs.Stations.{station_of}
use Rattle.office_inputs.specs.Touched.{in_reach, is_between_filled, meets, most_gap_seconds, touched_by}
use Rattle.station_inputs.specs.KeptStation.{IsKeptEdition, IsStation}
use Rattle.station_inputs.specs.Stations.{StationState, day_start, edition_after, edition_day, station_day, station_window, with_editions}
use Rattle.station_inputs.specs.Touched.{about_edition, edition_end}
use Rattle.station_inputs.specs.declared.touched.Touched.{Touched}
use Rattle.station_inputs.specs.declared.station_editions.Edition.{Edition}
use Rattle.station_inputs.proofs.EditionDays.{edition_changes}
use Rattle.station_inputs.proofs.EditionLemmas.{governed_days}
use Rattle.depend.specs.Compared.{AreCompared, IsAfter, IsCover}
use Rattle.depend.proofs.CoverLemmas.{IsBefore, common_cover, meets_in, near_cover, none_common}
use Rattle.depend.proofs.EntryLemmas.{IsNear, gap_seconds, window_near}
use Rattle.depend.proofs.PeriodLemmas.{day_filled}
use Rattle.depend.proofs.TouchedDays.{IsTouchedDay}

-- ---- the starts of days

start_rises : (s : StationState) (a b : ℤ) → IsStation s → IsDay a → b ≤ℤ calendar_end → a ≤ℤ b → day_start s a ≤ℤ day_start s b
start_rises s a b k d h l =
    by_lt_z a b (λ less. let r = rise (day_start_of s.zone) (zone_steps s.zone k.zone_is) a b d.low h less in omega (arith, ints, r))
    (λ more.
    let same : a ≡ b = omega (arith, ints) in
    subst (λ (x : ℤ). day_start s a ≤ℤ day_start s x) same (omega (arith, ints)))

start_below : (s : StationState) (a b : ℤ) → IsStation s → IsDay a → b ≤ℤ calendar_end → a <ℤ b → day_start s a <ℤ day_start s b
start_below s a b k d h l = rise (day_start_of s.zone) (zone_steps s.zone k.zone_is) a b d.low h l

-- the first instant of a day is of it, and so is the last second before the next one
first_in : (s : StationState) (day : ℤ) → IsStation s → IsDay day → IsIn s.zone day (day_start s day)
first_in s day k d = let l = zone_steps s.zone k.zone_is day d.low d.high in record { from = omega (arith, ints); until = omega (arith, ints, l) }

last_in : (s : StationState) (day next : ℤ) → IsStation s → IsDay day → next ≡ day +ℤ pos 1 → IsIn s.zone day (day_start s next -ℤ pos 1)
last_in s day next k d e =
    let l = zone_steps s.zone k.zone_is day d.low d.high in
    subst (λ (x : ℤ). IsIn s.zone day (day_start s x -ℤ pos 1)) (sym e) (record { from = omega (arith, ints, l); until = omega (arith, ints) })

-- the next edition is of a later day of the calendar
next_is : (s : StationState) (own : ℤ) (next : Edition) → IsStation s → edition_after own s.editions ≡ Some next → (own <ℤ next.day) × IsDay next.day
next_is s own next k e = (
  first-kept (IsLater edition_day own) (lists.after edition_day own s.editions) next (after_is_after edition_day own s.editions) e,
  (first-kept IsKeptEdition (lists.after edition_day own s.editions) next (All-filter _ IsKeptEdition s.editions k.editions_are.each) e).begins,
)

-- ---- the days that are compared

pub edition_cover : (s : StationState) (own before after : ℤ) (next : Edition) → IsStation s → IsDay own → IsBefore own before → edition_after own s.editions ≡ Some next
    → after ≡ next.day → IsCover (meets_in s.zone (day_start s own) (edition_end s (edition_after own s.editions))) before after
edition_cover s own before after next k d b e a =
    let later = next_is s own next k e in
    let l = later.0 in
    let low = later.1.low in
    let high = later.1.high in
    let first = d.low in
    let day = next.day -ℤ pos 1 in
    let is : IsDay day = record { low = omega (arith, ints, l, first); high = omega (arith, ints, high) } in
    let behind : IsAfter day after = record {
      own = is;
      other = subst IsDay (sym a) later.1;
      one = λ m. a ∙ omega (arith, ints);
      end = λ m. absurd (omega (arith, ints, m, high));
    } in
    subst (λ (o : Option Edition). IsCover (meets_in s.zone (day_start s own) (edition_end s o)) before after) (sym e)
    (near_cover s.zone own day before after (day_start s own) (day_start s next.day -ℤ pos 1) k.zone_is (first_in s own k d) (last_in s day next.day k is (omega (arith, ints))) b behind)

pub last_cover : (s : StationState) (own before after : ℤ) → IsStation s → IsDay own → IsBefore own before → edition_after own s.editions ≡ None
    → (day : ℤ) × IsIn s.zone day last_stamp × IsAfter day after → IsCover (meets_in s.zone (day_start s own) (edition_end s (edition_after own s.editions))) before after
last_cover s own before after k d b e h =
    subst (λ (o : Option Edition). IsCover (meets_in s.zone (day_start s own) (edition_end s o)) before after) (sym e)
    (near_cover s.zone own h.0 before after (day_start s own) last_stamp k.zone_is (first_in s own k d) h.1 b h.2)

-- ---- the days that an edition can change

-- a day with a window begins at most the gap tolerance after the last stamp
met_last : (s : StationState) (day lo hi : ℤ) → IsStation s → IsDay day → window_ends (station_window s day) ≡ Some (lo, hi)
    → day_start s day ≤ℤ (last_stamp +ℤ most_gap_seconds)
met_last s day lo hi k d e =
    let a = day_start s day in
    let b = day_start s (day +ℤ pos 1) in
    let gap = pos (60 * s.gap) in
    let longer = zone_steps s.zone k.zone_is day d.low d.high in
    by_window (station_window s day) e (window_near a b gap s.readings (omega (arith, ints, longer)) (omega (arith, ints)))
    (window_keeps (λ (r : Reading). IsStamp r.at) a b gap s.readings k.readings_are.stamps)
  where
    by_window : (w : List Reading) → window_ends w ≡ Some (lo, hi) → All (IsNear (day_start s day) (day_start s (day +ℤ pos 1)) (pos (60 * s.gap))) w → All (λ (r : Reading). IsStamp r.at) w
        → day_start s day ≤ℤ (last_stamp +ℤ most_gap_seconds)
    by_window [] e near stamps = absurd (cc)
    by_window (r ∷ rs) e near stamps =
        let n = (All-head (IsNear (day_start s day) (day_start s (day +ℤ pos 1)) (pos (60 * s.gap))) r rs near).0 in
        let t = (All-head (λ (x : Reading). IsStamp x.at) r rs stamps).high in
        let g = gap_seconds s.gap k.gap_high in
        omega (arith, ints, n, t, g)

-- no later than the day's start, the edition's end
end_step : (s : StationState) (own day lo hi : ℤ) (o : Option Edition) → IsStation s → IsDay day → edition_after own s.editions ≡ o
    → window_ends (station_window s day) ≡ Some (lo, hi) → ((next : Edition) → edition_after own s.editions ≡ Some next → day <ℤ next.day)
    → day_start s day ≤ℤ (edition_end s o +ℤ most_gap_seconds)
end_step s own day lo hi None k d e w h = met_last s day lo hi k d w
end_step s own day lo hi (Some next) k d e w h =
    let later = next_is s own next k e in
    let high = later.1.high in
    let below = start_below s day next.day k d (omega (arith, ints, high)) (h next e) in
    omega (arith, ints, below)

met_if : (first last a b : ℤ) → (first -ℤ most_gap_seconds) ≤ℤ b → a ≤ℤ (last +ℤ most_gap_seconds) → meets first last a b ≡ true
met_if first last a b h k = grind (arith, ints, h, k)

-- a day that an edition changes has inputs, and meets the time in which it is in force
pub edition_day_changes : (s : StationState) (e : Edition) (day : ℤ) → IsStation s → IsSetEdition e.day e.least → IsDay day
    → same_inputs (station_day s day) (station_day (with_editions (lists.put edition_day e) s) day) ≡ false → IsTouchedDay s (about_edition s e.day) day
edition_day_changes s e day k l d n =
    let c = edition_changes s e day k n in
    let w = c.1 in
    let g = governed_days e.day day s.editions k.editions_are.rising c.0 in
    let high = d.high in
    let begun = start_rises s e.day day k l.begins (omega (arith, ints, high)) g.0 in
    let longer = zone_steps s.zone k.zone_is day d.low d.high in
    let ends = end_step s e.day day w.0 w.1 (edition_after e.day s.editions) k d refl w.2 g.1 in (
      met_if (day_start s e.day) (edition_end s (edition_after e.day s.editions)) (day_start s day) (day_start s (day +ℤ pos 1)) (omega (arith, ints, begun, longer)) ends,
      λ t. day_filled s day w.0 w.1 w.2,
    )

-- what is lent of the next edition
pub lent_next : (o : Option (Bor Edition)) (found : Option Edition) (next : Bor Edition) → option_map (λ (e : Bor Edition). e.now) o ≡ found → o ≡ Some next → found ≡ Some next.now
lent_next o found next e f = sym e ∙ ap (option_map (λ (x : Bor Edition). x.now)) f

pub lent_none : (o : Option (Bor Edition)) (found : Option Edition) → option_map (λ (e : Bor Edition). e.now) o ≡ found → o ≡ None → found ≡ None
lent_none o found e f = sym e ∙ ap (option_map (λ (x : Bor Edition). x.now)) f

-- the interval of an edition, told of its station
abbrev reached : List StationState → SiteNumber → ℤ → Option ℕ → ℤ → Bool
reached stations site day least = in_reach stations site (touched_by (station_of stations site) (SetEdition day least))

pub edition_common : (stations : List StationState) (site : SiteNumber) (s : StationState) (day a b x y low high : ℤ) → station_of stations site ≡ Some s
    → IsCover (meets_in s.zone (day_start s day) (edition_end s (edition_after day s.editions))) a b → IsCover (is_between_filled stations site) x y
    → low ≡ int_max a x → high ≡ int_min b y → (least : Option ℕ) → IsCover (reached stations site day least) low high
edition_common stations site s day a b x y low high e h k f l least =
    subst (λ (t : Touched). IsCover (in_reach stations site t) low high) (sym (ap (λ (o : Option StationState). touched_by o (SetEdition day least)) e))
    (common_cover stations site s s.zone (day_start s day) (edition_end s (edition_after day s.editions)) true a b x y low high refl e refl h k f l)

pub edition_none : (stations : List StationState) (site : SiteNumber) (s : StationState) (day : ℤ) → station_of stations site ≡ Some s
    → AreCompared (is_between_filled stations site) None → (least : Option ℕ) → AreCompared (reached stations site day least) None
edition_none stations site s day e h least =
    subst (λ (t : Touched). AreCompared (in_reach stations site t) None) (sym (ap (λ (o : Option StationState). touched_by o (SetEdition day least)) e))
    (none_common stations site (day_start s day) (edition_end s (edition_after day s.editions)) true refl h)

-- an edition is told by its day, and the site by the place
pub edition_told : (stations : List StationState) (own site : SiteNumber) (what : What) (day : ℤ) (least : Option ℕ) (span : Option (ℤ × ℤ)) → own ≡ site
    → what ≡ SetEdition day least → ((other : Option ℕ) → AreCompared (reached stations own day other) span)
    → AreCompared (in_reach stations site (touched_by (station_of stations site) what)) span
edition_told stations own site what day least span e f h =
    subst (λ (w : What). AreCompared (in_reach stations site (touched_by (station_of stations site) w)) span) (sym f)
    (subst (λ (x : SiteNumber). AreCompared (reached stations x day least) span) e (h least))
