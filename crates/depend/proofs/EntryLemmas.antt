-- An entry put into a series of a station, or taken out of it, changes no day but those that have inputs and that its say meets.
use Rattle.std.specs.Prelude.{◌≡◌, ◌*◌, ◌==◌, ◌≤◌, ℕ, Bool, true, false, cond, List, [], ◌∷◌, All, Option, Some, None, MatchOption, find, reverse, ℤ, pos, ◌+ℤ◌, ◌-ℤ◌, ◌≤ℤ◌, ◌<ℤ◌, int_le, int_lt}
use Rattle.std.proofs.Common.{arith, refl, ap, sym, ◌∙◌}
use Rattle.std.proofs.lemmas.Int.{ints}
use Rattle.std.proofs.lemmas.List.Elements.{All-head, All-tail, All-cons, All-weaker, All-filter, filter_passes}
use Rattle.fixed_units.specs.Quantities.{IsDay, IsStamp, last_stamp, most_gap}
use Rattle.fixed_units.specs.declared.readings.Reading.{Reading}
use Rattle.rising.specs.Lists as lists
use Rattle.rising.specs.Ends.{first, last}
use Rattle.rising.proofs.Ends.{first-kept, last-kept}
use Rattle.rising.proofs.Parting.{yes_le, yes_lt}
use Rattle.rising.proofs.Selecting.{AllPairs-head}
use Rattle.readings.specs.Readings.{IsRising, is_used}
use Rattle.readings.specs.Window.{is_of_day, inner, lead, follow, neighbour_before, neighbour_after, window}
use Rattle.readings.proofs.Selecting.{find_passes}
use Rattle.readings.proofs.WindowLemmas.{window_keeps, window_rises}
use Rattle.readings.proofs.WindowParts.{is_inner, is_early, is_late, both_true, with_neighbours_keeps}
use Rattle.curves.specs.declared.entries.Entry.{Entry}
use Rattle.curves.specs.Entries as series
use Rattle.curves.specs.Entries.{instant_of}
use Rattle.curves.specs.Bearing.{bearing, bears_at}
use Rattle.curves.specs.Corrections.{Corrections}
use Rattle.curves.proofs.ChangeLemmas.{says_led, says_alone, says_until}
use Rattle.civil_days.proofs.RiseLemmas.{zone_steps}
use Rattle.day_inputs.specs.DayInputs.{with_window, last_at}
use Rattle.day_inputs.specs.Equality.{same_inputs}
use Rattle.day_inputs.proofs.EqualityLemmas.{Decides-same_inputs}
use Rattle.station_inputs.specs.KeptStation.{IsStation}
use Rattle.ratings.specs.Numbered.{StationRatings}
use Rattle.station_inputs.specs.Series.{corrections_with, entries_in, shifts_with}
use Rattle.station_inputs.specs.Stations.{StationState, estimated_discharge, least_cover, series_of, station_day, with_series, day_start}
use Rattle.station_inputs.specs.Touched as touched
use Rattle.office_inputs.specs.Touched.{meets, most_gap_seconds}
use Rattle.station_inputs.specs.Touched.{has_inputs, says_from}
use Rattle.station_inputs.specs.declared.series.StationSeries.{StationSeries}
use Rattle.station_inputs.specs.declared.series.StationSeries.TheVariants.{Correction, Shift}

-- where a test fails, what follows from it is not so
pub by_test : (b : Bool) {P : Type 0} → (b ≡ true → P) → (b ≡ false → P) → P
by_test true t f = t refl
by_test false t f = f refl

pub gap_seconds : (gap : ℕ) → gap ≤ most_gap → pos (60 * gap) ≤ℤ most_gap_seconds
gap_seconds gap h = omega (arith, ints)

-- each reading of a window stands at most the gap before the day, and at most the gap after it
abbrev pub IsNear : ℤ → ℤ → ℤ → Reading → Type 0
IsNear a b gap r = ((a -ℤ gap) ≤ℤ r.at) × (r.at ≤ℤ (b +ℤ gap))

lead_step : (a b gap : ℤ) (r : Reading) (c : Bool) → int_le (a -ℤ r.at) gap ≡ c → a ≤ℤ b → pos 0 ≤ℤ gap → r.at <ℤ a
    → MatchOption (cond c (Some r) None) (Unit {0}) (IsNear a b gap)
lead_step a b gap r true e o g h = let near = yes_le (a -ℤ r.at) gap e in (omega (arith, ints), omega (arith, ints))
lead_step a b gap r false e o g h = tt

lead_near : (a b gap : ℤ) (o : Option Reading) → a ≤ℤ b → pos 0 ≤ℤ gap → MatchOption o (Unit {0}) (λ r. is_early a r ≡ true)
    → MatchOption (lead a gap o) (Unit {0}) (IsNear a b gap)
lead_near a b gap None o g h = tt
lead_near a b gap (Some r) o g h =
    lead_step a b gap r (int_le (a -ℤ r.at) gap) refl o g (yes_lt r.at a (both_true (is_used r) (int_lt r.at a) h))

follow_step : (a b gap : ℤ) (r : Reading) (c : Bool) → int_le (r.at -ℤ b) gap ≡ c → a ≤ℤ b → pos 0 ≤ℤ gap → b ≤ℤ r.at
    → MatchOption (cond c (Some r) None) (Unit {0}) (IsNear a b gap)
follow_step a b gap r true e o g h = let near = yes_le (r.at -ℤ b) gap e in (omega (arith, ints), omega (arith, ints))
follow_step a b gap r false e o g h = tt

follow_near : (a b gap : ℤ) (o : Option Reading) → a ≤ℤ b → pos 0 ≤ℤ gap → MatchOption o (Unit {0}) (λ r. is_late b r ≡ true)
    → MatchOption (follow b gap o) (Unit {0}) (IsNear a b gap)
follow_near a b gap None o g h = tt
follow_near a b gap (Some r) o g h =
    follow_step a b gap r (int_le (r.at -ℤ b) gap) refl o g (yes_le b r.at (both_true (is_used r) (int_le b r.at) h))

inner_near : (a b gap : ℤ) (r : Reading) → pos 0 ≤ℤ gap → is_of_day a b r ≡ true → IsNear a b gap r
inner_near a b gap r g h = (grind (arith, ints), grind (arith, ints))

pub window_near : (a b gap : ℤ) (rs : List Reading) → a ≤ℤ b → pos 0 ≤ℤ gap → All (IsNear a b gap) (window a b gap rs)
window_near a b gap rs o g =
    with_neighbours_keeps (IsNear a b gap) (neighbour_before a gap rs) (inner a b rs) (neighbour_after b gap rs)
    (lead_near a b gap (find (is_early a) (reverse rs)) o g (find_passes (is_early a) (reverse rs)))
    (All-weaker (λ r. is_inner a b r ≡ true) (IsNear a b gap) (λ r k. inner_near a b gap r g (both_true (is_used r) (is_of_day a b r) k)) (inner a b rs) (filter_passes (is_inner a b) rs))
    (follow_near a b gap (find (is_late b) rs) o g (find_passes (is_late b) rs))

-- what holds of each reading's instant holds of the last one's, which is no earlier than the first one's
pub last_has : (P : ℤ → Type 0) (r : Reading) (rs : List Reading) → All (λ (x : Reading). P x.at) (r ∷ rs) → P (last_at r rs)
last_has P r [] h = All-head (λ (x : Reading). P x.at) r [] h
last_has P r (s ∷ rs) h = last_has P s rs (All-tail (λ (x : Reading). P x.at) r (s ∷ rs) h)

ends_rise : (r : Reading) (rs : List Reading) → IsRising (r ∷ rs) → r.at ≤ℤ last_at r rs
ends_rise r rs h =
    last_has (λ n. r.at ≤ℤ n) r rs
    (All-cons (λ (x : Reading). r.at ≤ℤ x.at) r rs (omega (arith, ints))
    (All-weaker (λ (x : Reading). r.at <ℤ x.at) (λ (x : Reading). r.at ≤ℤ x.at) (λ x k. omega (arith, ints, k)) rs (AllPairs-head (λ (x y : Reading). x.at <ℤ y.at) r rs h)))

-- what holds of every series of a station holds of each
set_has : (P : List Entry → Type 0) (c : Corrections) (b d : Bool) → P c.first → P c.second → P c.third → P (cond b c.first (cond d c.second c.third))
set_has P c true d x y z = x
set_has P c false true x y z = y
set_has P c false false x y z = z

pub series_has : (P : List Entry → Type 0) (which : StationSeries) (s : StationState) → P s.corrections.first → P s.corrections.second → P s.corrections.third
    → P s.shifts → P (series_of which s)
series_has P (Correction set) s x y z w = set_has P s.corrections (set == 1) (set == 2) x y z
series_has P Shift s x y z w = w

series_rise : (which : StationSeries) (s : StationState) → IsStation s → series.IsRising (series_of which s)
series_rise which s k =
    series_has series.IsRising which s k.corrections_are.first.rising k.corrections_are.second.rising k.corrections_are.third.rising k.shifts_are.rising

-- a day whose window's bearing entries stay keeps its inputs
module _ (gap : ℕ) (stages discharges : List ℕ) (from until : ℤ) (change : List Entry → List Entry) (r : Reading) (rs : List Reading) (ratings : StationRatings) (estimate : Option ℤ) (least : Option ℕ) where
  abbrev BearAlike : List Entry → Type 0
  BearAlike es = bearing r.at (last_at r rs) es ≡ bearing r.at (last_at r rs) (change es)

  set_kept : (c : Corrections) (shifts : List Entry) (b d : Bool) → BearAlike (cond b c.first (cond d c.second c.third))
      → with_window gap stages discharges from until c shifts ratings (r ∷ rs) estimate least
      ≡ with_window gap stages discharges from until
      (cond b (record { first = change c.first; second = c.second; third = c.third })
      (cond d (record { first = c.first; second = change c.second; third = c.third }) (record { first = c.first; second = c.second; third = change c.third })))
      shifts ratings (r ∷ rs) estimate least
  set_kept c shifts true d e = rw e refl
  set_kept c shifts false true e = rw e refl
  set_kept c shifts false false e = rw e refl

  parts_kept : (which : StationSeries) (c : Corrections) (shifts : List Entry) → BearAlike (entries_in which c shifts)
      → with_window gap stages discharges from until c shifts ratings (r ∷ rs) estimate least
      ≡ with_window gap stages discharges from until (corrections_with which change c) (shifts_with which change shifts) ratings (r ∷ rs) estimate least
  parts_kept (Correction set) c shifts e = set_kept c shifts (set == 1) (set == 2) e
  parts_kept Shift c shifts e = rw e refl

-- the time in which an entry has a say, where it bears on a span
from_step : (at hi : ℤ) (e : Entry) (p : Bool) → e.prorate ≡ p → (e.prorate ≡ true → e.at ≤ℤ hi) → (e.prorate ≡ false → at ≤ℤ hi) → cond p e.at at ≤ℤ hi
from_step at hi e true k led alone = led k
from_step at hi e false k led alone = alone k

from_by : (at hi : ℤ) (o : Option Entry) → ((e : Entry) → o ≡ Some e → e.prorate ≡ true → e.at ≤ℤ hi) → (((e : Entry) → o ≡ Some e → e.prorate ≡ false) → at ≤ℤ hi)
    → says_from at o ≤ℤ hi
from_by at hi None led alone = alone (λ e k. absurd (cc))
from_by at hi (Some p) led alone =
    from_step at hi p p.prorate refl (led p refl) (λ f. alone (λ e k. let same : p ≡ e = cc in ap (λ (x : Entry). x.prorate) (sym same) ∙ f))

until_by : (lo : ℤ) (o : Option Entry) → lo ≤ℤ last_stamp → ((e : Entry) → o ≡ Some e → lo <ℤ e.at) → lo ≤ℤ touched.says_until o
until_by lo None h next = h
until_by lo (Some e) h next = let later = next e refl in omega (arith, ints, later)

-- an entry that changes no span on which it would not bear
abbrev pub Keeps : ℤ → (List Entry → List Entry) → List Entry → Type 0
Keeps at change es = (lo hi : ℤ) → lo ≤ℤ hi → bears_at lo hi at es ≡ false → bearing lo hi es ≡ bearing lo hi (change es)

abbrev pub from_of : ℤ → List Entry → ℤ
from_of at es = says_from at (last (lists.before instant_of at es))

abbrev pub until_of : ℤ → List Entry → ℤ
until_of at es = touched.says_until (first (lists.after instant_of at es))

met : (lo hi at a b gap : ℤ) (es : List Entry) → bears_at lo hi at es ≡ true → (a -ℤ gap) ≤ℤ lo → hi ≤ℤ (b +ℤ gap) → gap ≤ℤ most_gap_seconds → lo ≤ℤ last_stamp
    → meets (from_of at es) (until_of at es) a b ≡ true
met lo hi at a b gap es t low high g stamp =
    let begins : from_of at es ≤ℤ hi = from_by at hi (last (lists.before instant_of at es)) (λ e. says_led lo hi at es e t) (says_alone lo hi at es t) in
    let ends : lo ≤ℤ until_of at es = until_by lo (first (lists.after instant_of at es)) stamp (λ e. says_until lo hi at es e t) in
    grind (arith, ints)

kept_not : (b : Bool) → b ≡ true → b ≡ false → ⊥
kept_not b e f = absurd (cc)

-- a day that changes has inputs, and meets that time
in_window : (s : StationState) (a b : ℤ) (which : StationSeries) (at : ℤ) (change : List Entry → List Entry) (w : List Reading) (estimate : Option ℤ) (least : Option ℕ) → IsRising w
    → All (IsNear a b (pos (60 * s.gap))) w → All (λ (r : Reading). IsStamp r.at) w → s.gap ≤ most_gap → Keeps at change (series_of which s)
    → same_inputs (with_window s.gap s.stage_array s.discharge_array a b s.corrections s.shifts s.ratings w estimate least)
    (with_window s.gap s.stage_array s.discharge_array a b (corrections_with which change s.corrections) (shifts_with which change s.shifts) s.ratings w estimate least) ≡ false
    → (has_inputs (with_window s.gap s.stage_array s.discharge_array a b s.corrections s.shifts s.ratings w estimate least) ≡ true)
    × (meets (from_of at (series_of which s)) (until_of at (series_of which s)) a b ≡ true)
in_window s a b which at change [] estimate least rising near stamps g k n =
    let day = with_window s.gap s.stage_array s.discharge_array a b s.corrections s.shifts s.ratings [] estimate least in
    absurd (kept_not (same_inputs day day) ((Decides-same_inputs day day).1 refl) n)
in_window s a b which at change (r ∷ rs) estimate least rising near stamps g k n =
    let lo = r.at in
    let hi = last_at r rs in
    let gap = pos (60 * s.gap) in (
      refl,
      by_test (bears_at lo hi at (series_of which s))
          (λ t. met lo hi at a b gap (series_of which s) t ((All-head (IsNear a b gap) r rs near).0) (last_has (λ n. n ≤ℤ (b +ℤ gap)) r rs (All-weaker (IsNear a b gap) (λ (x : Reading). x.at ≤ℤ (b +ℤ gap)) (λ x i. i.1) (r ∷ rs) near))
          (gap_seconds s.gap g) ((All-head (λ (x : Reading). IsStamp x.at) r rs stamps).high))
          (λ f. absurd (kept_not _
          ((Decides-same_inputs _ _).1
          (parts_kept s.gap s.stage_array s.discharge_array a b change r rs s.ratings estimate least which s.corrections s.shifts (k lo hi (ends_rise r rs rising) f))) n)),
    )

pub entry_meets : (s : StationState) (day : ℤ) (which : StationSeries) (at : ℤ) (change : List Entry → List Entry) → IsStation s → IsDay day
    → ((es : List Entry) → series.IsRising es → Keeps at change es)
    → same_inputs (station_day s day) (station_day (with_series which change s) day) ≡ false
    → (has_inputs (station_day s day) ≡ true)
    × (meets (from_of at (series_of which s)) (until_of at (series_of which s)) (day_start s day) (day_start s (day +ℤ pos 1)) ≡ true)
entry_meets s day which at change k d keeps n =
    let a = day_start s day in
    let b = day_start s (day +ℤ pos 1) in
    let gap = pos (60 * s.gap) in
    let longer = zone_steps s.zone k.zone_is day d.low d.high in
    in_window s a b which at change (window a b gap s.readings) (estimated_discharge s day) (least_cover s day) (window_rises a b gap s.readings k.readings_are.rising)
    (window_near a b gap s.readings (omega (arith, ints)) (omega (arith, ints)))
    (window_keeps (λ (r : Reading). IsStamp r.at) a b gap s.readings k.readings_are.stamps)
    k.gap_high (keeps (series_of which s) (series_rise which s k)) n

-- the time is between stamps
from_stamp : (at : ℤ) (o : Option Entry) → IsStamp at → ((e : Entry) → o ≡ Some e → IsStamp e.at) → IsStamp (says_from at o)
from_stamp at None h k = h
from_stamp at (Some e) h k = elim e.prorate as (λ p. IsStamp (cond p e.at at)) [ true ↦ k e refl | false ↦ h ]

until_stamp : (o : Option Entry) → ((e : Entry) → o ≡ Some e → IsStamp e.at) → IsStamp (touched.says_until o)
until_stamp None k = record { low = omega (arith, ints); high = omega (arith, ints) }
until_stamp (Some e) k = k e refl

pub entry_stamps : (at : ℤ) (es : List Entry) → IsStamp at → All (λ (e : Entry). IsStamp e.at) es → IsStamp (from_of at es) × IsStamp (until_of at es)
entry_stamps at es h k = (
  from_stamp at (last (lists.before instant_of at es)) h
      (λ e. last-kept (λ (x : Entry). IsStamp x.at) (lists.before instant_of at es) e (All-filter (λ (x : Entry). int_lt x.at at) (λ (x : Entry). IsStamp x.at) es k)),
  until_stamp (first (lists.after instant_of at es))
      (λ e. first-kept (λ (x : Entry). IsStamp x.at) (lists.after instant_of at es) e (All-filter (λ (x : Entry). int_lt at x.at) (λ (x : Entry). IsStamp x.at) es k)),
)
