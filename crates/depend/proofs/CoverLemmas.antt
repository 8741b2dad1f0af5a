-- The days that are compared cover the interval of what is touched.
use Rattle.std.specs.Prelude.{◌≡◌, ◌≢◌, ℕ, Bool, true, false, cond, ◌&&◌, List, [], ◌∷◌, All, IfSome, ◌⊎◌, Option, Some, None, ℤ, pos, ◌+ℤ◌, ◌-ℤ◌, ◌≤ℤ◌, ◌<ℤ◌, int_le, int_lt}
use Rattle.std.specs.Int.{int_max, int_min}
use Rattle.std.specs.List.{list_any}
use Rattle.std.specs.Ordering.{int_eq}
use Rattle.std.proofs.Common.{arith, refl, ap, sym, subst, ◌∙◌, inl, inr}
use Rattle.std.proofs.lemmas.Int.{ints, by_lt_z}
use Rattle.std.proofs.lemmas.List.Elements.{All-filter, All-head, All-tail, All-weaker}
use Rattle.fixed_units.specs.Quantities.{IsDay, IsStamp, SiteNumber, first_day, last_day}
use Rattle.fixed_units.specs.declared.readings.Reading.{Reading}
use Rattle.fixed_units.specs.Calendar.{calendar, shortest_day}
use Rattle.fixed_units.proofs.CalendarLemmas.{calendar_any, calendar_any_none}
use Rattle.rising.specs.Ends.{first, last}
use Rattle.rising.specs.Lists.{at}
use Rattle.rising.proofs.Ends.{first-kept, last-kept}
use Rattle.curves.specs.declared.entries.Entry.{Entry}
use Rattle.civil_days.specs.Starts.{IsZone, IsIn, day_start_of, calendar_end}
use Rattle.civil_days.proofs.RiseLemmas.{rise, zone_steps, zone_lengths}
use Rattle.edits.specs.Lawful.{IsLawful, IsPutPeriod, IsPutReading}
use Rattle.edits.specs.declared.content.What.{What}
use Rattle.edits.specs.declared.content.What.TheVariants.{PutReadings, DropReadings, FlagReadings, PutCorrection, DropCorrection, PutShift, DropShift, PutPeriod, DropPeriod, SetEdition}
use Rattle.readings.specs.Readings.{in_span, is_within}
use Rattle.ratings.specs.Numbered.{period_from}
use Rattle.ratings.specs.Periods.{begin}
use Rattle.ratings.specs.Spans.{Span}
use Rattle.station_inputs.specs.KeptStation.{IsStation}
use Rattle.office_inputs.specs.Stations.{station_of}
use Rattle.station_inputs.specs.Stations.{StationState, series_of}
use Rattle.station_inputs.specs.declared.series.StationSeries.{StationSeries}
use Rattle.station_inputs.specs.declared.series.StationSeries.TheVariants.{Correction, Shift}
use Rattle.office_inputs.specs.Touched.{is_filled, is_between_filled, in_reach, touched_by, meets, most_gap_seconds, IsUsedSpan}
use Rattle.station_inputs.specs.Touched.{about_dropped_period, about_entry, about_period, about_span, between_readings, end_or_last, later_end, period_end, touched_at}
use Rattle.station_inputs.specs.declared.touched.Touched.TheVariants.{Between}
use Rattle.depend.specs.Compared.{AreCompared, IsAfter, IsCover}
use Rattle.depend.proofs.EntryLemmas.{entry_stamps, from_of, series_has, until_of}

-- the starts of days
start_from : (text : List ℕ) (a b : ℤ) → IsZone text → first_day ≤ℤ a → b ≤ℤ calendar_end → a ≤ℤ b → day_start_of text a ≤ℤ day_start_of text b
start_from text a b zone low high h =
    by_lt_z a b
    (λ l. let r = rise (day_start_of text) (zone_steps text zone) a b low high l in omega (arith, ints))
    (λ m. let e : a ≡ b = omega (arith, ints) in let f = ap (day_start_of text) e in omega (arith, ints))

day_lasts : (text : List ℕ) (d next : ℤ) → IsZone text → IsDay d → next ≡ d +ℤ pos 1 → pos shortest_day ≤ℤ (day_start_of text next -ℤ day_start_of text d)
day_lasts text d next zone k e =
    let l = zone_lengths text d (day_start_of text d) (day_start_of text next) zone k refl (ap (day_start_of text) e) in
    l.shortest

-- a day meets the time between two instants
met_is : (from until a b : ℤ) → meets from until a b ≡ true → ((from -ℤ most_gap_seconds) ≤ℤ b) × (a ≤ℤ (until +ℤ most_gap_seconds))
met_is from until a b h = (grind (arith, ints), grind (arith, ints))

met_if : (from until a b : ℤ) → (from -ℤ most_gap_seconds) ≤ℤ b → a ≤ℤ (until +ℤ most_gap_seconds) → meets from until a b ≡ true
met_if from until a b h k = grind (arith, ints)

-- the day before, and the day after, within the calendar
pub record IsBefore (day before : ℤ) : Type 0 where
  pub own : IsDay day
  pub other : IsDay before
  pub one : first_day <ℤ day → before ≡ day -ℤ pos 1
  pub end : day ≡ first_day → before ≡ first_day

-- a day of a number that is clipped to the calendar
pub record IsClipped (number day : ℤ) : Type 0 where
  pub range : IsDay day
  pub inside : IsDay number → day ≡ number
  pub before : number <ℤ first_day → day ≡ first_day
  pub behind : last_day <ℤ number → day ≡ last_day

-- a day that is not clipped
inside_by : (number day : ℤ) → IsClipped number day → first_day ≤ℤ number → number ≤ℤ last_day → day ≡ number
inside_by number day c low high = c.inside (record { low = low; high = high })

pub before_from : (own number before : ℤ) → IsDay own → number ≡ own -ℤ pos 1 → IsClipped number before → IsBefore own before
before_from own number before k e c =
    let high = k.high in
    record {
      own = k;
      other = c.range;
      one = λ l. inside_by number before c (omega (arith, ints)) (omega (arith, ints)) ∙ e;
      end = λ f. c.before (omega (arith, ints));
    }

pub after_from : (own number after : ℤ) → IsDay own → number ≡ own +ℤ pos 1 → IsClipped number after → IsAfter own after
after_from own number after k e c =
    let low = k.low in
    record {
      own = k;
      other = c.range;
      one = λ l. inside_by number after c (omega (arith, ints)) (omega (arith, ints)) ∙ e;
      end = λ f. c.behind (omega (arith, ints));
    }

met_low : (text : List ℕ) (own before at d : ℤ) → IsZone text → IsBefore own before → IsIn text own at → IsDay d
    → (at -ℤ most_gap_seconds) ≤ℤ day_start_of text (d +ℤ pos 1) → before ≤ℤ d
met_low text own before at d zone b i k m =
    let low = k.low in
    let high = k.high in
    let own_low = b.own.low in
    let own_high = b.own.high in
    by_lt_z first_day own
    (λ l.
    let e = b.one l in
    by_lt_z d (own -ℤ pos 1)
    (λ n.
    let lasts = day_lasts text (own -ℤ pos 1) own zone (record { low = omega (arith, ints); high = omega (arith, ints) }) (omega (arith, ints)) in
    let rises = start_from text (d +ℤ pos 1) (own -ℤ pos 1) zone (omega (arith, ints)) (omega (arith, ints)) (omega (arith, ints)) in
    let from = i.from in
    absurd (omega (arith, ints)))
    (λ n. omega (arith, ints)))
    (λ l. let e = b.end (omega (arith, ints)) in omega (arith, ints))

met_high : (text : List ℕ) (own after at d : ℤ) → IsZone text → IsAfter own after → IsIn text own at → IsDay d
    → day_start_of text d ≤ℤ (at +ℤ most_gap_seconds) → d ≤ℤ after
met_high text own after at d zone b i k m =
    let low = k.low in
    let high = k.high in
    let own_low = b.own.low in
    let own_high = b.own.high in
    by_lt_z own last_day
    (λ l.
    let e = b.one l in
    by_lt_z (own +ℤ pos 1) d
    (λ n.
    let lasts = day_lasts text (own +ℤ pos 1) (own +ℤ pos 2) zone (record { low = omega (arith, ints); high = omega (arith, ints) }) (omega (arith, ints)) in
    let rises = start_from text (own +ℤ pos 2) d zone (omega (arith, ints)) (omega (arith, ints)) (omega (arith, ints)) in
    let until = i.until in
    absurd (omega (arith, ints)))
    (λ n. omega (arith, ints)))
    (λ l. let e = b.end (omega (arith, ints)) in omega (arith, ints))

before_least : (own before d : ℤ) → IsBefore own before → before <ℤ d → own ≤ℤ d
before_least own before d b l =
    let low = b.own.low in
    by_lt_z first_day own (λ m. let e = b.one m in omega (arith, ints)) (λ m. let e = b.end (omega (arith, ints)) in omega (arith, ints))

after_most : (own after d : ℤ) → IsAfter own after → d <ℤ after → d ≤ℤ own
after_most own after d b l =
    let high = b.own.high in
    by_lt_z own last_day (λ m. let e = b.one m in omega (arith, ints)) (λ m. let e = b.end (omega (arith, ints)) in omega (arith, ints))

-- the days about two instants
abbrev pub meets_in : List ℕ → ℤ → ℤ → ℤ → Bool
meets_in text from until day = meets from until (day_start_of text day) (day_start_of text (day +ℤ pos 1))

met_between : (text : List ℕ) (own other from until d : ℤ) → IsZone text → IsDay own → IsDay other → IsIn text own from → IsIn text other until
    → own ≤ℤ d → d ≤ℤ other → meets_in text from until d ≡ true
met_between text own other from until d zone k l i j a b =
    let low = k.low in
    let high = l.high in
    let early = start_from text (own +ℤ pos 1) (d +ℤ pos 1) zone (omega (arith, ints)) (omega (arith, ints)) (omega (arith, ints)) in
    let late = start_from text d other zone (omega (arith, ints)) (omega (arith, ints)) b in
    let x = i.until in
    let y = j.from in
    met_if from until (day_start_of text d) (day_start_of text (d +ℤ pos 1)) (omega (arith, ints)) (omega (arith, ints))

pub near_cover : (text : List ℕ) (own other before after from until : ℤ) → IsZone text → IsIn text own from → IsIn text other until
    → IsBefore own before → IsAfter other after → IsCover (meets_in text from until) before after
near_cover text own other before after from until zone i j b a = record {
  begins = b.other;
  ends = a.other;
  all = λ d k m.
      let met = met_is from until (day_start_of text d) (day_start_of text (d +ℤ pos 1)) m in
      (met_low text own before from d zone b i k met.0, met_high text other after until d zone a j k met.1);
  only = λ d k l m. met_between text own other from until d zone b.own a.own i j (before_least own before d b l) (after_most other after d a m);
}

-- tests that agree are covered alike
pub cover_same : (p q : ℤ → Bool) (from until : ℤ) → ((d : ℤ) → q d ≡ p d) → IsCover p from until → IsCover q from until
cover_same p q from until e h = record {
  begins = h.begins;
  ends = h.ends;
  all = λ d k t. h.all d k (sym (e d) ∙ t);
  only = λ d k l m. e d ∙ h.only d k l m;
}

and_true : (b : Bool) → (b && true) ≡ b
and_true true = refl
and_true false = refl

both_of : (b c : Bool) → (b && c) ≡ true → (b ≡ true) × (c ≡ true)
both_of true true e = (refl, refl)
both_of true false e = absurd (cc)
both_of false c e = absurd (cc)

both_true : (b c : Bool) → b ≡ true → c ≡ true → (b && c) ≡ true
both_true b c e f = rw (e, f) refl

and_none : (b c : Bool) → c ≡ false → (b && c) ≡ false
and_none true c e = e
and_none false c e = refl

-- the interval of a time between two instants
pub about_cover : (stations : List StationState) (site : SiteNumber) (s : StationState) (text : List ℕ) (from until : ℤ) (cells : Bool) (a b : ℤ)
    → cells ≡ false → station_of stations site ≡ Some s → text ≡ s.zone → IsCover (meets_in text from until) a b → IsCover (in_reach stations site (Between from until cells)) a b
about_cover stations site s text from until true a b n e z h = absurd (cc)
about_cover stations site s text from until false a b n e z h =
    cover_same (meets_in text from until) (in_reach stations site (Between from until false)) a b (λ d. rw (e, sym z) (and_true (meets_in text from until d))) h

pub greater : (x y : ℤ) → (x ≤ℤ int_max x y) × ((y ≤ℤ int_max x y) × ((int_max x y ≡ x) ⊎ (int_max x y ≡ y)))
greater x y = by_lt_z y x (λ l. let e : int_lt y x ≡ true = grind (arith, ints) in rw e (omega (arith, ints), (omega (arith, ints), inl refl)))
    (λ l. let e : int_lt y x ≡ false = grind (arith, ints) in rw e (omega (arith, ints), (omega (arith, ints), inr refl)))

lesser : (x y : ℤ) → (int_min x y ≤ℤ x) × ((int_min x y ≤ℤ y) × ((int_min x y ≡ x) ⊎ (int_min x y ≡ y)))
lesser x y = by_lt_z y x (λ l. let e : int_lt y x ≡ true = grind (arith, ints) in rw e (omega (arith, ints), (omega (arith, ints), inr refl)))
    (λ l. let e : int_lt y x ≡ false = grind (arith, ints) in rw e (omega (arith, ints), (omega (arith, ints), inl refl)))

max_day : (x y : ℤ) → IsDay x → IsDay y → IsDay (int_max x y)
max_day x y k l = elim ((greater x y).1.1) [ inl e ↦ subst IsDay (sym e) k | inr e ↦ subst IsDay (sym e) l ]

min_day : (x y : ℤ) → IsDay x → IsDay y → IsDay (int_min x y)
min_day x y k l = elim ((lesser x y).1.1) [ inl e ↦ subst IsDay (sym e) k | inr e ↦ subst IsDay (sym e) l ]

max_most : (x y d : ℤ) → x ≤ℤ d → y ≤ℤ d → int_max x y ≤ℤ d
max_most x y d a b = elim ((greater x y).1.1) [ inl e ↦ omega (arith, ints) | inr e ↦ omega (arith, ints) ]

min_least : (x y d : ℤ) → d ≤ℤ x → d ≤ℤ y → d ≤ℤ int_min x y
min_least x y d a b = elim ((lesser x y).1.1) [ inl e ↦ omega (arith, ints) | inr e ↦ omega (arith, ints) ]

both_cover : (p q : ℤ → Bool) (a b x y : ℤ) → IsCover p a b → IsCover q x y → IsCover (λ d. p d && q d) (int_max a x) (int_min b y)
both_cover p q a b x y h k = record {
  begins = max_day a x h.begins k.begins;
  ends = min_day b y h.ends k.ends;
  all = λ d l t.
      let both = both_of (p d) (q d) t in
      let one = h.all d l both.0 in
      let two = k.all d l both.1 in
      (max_most a x d one.0 two.0, min_least b y d one.1 two.1);
  only = λ d l m n.
      let g = greater a x in
      let s = lesser b y in
      let g0 = g.0 in
      let g1 = g.1.0 in
      let s0 = s.0 in
      let s1 = s.1.0 in
      both_true (p d) (q d) (h.only d l (omega (arith, ints)) (omega (arith, ints))) (k.only d l (omega (arith, ints)) (omega (arith, ints)));
}

pub common_cover : (stations : List StationState) (site : SiteNumber) (s : StationState) (text : List ℕ) (from until : ℤ) (cells : Bool) (a b x y low high : ℤ)
    → cells ≡ true → station_of stations site ≡ Some s → text ≡ s.zone → IsCover (meets_in text from until) a b → IsCover (is_between_filled stations site) x y
    → low ≡ int_max a x → high ≡ int_min b y → IsCover (in_reach stations site (Between from until cells)) low high
common_cover stations site s text from until false a b x y low high n e z h k f l = absurd (cc)
common_cover stations site s text from until true a b x y low high n e z h k f l =
    rw (f, l)
    (cover_same (λ d. meets_in text from until d && is_between_filled stations site d) (in_reach stations site (Between from until true)) (int_max a x) (int_min b y)
    (λ d. rw (e, sym z) refl) (both_cover (meets_in text from until) (is_between_filled stations site) a b x y h k))

pub no_station : (stations : List StationState) (site : SiteNumber) (from until : ℤ) (cells : Bool) → station_of stations site ≡ None
    → AreCompared (in_reach stations site (Between from until cells)) None
no_station stations site from until cells e d k = rw e refl

pub none_common : (stations : List StationState) (site : SiteNumber) (from until : ℤ) (cells : Bool) → cells ≡ true
    → AreCompared (is_between_filled stations site) None → AreCompared (in_reach stations site (Between from until cells)) None
none_common stations site from until false n h d k = absurd (cc)
none_common stations site from until true n h d k = and_none _ (is_between_filled stations site d) (h d k)

-- the days from the first that has inputs to the last
not_and : (b c : Bool) → (b ≡ true → c ≡ true → ⊥) → (b && c) ≡ false
not_and true true h = absurd (h refl refl)
not_and true false h = refl
not_and false c h = refl

le_is : (x y : ℤ) → int_le x y ≡ true → x ≤ℤ y
le_is x y h = grind (arith, ints)

le_if : (x y : ℤ) → x ≤ℤ y → int_le x y ≡ true
le_if x y h = grind (arith, ints)

abbrev begun : List StationState → SiteNumber → ℤ → Bool
begun stations site day = list_any (λ earlier. int_le earlier day && is_filled stations site earlier) calendar

abbrev goes_on : List StationState → SiteNumber → ℤ → Bool
goes_on stations site day = list_any (λ later. int_le day later && is_filled stations site later) calendar

used_low : (stations : List StationState) (site : SiteNumber) (from until day : ℤ) → IsUsedSpan stations site (Some (from, until))
    → is_between_filled stations site day ≡ true → from ≤ℤ day
used_low stations site from until day u h =
    by_lt_z day from
    (λ l.
    let found = (both_of (begun stations site day) (goes_on stations site day) h).0 in
    let none = calendar_any_none (λ earlier. int_le earlier day && is_filled stations site earlier)
    (λ d k. not_and (int_le d day) (is_filled stations site d) (λ t f. let a = le_is d day t in let b = (u.2 d k f).0 in omega (arith, ints))) in
    let n : false ≡ true = sym none ∙ found in
    absurd (cc))
    (λ l. l)

used_high : (stations : List StationState) (site : SiteNumber) (from until day : ℤ) → IsUsedSpan stations site (Some (from, until))
    → is_between_filled stations site day ≡ true → day ≤ℤ until
used_high stations site from until day u h =
    by_lt_z until day
    (λ l.
    let found = (both_of (begun stations site day) (goes_on stations site day) h).1 in
    let none = calendar_any_none (λ later. int_le day later && is_filled stations site later)
    (λ d k. not_and (int_le day d) (is_filled stations site d) (λ t f. let a = le_is day d t in let b = (u.2 d k f).1 in omega (arith, ints))) in
    let n : false ≡ true = sym none ∙ found in
    absurd (cc))
    (λ l. l)

pub used_cover : (stations : List StationState) (site : SiteNumber) (from until : ℤ) → IsUsedSpan stations site (Some (from, until)) → IsDay from → IsDay until
    → IsCover (is_between_filled stations site) from until
used_cover stations site from until u f l = record {
  begins = f;
  ends = l;
  all = λ d k t. (used_low stations site from until d u t, used_high stations site from until d u t);
  only = λ d k m n.
      both_true _ _
      (calendar_any (λ earlier. int_le earlier d && is_filled stations site earlier) from f
      (both_true (int_le from d) (is_filled stations site from) (le_if from d (omega (arith, ints))) u.0))
      (calendar_any (λ later. int_le d later && is_filled stations site later) until l
      (both_true (int_le d until) (is_filled stations site until) (le_if d until (omega (arith, ints))) u.1));
}

pub none_used : (stations : List StationState) (site : SiteNumber) → IsUsedSpan stations site None → AreCompared (is_between_filled stations site) None
none_used stations site u day d =
    not_and _ _ (λ t v.
    let none = calendar_any_none (λ earlier. int_le earlier day && is_filled stations site earlier) (λ x k. and_none (int_le x day) (is_filled stations site x) (u x k)) in
    let n : false ≡ true = sym none ∙ t in
    absurd (cc))

-- what holds of each element holds of the one that is found
at_step : {X : Type 0} (P : X → Type 0) (x y : X) (o : Option X) (b : Bool) → P x → (o ≡ Some y → P y) → cond b (Some x) o ≡ Some y → P y
at_step P x y o true h k e = let same : x ≡ y = cc in subst P same h
at_step P x y o false h k e = k e

at_kept : {X : Type 0} (place : X → ℤ) (P : X → Type 0) (n : ℤ) (xs : List X) → All P xs → (y : X) → at place n xs ≡ Some y → P y
at_kept place P n [] h y e = absurd (cc)
at_kept place P n (x ∷ xs) h y e = at_step P x y (at place n xs) (int_eq (place x) n) (All-head P x xs h) (at_kept place P n xs (All-tail P x xs h) y) e

-- what an edit touches is between stamps
between_stamps : (o p : Option Reading) (from until : ℤ) (cells : Bool) → ((r : Reading) → o ≡ Some r → IsStamp r.at) → ((r : Reading) → p ≡ Some r → IsStamp r.at)
    → between_readings o p ≡ Between from until cells → IsStamp from × IsStamp until
between_stamps None p from until cells h k e = absurd (cc)
between_stamps (Some r) None from until cells h k e = absurd (cc)
between_stamps (Some r) (Some t) from until cells h k e =
    let f : r.at ≡ from = cc in
    let g : t.at ≡ until = cc in
    (subst IsStamp f (h r refl), subst IsStamp g (k t refl))

span_between : (s : StationState) (a b from until : ℤ) (cells : Bool) → IsStation s → about_span a b s.readings ≡ Between from until cells → IsStamp from × IsStamp until
span_between s a b from until cells k e =
    let all = All-filter (is_within a b) (λ (r : Reading). IsStamp r.at) s.readings k.readings_are.stamps in
    between_stamps (first (in_span a b s.readings)) (last (in_span a b s.readings)) from until cells
    (λ r f. first-kept (λ (r : Reading). IsStamp r.at) (in_span a b s.readings) r all f) (λ r f. last-kept (λ (r : Reading). IsStamp r.at) (in_span a b s.readings) r all f) e

entry_between : (at : ℤ) (es : List Entry) (from until : ℤ) (cells : Bool) → IsStamp at → All (λ (e : Entry). IsStamp e.at) es
    → about_entry at es ≡ Between from until cells → IsStamp from × IsStamp until
entry_between at es from until cells h k e =
    let stamps = entry_stamps at es h k in
    let f : from_of at es ≡ from = cc in
    let g : until_of at es ≡ until = cc in
    (subst IsStamp f stamps.0, subst IsStamp g stamps.1)

series_between : (s : StationState) (which : StationSeries) (at from until : ℤ) (cells : Bool) → IsStation s → IsStamp at
    → about_entry at (series_of which s) ≡ Between from until cells → IsStamp from × IsStamp until
series_between s which at from until cells k h e =
    let kept = k.entries_at_stamps in
    entry_between at (series_of which s) from until cells h
    (series_has (λ (es : List Entry). All (λ (x : Entry). IsStamp x.at) es) which s kept.first kept.second kept.third kept.shifts) e

-- a period begins at a stamp, and ends at one or at the last
end_stamp : (until : Option ℤ) → IfSome until IsStamp → IsStamp (end_or_last until)
end_stamp None h = record { low = omega (arith, ints); high = omega (arith, ints) }
end_stamp (Some until) h = h

max_stamp : (x y : ℤ) → IsStamp x → IsStamp y → IsStamp (int_max x y)
max_stamp x y k l = elim ((greater x y).1.1) [ inl e ↦ subst IsStamp (sym e) k | inr e ↦ subst IsStamp (sym e) l ]

later_stamp : (p : Span) (o : Option Span) → IsPutPeriod p → ((q : Span) → o ≡ Some q → IsPutPeriod q) → IsStamp (later_end p o)
later_stamp p None h k = end_stamp p.until h.ends
later_stamp p (Some q) h k = max_stamp (period_end p) (period_end q) (end_stamp p.until h.ends) (end_stamp q.until (k q refl).ends)

period_between : (first last from until : ℤ) (cells : Bool) → IsStamp first → IsStamp last → about_period first last ≡ Between from until cells → IsStamp from × IsStamp until
period_between first last from until cells h k e =
    let f : first ≡ from = cc in
    let g : last ≡ until = cc in
    (subst IsStamp f h, subst IsStamp g k)

dropped_between : (o : Option Span) (from until : ℤ) (cells : Bool) → ((q : Span) → o ≡ Some q → IsPutPeriod q) → about_dropped_period o ≡ Between from until cells
    → IsStamp from × IsStamp until
dropped_between None from until cells k e = absurd (cc)
dropped_between (Some q) from until cells k e = let h = k q refl in period_between q.from (period_end q) from until cells h.begins (end_stamp q.until h.ends) e

stamps_at : (s : StationState) (what : What) (from until : ℤ) (cells : Bool) → IsStation s → IsLawful what → ((day : ℤ) (least : Option ℕ) → what ≢ SetEdition day least) → touched_at s what ≡ Between from until cells
    → IsStamp from × IsStamp until
stamps_at s (PutReadings readings) from until cells k l n e =
    let all = All-weaker IsPutReading (λ (r : Reading). IsStamp r.at) (λ r k. k.stamp) readings l.each in
    between_stamps (first readings) (last readings) from until cells
    (λ r f. first-kept (λ (r : Reading). IsStamp r.at) readings r all f) (λ r f. last-kept (λ (r : Reading). IsStamp r.at) readings r all f) e
stamps_at s (DropReadings a b) from until cells k l n e = span_between s a b from until cells k e
stamps_at s (FlagReadings a b flag) from until cells k l n e = span_between s a b from until cells k e
stamps_at s (PutCorrection set at curve prorate) from until cells k l n e = series_between s (Correction set) at from until cells k l.1 e
stamps_at s (DropCorrection set at) from until cells k l n e = series_between s (Correction set) at from until cells k l.1 e
stamps_at s (PutShift at curve prorate) from until cells k l n e = series_between s Shift at from until cells k l.0 e
stamps_at s (DropShift at) from until cells k l n e = series_between s Shift at from until cells k l e
stamps_at s (PutPeriod p) from until cells k l n e =
    period_between p.from (later_end p (period_from p.from s.ratings.periods)) from until cells l.begins
    (later_stamp p (period_from p.from s.ratings.periods) l (at_kept begin IsPutPeriod p.from s.ratings.periods k.periods_are)) e
stamps_at s (DropPeriod start) from until cells k l n e =
    dropped_between (period_from start s.ratings.periods) from until cells (at_kept begin IsPutPeriod start s.ratings.periods k.periods_are) e
stamps_at s (SetEdition day least) from until cells k l n e = absurd (n day least refl)
stamps_at s _ from until cells k l n e = absurd (cc)

pub stamps : (o : Option StationState) (what : What) (from until : ℤ) (cells : Bool) → ((s : StationState) → o ≡ Some s → IsStation s) → IsLawful what
    → ((day : ℤ) (least : Option ℕ) → what ≢ SetEdition day least) → touched_by o what ≡ Between from until cells → IsStamp from × IsStamp until
stamps None what from until cells k l n e = absurd (cc)
stamps (Some s) what from until cells k l n e = stamps_at s what from until cells (k s refl) l n e
