-- The series of a station: what they keep to, also with an entry put or taken out.
use Rattle.std.specs.Prelude.{◌≡◌, ℕ, zero, suc, true, false, List, ◌++◌, option_to_list, Option, Some, None, Result, Ok, Err, is_ok, OnOk, OnErr, ℤ, All}
use Rattle.std.proofs.Common.{arith, refl, ap, sym, subst, ◌∙◌}
use Rattle.std.proofs.lemmas.List.Elements.{All-weaker}
use Rattle.fixed_units.specs.Quantities.{IsAmount, IsStamp}
use Rattle.rising.specs.Lists as lists
use Rattle.rising.proofs.Splitting.{whole}
use Rattle.rising.proofs.Placing.{put_rises, put_keeps, without_rises, without_keeps}
use Rattle.curves.specs.declared.entries.Entry.{Entry}
use Rattle.curves.specs.Corrections.{Corrections, AreCorrections, with_set_changed}
use Rattle.curves.specs.Entries.{IsSeries, IsRising, instant_of, put, without, stands_at}
use Rattle.edits.specs.Lawful.{IsPutCurve, IsPutPoint, IsSetNumber}
use Rattle.station_inputs.specs.KeptStation.{IsStation, AreAtStamps}
use Rattle.station_inputs.specs.Series.{IsOfStation, corrections_with, shifts_with}
use Rattle.station_inputs.specs.Stations.{StationState, series_of, with_entry, with_inputs, with_series, without_entry}
use Rattle.station_inputs.proofs.KeptLemmas.{inputs_are}
use Rattle.station_inputs.specs.declared.series.StationSeries.{StationSeries}
use Rattle.station_inputs.specs.declared.series.StationSeries.TheVariants.{Correction, Shift}

-- what the entries of a series keep to
pub record AreEntries (entries : List Entry) : Type 0 where
  pub series : IsSeries entries
  pub stamps : All (λ e. IsStamp e.at) entries

pub series_are : (s : StationState) (which : StationSeries) → IsStation s → IsOfStation which → AreEntries (series_of which s)
series_are s (Correction zero) k i = absurd (let l = i.least in omega arith)
series_are s (Correction (suc zero)) k i = record { series = k.corrections_are.first; stamps = k.entries_at_stamps.first }
series_are s (Correction (suc (suc zero))) k i = record { series = k.corrections_are.second; stamps = k.entries_at_stamps.second }
series_are s (Correction (suc (suc (suc zero)))) k i = record { series = k.corrections_are.third; stamps = k.entries_at_stamps.third }
series_are s (Correction (suc (suc (suc (suc n))))) k i = absurd (let g = i.greatest in omega arith)
series_are s Shift k i = record { series = k.shifts_are; stamps = k.entries_at_stamps.shifts }

-- and so do they with an entry put or taken out
put_are : (e : Entry) (es : List Entry) → IsPutCurve e.curve → IsStamp e.at → AreEntries es → AreEntries (put e es)
put_are e es c t k =
    let own : All (λ (p : ℤ × ℤ). IsAmount p.1) e.curve = All-weaker IsPutPoint (λ (p : ℤ × ℤ). IsAmount p.1) (λ p h. h.amount) e.curve c.each in
    record {
      series = record {
        rising = put_rises instant_of e es k.series.rising;
        amounts = put_keeps instant_of (λ (x : Entry). All (λ (p : ℤ × ℤ). IsAmount p.1) x.curve) e es own k.series.amounts;
      };
      stamps = put_keeps instant_of (λ (x : Entry). IsStamp x.at) e es t k.stamps;
    }

without_are : (at : ℤ) (es : List Entry) → AreEntries es → AreEntries (without at es)
without_are at es k = record {
  series = record {
    rising = without_rises instant_of at es k.series.rising;
    amounts = without_keeps instant_of (λ (x : Entry). All (λ (p : ℤ × ℤ). IsAmount p.1) x.curve) at es k.series.amounts;
  };
  stamps = without_keeps instant_of (λ (x : Entry). IsStamp x.at) at es k.stamps;
}

abbrev AreAll : Corrections → List Entry → Type 0
AreAll c sh = AreCorrections c × (IsSeries sh × AreAtStamps c sh)

changed_are : (s : StationState) (which : StationSeries) (change : List Entry → List Entry) → IsStation s → IsOfStation which
    → AreEntries (change (series_of which s)) → AreAll (corrections_with which change s.corrections) (shifts_with which change s.shifts)
changed_are s (Correction zero) change k i h = absurd (let l = i.least in omega arith)
changed_are s (Correction (suc zero)) change k i h =
    let c = k.corrections_are in
    let a = k.entries_at_stamps in
    (record { first = h.series; second = c.second; third = c.third }, (k.shifts_are, record { first = h.stamps; second = a.second; third = a.third; shifts = a.shifts }))
changed_are s (Correction (suc (suc zero))) change k i h =
    let c = k.corrections_are in
    let a = k.entries_at_stamps in
    (record { first = c.first; second = h.series; third = c.third }, (k.shifts_are, record { first = a.first; second = h.stamps; third = a.third; shifts = a.shifts }))
changed_are s (Correction (suc (suc (suc zero)))) change k i h =
    let c = k.corrections_are in
    let a = k.entries_at_stamps in
    (record { first = c.first; second = c.second; third = h.series }, (k.shifts_are, record { first = a.first; second = a.second; third = h.stamps; shifts = a.shifts }))
changed_are s (Correction (suc (suc (suc (suc n))))) change k i h = absurd (let g = i.greatest in omega arith)
changed_are s Shift change k i h =
    let a = k.entries_at_stamps in
    (k.corrections_are, (h.series, record { first = a.first; second = a.second; third = a.third; shifts = h.stamps }))

changed_station : (s : StationState) (which : StationSeries) (change : List Entry → List Entry) → IsStation s → IsOfStation which
    → AreEntries (change (series_of which s)) → IsStation (with_series which change s)
changed_station s which change k i h =
    let all = changed_are s which change k i h in
    inputs_are (corrections_with which change s.corrections) (shifts_with which change s.shifts) s.ratings s.measurements s.estimates s.editions s.readings s k
    all.0 all.1.0 all.1.1 k.ratings_are k.periods_are k.measurements_are k.estimates_are k.editions_are k.readings_are

pub put_station : (s : StationState) (which : StationSeries) (e : Entry) → IsStation s → IsOfStation which → IsPutCurve e.curve → IsStamp e.at
    → IsStation (with_entry which e s)
put_station s which e k i c t = changed_station s which (put e) k i (put_are e (series_of which s) c t (series_are s which k i))

pub without_station : (s : StationState) (which : StationSeries) (at : ℤ) → IsStation s → IsOfStation which → IsStation (without_entry which at s)
without_station s which at k i = changed_station s which (without at) k i (without_are at (series_of which s) (series_are s which k i))

-- the same with the entries that its sets, or its shifts, end with
abbrev with_sets : StationState → Corrections → StationState
with_sets s sets = with_inputs sets s.shifts s.ratings s.measurements s.estimates s.editions s.readings s

abbrev with_shifts : StationState → List Entry → StationState
with_shifts s shifts = with_inputs s.corrections shifts s.ratings s.measurements s.estimates s.editions s.readings s

pub set_put : (s : StationState) (set : ℕ) (e : Entry) (new : Corrections) → IsStation s → IsSetNumber set → IsPutCurve e.curve → IsStamp e.at
    → new ≡ with_set_changed set (put e) s.corrections → IsStation (with_sets s new)
set_put s set e new k i c t n = subst (λ (sets : Corrections). IsStation (with_sets s sets)) (sym n) (put_station s (Correction set) e k i c t)

pub set_dropped : (s : StationState) (set : ℕ) (at : ℤ) (new : Corrections) → IsStation s → IsSetNumber set
    → new ≡ with_set_changed set (without at) s.corrections → IsStation (with_sets s new)
set_dropped s set at new k i n = subst (λ (sets : Corrections). IsStation (with_sets s sets)) (sym n) (without_station s (Correction set) at k i)

pub shift_put : (s : StationState) (e : Entry) (new : List Entry) → IsStation s → IsPutCurve e.curve → IsStamp e.at
    → new ≡ put e s.shifts → IsStation (with_shifts s new)
shift_put s e new k c t n = subst (λ (shifts : List Entry). IsStation (with_shifts s shifts)) (sym n) (put_station s Shift e k tt c t)

pub shift_dropped : (s : StationState) (at : ℤ) (new : List Entry) → IsStation s → new ≡ without at s.shifts → IsStation (with_shifts s new)
shift_dropped s at new k n = subst (λ (shifts : List Entry). IsStation (with_shifts s shifts)) (sym n) (without_station s Shift at k tt)

-- taking out where nothing stands changes nothing, and takes one away at most
none_there : (at : ℤ) (es : List Entry) (o : Option Entry) → IsRising es → lists.at instant_of at es ≡ o → o ≡ None → without at es ≡ es
none_there at es o h f n =
    sym (whole instant_of at es h ∙ ap (λ (p : Option Entry). lists.before instant_of at es ++ (option_to_list p ++ lists.after instant_of at es)) (f ∙ n))

none_step : (at : ℤ) (es : List Entry) (o : Option Entry) → IsRising es → lists.at instant_of at es ≡ o → stands_at at es ≡ false → without at es ≡ es
none_step at es None h f n = none_there at es None h f refl
none_step at es (Some e) h f n = absurd (let k : stands_at at es ≡ true = rw f refl in cc)

pub nothing_taken : (at : ℤ) (es : List Entry) → IsRising es → stands_at at es ≡ false → without at es ≡ es
nothing_taken at es h n = none_step at es (lists.at instant_of at es) h refl n

pub taken : {T E : Type 0} (r : Result T E) (at : ℤ) (es new : List Entry) → IsRising es → is_ok r ≡ stands_at at es
    → OnOk r (new ≡ without at es) → OnErr r (new ≡ es) → new ≡ without at es
taken (Ok t) at es new h f ok err = ok
taken (Err e) at es new h f ok err = err ∙ sym (nothing_taken at es h (sym f))
