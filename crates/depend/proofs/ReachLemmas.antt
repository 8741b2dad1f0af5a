-- The days that are found by comparing those that cover the interval.
use Rattle.std.specs.Prelude.{◌≡◌, ◌≤◌, ◌+◌, ℕ, Bool, true, false, not, List, [], ◌∷◌, ◌++◌, filter, length, AllPairs, None, Some, ℤ, pos, ◌+ℤ◌, ◌≤ℤ◌, ◌<ℤ◌}
use Rattle.std.proofs.Common.{arith, refl, ap, sym, subst, ◌∙◌, append_assoc}
use Rattle.std.proofs.lemmas.Int.{ints}
use Rattle.std.proofs.lemmas.List.{append-nil}
use Rattle.std.proofs.lemmas.List.Elements.{filter-append, filter_agree}
use Rattle.fixed_units.specs.Quantities.{IsDay, SiteNumber, first_day, last_day}
use Rattle.fixed_units.specs.Calendar.{calendar}
use Rattle.fixed_units.proofs.CalendarLemmas.{calendar_none}
use Rattle.day_inputs.specs.Equality.{same_inputs}
use Rattle.edits.specs.declared.content.Edit.{Edit}
use Rattle.office_inputs.specs.Changes.{changed_days, keeps_day}
use Rattle.office_inputs.specs.Kept.{AreStations, states_of}
use Rattle.station_inputs.specs.Changes.{keeps_station_day}
use Rattle.station_inputs.specs.KeptStation.{KeptStation}
use Rattle.office_inputs.specs.Refusals.{refusal_of}
use Rattle.office_inputs.specs.Stations.{station_of, inputs_of_day, stations_after}
use Rattle.station_inputs.specs.Stations.{StationState}
use Rattle.office_inputs.specs.Touched.{in_reach, touched_of, interval}
use Rattle.office_inputs.specs.declared.limits.Limits.{Limits}
use Rattle.depend.specs.Compared.{days_within, IsCover, AreCompared}
use Rattle.office_inputs.proofs.KeepLemmas.{add_told, adds_none, change_told}
use Rattle.depend.proofs.CalendarLemmas.{within_cons, within_none, calendar_span, calendar_rises, span_length}
use Rattle.depend.proofs.IntervalLemmas.{no_day_outside}

-- what was found of the days before the next one
pub record AreFound (changed : ℤ → Bool) (first last next : ℤ) (days : List ℤ) : Type 0 where
  pub low : first_day ≤ℤ next
  pub rest : days ++ filter changed (days_within next last) ≡ filter changed (days_within first last)

-- and the steps that were taken for them, one each
abbrev pub AreCounted : ℤ → ℤ → ℤ → ℕ → ℕ → Type 0
AreCounted first last next before steps = steps + length (days_within next last) ≡ before + length (days_within first last)

pub found_first : (changed : ℤ → Bool) (first last : ℤ) → IsDay first → AreFound changed first last first []
found_first changed first last h = record { low = h.low; rest = refl }

found_next : (changed : ℤ → Bool) (first last next : ℤ) (days more : List ℤ) → next ≤ℤ last → more ≡ days ++ filter changed (next ∷ [])
    → AreFound changed first last next days → AreFound changed first last (next +ℤ pos 1) more
found_next changed first last next days more l m h =
    let rest = days_within (next +ℤ pos 1) last in
    record {
      low = (let a = h.low in omega (arith, ints));
      rest =
          ap (λ (x : List ℤ). x ++ filter changed rest) m
          ∙ append_assoc days (filter changed (next ∷ [])) (filter changed rest)
          ∙ ap (λ (x : List ℤ). days ++ x) (sym (filter-append changed (next ∷ []) rest) ∙ ap (filter changed) (sym (within_cons next last l)))
          ∙ h.rest;
    }

pub found_after : (changed : ℤ → Bool) (first last number next : ℤ) (days more : List ℤ) → number ≤ℤ last → next ≡ number +ℤ pos 1
    → more ≡ days ++ filter changed (number ∷ []) → AreFound changed first last number days → AreFound changed first last next more
found_after changed first last number next days more l e m h = rw e (found_next changed first last number days more l m h)

pub found_last : (changed : ℤ → Bool) (first last next : ℤ) (days : List ℤ) → last <ℤ next
    → AreFound changed first last next days → days ≡ filter changed (days_within first last)
found_last changed first last next days l h =
    sym (append-nil days) ∙ ap (λ (x : List ℤ). days ++ filter changed x) (sym (within_none next last l)) ∙ h.rest

pub counted_after : (first last number next : ℤ) (before steps after : ℕ) → number ≤ℤ last → next ≡ number +ℤ pos 1 → after ≡ steps + 1
    → AreCounted first last number before steps → AreCounted first last next before after
counted_after first last number next before steps after l e f h =
    rw e (let a = ap length (within_cons number last l) in omega arith)

pub steps_left : (first last number : ℤ) (before steps after : ℕ) → number ≤ℤ last → after ≡ steps + 1
    → AreCounted first last number before steps → after ≤ before + length (days_within first last)
steps_left first last number before steps after l f h =
    let a = ap length (within_cons number last l) in
    omega arith

-- the changed days are those that are found where the interval is covered
not_false : (b : Bool) → not b ≡ true → b ≡ false
not_false true e = absurd (cc)
not_false false e = refl

not_kept_none : (b c : Bool) → (b ≡ false → c ≡ true) → c ≡ false → not b ≡ false
not_kept_none true c h e = refl
not_kept_none false c h e = absurd (let k = h refl in cc)

pub found_days : (limits : Limits) (kept : List KeptStation) (edit : Edit) (s : StationState) (first last : ℤ) → AreStations kept
    → refusal_of limits (states_of kept) edit ≡ None → station_of (states_of kept) edit.site ≡ Some s
    → IsCover (in_reach (states_of kept) edit.site (touched_of (states_of kept) edit)) first last
    → filter (λ day. not (keeps_station_day s edit.what day)) (days_within first last) ≡ changed_days (states_of kept) edit
found_days limits kept edit s first last k r e c =
    filter_agree (λ day. not (keeps_station_day s edit.what day)) (λ day. not (keeps_day (states_of kept) edit day))
    (λ d. ap not (change_told (states_of kept) edit s d (adds_none limits (states_of kept) edit s r e) e)) (days_within first last)
    ∙ sym (calendar_span (λ day. not (keeps_day (states_of kept) edit day)) first last c.begins c.ends
    (λ d l t. c.all d l (no_day_outside limits kept edit d k r l (not_false (keeps_day (states_of kept) edit d) t))))

pub no_days : (limits : Limits) (kept : List KeptStation) (edit : Edit) → AreStations kept → refusal_of limits (states_of kept) edit ≡ None
    → AreCompared (in_reach (states_of kept) edit.site (touched_of (states_of kept) edit)) None → [] ≡ changed_days (states_of kept) edit
no_days limits kept edit k r c =
    sym (calendar_none (λ day. not (keeps_day (states_of kept) edit day))
    (λ d l. not_kept_none (keeps_day (states_of kept) edit d) (in_reach (states_of kept) edit.site (touched_of (states_of kept) edit) d)
    (no_day_outside limits kept edit d k r l) (c d l)))

-- none where the station is not kept
pub unkept_days : (limits : Limits) (stations : List StationState) (edit : Edit) → refusal_of limits stations edit ≡ None → station_of stations edit.site ≡ None
    → [] ≡ changed_days stations edit
unkept_days limits stations edit r e =
    sym (calendar_none (λ day. not (keeps_day stations edit day)) (λ d l. ap not (add_told limits stations edit d r e)))

-- they rise
pub changed_rise : (stations : List StationState) (edit : Edit) (days : List ℤ) → days ≡ changed_days stations edit → AllPairs (λ (a b : ℤ). a <ℤ b) days
changed_rise stations edit days e =
    subst (λ (x : List ℤ). AllPairs (λ (a b : ℤ). a <ℤ b) x) (sym e) (calendar_rises (λ day. not (keeps_day stations edit day)))

-- and they are at most two more than those of the interval
pub few_steps : (stations : List StationState) (edit : Edit) (first last : ℤ) (before after : ℕ)
    → IsCover (in_reach stations edit.site (touched_of stations edit)) first last → after ≤ before + length (days_within first last)
    → after ≤ before + length (interval stations edit) + 9
few_steps stations edit first last before after c h =
    let n = span_length (in_reach stations edit.site (touched_of stations edit)) first last c.begins c.ends c.only in
    omega arith

-- every day of the calendar asked of the inputs before and after
pub whole_calendar : days_within first_day last_day ≡ calendar
unfolding calendar
whole_calendar = refl

abbrev pub differs : List StationState → List StationState → SiteNumber → ℤ → Bool
differs before after site day = not (same_inputs (inputs_of_day before site day) (inputs_of_day after site day))

pub asked_days : (before after : List StationState) (edit : Edit) (days : List ℤ) → after ≡ stations_after before edit
    → days ≡ filter (differs before after edit.site) (days_within first_day last_day) → days ≡ changed_days before edit
asked_days before after edit days e f =
    f ∙ ap (filter (differs before after edit.site)) whole_calendar ∙ ap (λ (x : List StationState). filter (differs before x edit.site) calendar) e
