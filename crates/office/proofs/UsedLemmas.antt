-- The days that have inputs lie within the cells of their station.
use Rattle.std.specs.Prelude.{◌≡◌, ℕ, zero, suc, Bool, true, false, cond, ◌||◌, List, [], ◌∷◌, filter, reverse, Option, Some, None, ℤ, pos, ◌+ℤ◌}
use Rattle.std.proofs.Common.{arith, refl, ap, sym, subst, ◌∙◌}
use Rattle.std.proofs.lemmas.Bool.{false≢true}
use Rattle.std.proofs.lemmas.Grind.{fold-append}
use Rattle.std.proofs.lemmas.Int.{ints, by_lt_z}
use Rattle.std.proofs.lemmas.List.{reverse-append, reverse-reverse}
use Rattle.day_cells.specs.Spans.{with_day, with_days}
use Rattle.day_cells.specs.declared.spans.Span.{Span}
use Rattle.edits.specs.declared.content.Edit.{Edit}
use Rattle.fixed_units.specs.Calendar.{calendar, days_from, days_of_calendar}
use Rattle.fixed_units.specs.Quantities.{IsDay, SiteNumber, first_day}
use Rattle.fixed_units.proofs.CalendarLemmas.{IsAmong, is_among}
use Rattle.history.specs.Accepted.{changes, days_ever_changed, was_changed, was_changed_back}
use Rattle.history.proofs.StationLemmas.{unchanged_day}
use Rattle.office.specs.UsedDays.{LiesIn}
use Rattle.office_inputs.specs.Stations.{stations_after, stations_of}
use Rattle.office_inputs.specs.Touched.{is_filled}
use Rattle.station_inputs.specs.Touched.{has_inputs}

module _ (site : SiteNumber) (day : ℤ) where
  -- a day that has inputs was changed
  changed_step : (b : Bool) (back : List Edit) (edit : Edit) → changes (stations_of (reverse back)) edit site day ≡ b
      → is_filled (stations_after (stations_of (reverse back)) edit) site day ≡ true
      → (is_filled (stations_of (reverse back)) site day ≡ true → was_changed_back back site day ≡ true)
      → (b || was_changed_back back site day) ≡ true
  changed_step true back edit e h rec = refl
  changed_step false back edit e h rec =
      rec (sym (ap has_inputs (unchanged_day (stations_of (reverse back)) edit site day e)) ∙ h)

  stations_back : (back : List Edit) (edit : Edit) → stations_of (reverse (edit ∷ back)) ≡ stations_after (stations_of (reverse back)) edit
  stations_back back edit = ap stations_of (reverse-append (edit ∷ []) back) ∙ fold-append stations_after [] (reverse back) (edit ∷ [])

  changed_back : (back : List Edit) → is_filled (stations_of (reverse back)) site day ≡ true → was_changed_back back site day ≡ true
  unfolding was_changed_back
  changed_back [] h = absurd (false≢true h)
  changed_back (edit ∷ back) h =
      changed_step (changes (stations_of (reverse back)) edit site day) back edit refl
      (sym (ap (λ ss. is_filled ss site day) (stations_back back edit)) ∙ h) (changed_back back)

  pub filled_was_changed : (edits : List Edit) → is_filled (stations_of edits) site day ≡ true → was_changed edits site day ≡ true
  filled_was_changed edits h = changed_back (reverse edits) (ap (λ es. is_filled (stations_of es) site day) (reverse-reverse edits) ∙ h)

-- with one day more, or with others, it still does
lies_with : (span : Option Span) (more day : ℤ) → LiesIn span day → LiesIn (with_day span more) day
lies_with None more day h = absurd h
lies_with (Some s) more day h =
    let a = h.0 in
    let b = h.1 in
    (grind (arith, ints), grind (arith, ints))

lies_with_all : (days : List ℤ) (span : Option Span) (day : ℤ) → LiesIn span day → LiesIn (with_days span days) day
lies_with_all [] span day h = h
lies_with_all (d ∷ days) span day h = lies_with_all days (with_day span d) day (lies_with span d day h)

own_lies : (span : Option Span) (day : ℤ) → LiesIn (with_day span day) day
own_lies None day = (omega (arith, ints), omega (arith, ints))
own_lies (Some s) day = (grind (arith, ints), grind (arith, ints))

module _ (p : ℤ → Bool) where
  here_step : (b : Bool) (day : ℤ) (rest : List ℤ) (span : Option Span) → b ≡ true → LiesIn (with_days span (cond b (day ∷ rest) rest)) day
  here_step true day rest span e = lies_with_all rest (with_day span day) day (own_lies span day)
  here_step false day rest span e = absurd (false≢true e)

  later_step : (b : Bool) (own day : ℤ) (rest : List ℤ) (span : Option Span) → ((s : Option Span) → LiesIn (with_days s rest) day)
      → LiesIn (with_days span (cond b (own ∷ rest) rest)) day
  later_step true own day rest span h = h (with_day span own)
  later_step false own day rest span h = h span

  lies_among : (own : ℤ) (n : ℕ) (day : ℤ) (span : Option Span) → IsAmong own n day → p day ≡ true → LiesIn (with_days span (filter p (days_from own n))) day
  unfolding days_from
  lies_among own zero day span w h = absurd (let a = w.low in let b = w.high in omega (arith, ints))
  lies_among own (suc n) day span w h =
      by_lt_z own day
      (λ l. later_step (p own) own day (filter p (days_from (own +ℤ pos 1) n)) span
      (λ s. lies_among (own +ℤ pos 1) n day s (record { low = omega (arith, ints); high = let b = w.high in omega (arith, ints) }) h))
      (λ m. let e : day ≡ own = (let a = w.low in omega (arith, ints)) in
      subst (λ (d : ℤ). LiesIn (with_days span (filter p (days_from own (suc n)))) d) (sym e)
      (here_step (p own) own (filter p (days_from (own +ℤ pos 1) n)) span (ap p (sym e) ∙ h)))

-- so it lies within the cells
pub filled_lies_in_cells : (edits : List Edit) (site : SiteNumber) (day : ℤ) → IsDay day → is_filled (stations_of edits) site day ≡ true
    → LiesIn (with_days None (days_ever_changed edits site)) day
unfolding calendar
filled_lies_in_cells edits site day k h =
    lies_among (was_changed edits site) first_day days_of_calendar day None (is_among day k) (filled_was_changed site day edits h)
