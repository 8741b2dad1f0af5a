-- A job stays true: over an edit that another number is given to, and over all that takes no edit.
use Rattle.std.specs.Prelude.{◌≡◌, ◌≢◌, ℕ, Bool, true, false, not, ◌&&◌, ◌||◌, cond, List, [], ◌∷◌, filter, Some, None, ℤ}
use Rattle.std.specs.List.{list_any}
use Rattle.std.specs.Ordering.{int_eq}
use Rattle.std.proofs.Common.{refl, ap, sym, ◌∙◌}
use Rattle.std.proofs.lemmas.Bool.{not-false}
use Rattle.std.proofs.lemmas.Bool.Decides.{Decides-int_eq}
use Rattle.std.proofs.lemmas.Option.{same_Some}
use Rattle.daily_values.specs.declared.day_values.DayValue.{DayValue}
use Rattle.day_cells.specs.Days.{contains_day}
use Rattle.day_cells.specs.KeptDays.{KeptDays}
use Rattle.day_inputs.proofs.EqualityLemmas.{Decides-same_inputs}
use Rattle.edits.specs.declared.content.Edit.{Edit}
use Rattle.fixed_units.specs.Calendar.{calendar}
use Rattle.fixed_units.specs.Quantities.{SiteNumber, IsDay, site_place, same_site}
use Rattle.fixed_units.proofs.CalendarLemmas.{calendar_any}
use Rattle.office_inputs.specs.Changes.{keeps_day, changed_days}
use Rattle.office_inputs.proofs.LawLemmas.{station_left}
use Rattle.office_inputs.specs.Stations.{place_of, stations_after, day_of_station, inputs_of_day}
use Rattle.station_inputs.specs.Stations.{StationState}
use Rattle.rising.specs.Lists.{at}
use Rattle.recompute.specs.Cells.{SaysTheSame, Marks, TakesOut, Publishes, awaited_in, is_day_of}
use Rattle.recompute.specs.Jobs.{DayJob, IsTrueJob}
use Rattle.recompute.proofs.FoundLemmas.{any_both}
use Rattle.recompute.proofs.StationLemmas.{site_yes}

-- the same day of two sites that are one
same_day : (stations : List StationState) (a b : SiteNumber) (day : ℤ) → site_place a ≡ site_place b → inputs_of_day stations a day ≡ inputs_of_day stations b day
same_day stations a b day e = ap (λ n. day_of_station (at place_of n stations) day) e

-- a test finds a day of the calendar that passes another
any_kept : (q p : ℤ → Bool) (days : List ℤ) → list_any q (filter p days) ≡ list_any (λ d. p d && q d) days
any_kept q p [] = refl
any_kept q p (d ∷ days) =
    elim (p d) as (λ b. list_any q (cond b (d ∷ filter p days) (filter p days)) ≡ ((b && q d) || list_any (λ d. p d && q d) days)) [
      | true ↦ ap (λ t. q d || t) (any_kept q p days)
      | false ↦ any_kept q p days
    ]

is_listed : (p : ℤ → Bool) (day : ℤ) → IsDay day → p day ≡ true → contains_day (filter p calendar) day ≡ true
is_listed p day i e =
    any_kept (λ d. int_eq d day) p calendar
    ∙ calendar_any (λ d. p d && int_eq d day) day i (any_both (p day) (int_eq day day) e ((Decides-int_eq day day).1 refl))

not_listed : (p : ℤ → Bool) (day : ℤ) (b : Bool) → IsDay day → contains_day (filter p calendar) day ≡ false → p day ≡ b → b ≡ false
not_listed p day true i e f = sym (is_listed p day i f) ∙ e
not_listed p day false i e f = refl

module _ (stations : List StationState) (edit : Edit) (site : SiteNumber) (day : ℤ) (inside : IsDay day) where
  -- a day of the calendar that is not marked keeps its inputs
  unmarked : (b : Bool) → same_site edit.site site ≡ b → (b && contains_day (changed_days stations edit) day) ≡ false
      → inputs_of_day (stations_after stations edit) site day ≡ inputs_of_day stations site day
  unmarked true e h =
      let p = site_yes edit.site site e in
      let kept = not-false (keeps_day stations edit day) (not_listed (λ d. not (keeps_day stations edit d)) day _ inside h refl) in
      let same = (Decides-same_inputs (inputs_of_day stations edit.site day) (inputs_of_day (stations_after stations edit) edit.site day)).0 kept in
      sym (same_day (stations_after stations edit) edit.site site day p) ∙ sym same ∙ same_day stations edit.site site day p
  unmarked false e h = ap (λ o. day_of_station o day) (station_left stations edit site e)

module _ (old new : List KeptDays) (stations : List StationState) (job : DayJob) where
  marked_step : (edit : Edit) (number : ℕ) (b : Bool) → IsDay job.day → job.awaits ≢ number
      → (same_site edit.site job.site && contains_day (changed_days stations edit) job.day) ≡ b
      → cond b (Some number) (awaited_in old job.site job.day) ≡ Some job.awaits → IsTrueJob old stations job
      → job.inputs ≡ inputs_of_day (stations_after stations edit) job.site job.day
  marked_step edit number true i other m e h = absurd (other (sym (same_Some number job.awaits e)))
  marked_step edit number false i other m e h = h e ∙ sym (unmarked stations edit job.site job.day i (same_site edit.site job.site) refl m)

  pub true_after : (edit : Edit) (number : ℕ) → IsDay job.day → job.awaits ≢ number → Marks old new edit.site (changed_days stations edit) number
      → IsTrueJob old stations job → IsTrueJob new (stations_after stations edit) job
  true_after edit number i other m h e =
      marked_step edit number (same_site edit.site job.site && contains_day (changed_days stations edit) job.day) i other refl
      (sym (m.awaited job.site job.day) ∙ e) h

  gone_step : (b : Bool) → cond b None (awaited_in old job.site job.day) ≡ Some job.awaits → awaited_in old job.site job.day ≡ Some job.awaits
  gone_step true e = absurd (cc)
  gone_step false e = e

  pub true_taken : (site : SiteNumber) (day : ℤ) → TakesOut old new site day → IsTrueJob old stations job → IsTrueJob new stations job
  true_taken site day m h e = h (sym (m.awaited job.site job.day) ∙ e)

  pub true_published : (site : SiteNumber) (day : ℤ) (value : DayValue) → Publishes old new site day value → IsTrueJob old stations job → IsTrueJob new stations job
  true_published site day value m h e = h (gone_step (is_day_of site day job.site job.day) (sym (m.awaited job.site job.day) ∙ e))

  pub true_same : SaysTheSame old new → IsTrueJob old stations job → IsTrueJob new stations job
  true_same m h e = h (sym (m.awaited job.site job.day) ∙ e)
