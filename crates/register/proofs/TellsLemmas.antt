-- The cells tell what is read off the history, also after each step.
use Rattle.std.specs.Prelude.{◌≡◌, ℕ, ◌+◌, Bool, true, false, not, ◌&&◌, cond, List, [], ◌∷◌, ◌++◌, length, map, filter, Option, Some, None, ℤ}
use Rattle.std.specs.List.{list_any}
use Rattle.std.specs.Ordering.{int_eq}
use Rattle.std.proofs.Common.{refl, ap, sym, ◌∙◌}
use Rattle.std.proofs.lemmas.Bool.{and_parts, and_right, false_from_ne_true}
use Rattle.std.proofs.lemmas.Bool.Decides.{Decides-int_eq}
use Rattle.daily_values.specs.DayValue.{day_value}
use Rattle.daily_values.specs.declared.day_values.DayValue.{DayValue}
use Rattle.day_cells.specs.Days.{contains_day}
use Rattle.day_cells.specs.KeptDays.{KeptDays}
use Rattle.day_cells.specs.Spans.{with_days}
use Rattle.edits.specs.declared.content.Edit.{Edit}
use Rattle.fixed_units.specs.Calendar.{calendar}
use Rattle.fixed_units.specs.Quantities.{SiteNumber, IsDay, same_site}
use Rattle.fixed_units.proofs.CalendarLemmas.{calendar_one}
use Rattle.history.specs.Accepted.{accepted, edit_of, edits_of, stations_at, changes, days_ever_changed}
use Rattle.history.specs.Awaited.{awaited_back, awaited, is_day_of, inputs_at, value_at}
use Rattle.history.specs.Events.{Event, Accepted, Published, Faulted}
use Rattle.history.proofs.EventLemmas.{stations_accepted, awaited_accepted, edits_accepted, awaited_published, accepted_published, awaited_faulted, accepted_faulted}
use Rattle.history.proofs.SpanLemmas.{span_more, none_ever_changed}
use Rattle.history.proofs.StationLemmas.{unchanged_day, same_day, places_equal}
use Rattle.office_inputs.specs.Changes.{keeps_day, changed_days}
use Rattle.office_inputs.specs.Stations.{stations_of, inputs_of_day}
use Rattle.station_inputs.specs.Stations.{StationState}
use Rattle.recompute.specs.Cells.{SaysTheSame, Marks, TakesOut, Publishes, awaited_in, value_in}
use Rattle.records.specs.Sheets.{Record}
use Rattle.register.specs.Keeping.{Tells}

-- of no edit
pub tells_none : Tells [] []
unfolding awaited_back
tells_none = record {
  awaited_told = λ site day h. refl;
  value_told = λ site day h k. refl;
  span_told = λ site. ap (λ (days : List ℤ). with_days None days) (sym (none_ever_changed [] site refl));
}

-- a day is among those of the calendar that pass a test where it passes
any_step : (p q : ℤ → Bool) (x : ℤ) (xs : List ℤ) (b : Bool) → p x ≡ b → list_any q (filter p xs) ≡ list_any (λ d. p d && q d) xs
    → list_any q (cond b (x ∷ filter p xs) (filter p xs)) ≡ list_any (λ d. p d && q d) (x ∷ xs)
any_step p q x xs true e h = rw (e, h) refl
any_step p q x xs false e h = rw (e, h) refl

any_filter : (p q : ℤ → Bool) (xs : List ℤ) → list_any q (filter p xs) ≡ list_any (λ d. p d && q d) xs
any_filter p q [] = refl
any_filter p q (x ∷ xs) = any_step p q x xs (p x) refl (any_filter p q xs)

and_true : (b : Bool) → (b && true) ≡ b
and_true true = refl
and_true false = refl

pub contained : (p : ℤ → Bool) (day : ℤ) → IsDay day → contains_day (filter p calendar) day ≡ p day
contained p day h =
    any_filter p (λ d. int_eq d day) calendar
    ∙ calendar_one (λ d. p d && int_eq d day) day h
    (λ d k apart. and_right (p d) (int_eq d day) (false_from_ne_true (int_eq d day) (λ t. apart ((Decides-int_eq d day).0 t))))
    ∙ ap (λ b. p day && b) ((Decides-int_eq day day).1 refl) ∙ and_true (p day)

-- what a test that does not give an edit says
record GivesNone (b : Bool) (o : Option ℕ) : Type 0 where
  pub test : b ≡ false
  pub rest : o ≡ None

gives_none : (b : Bool) (n : ℕ) (o : Option ℕ) → cond b (Some n) o ≡ None → GivesNone b o
gives_none true n o h = absurd (cc)
gives_none false n o h = record { test = refl; rest = h }

module _ (events : List Event) (cells new : List KeptDays) (told : Tells events cells) where
  -- after the cells of an accepted edit's changed days are marked
  pub tells_marked : (piece : Record) (number : ℕ) → number ≡ length (accepted events) + 1
      → Marks cells new piece.edit.site (changed_days (stations_at events) piece.edit) number → Tells (events ++ Accepted piece ∷ []) new
  tells_marked piece number n m =
      let stations = stations_at events in
      let edit = piece.edit in
      let more = events ++ Accepted piece ∷ [] in
      record {
        awaited_told = λ site day h.
            m.awaited site day
            ∙ ap (λ b. cond (same_site edit.site site && b) (Some number) (awaited_in cells site day)) (contained (λ d. not (keeps_day stations edit d)) day h)
            ∙ ap (λ k. cond (changes stations edit site day) (Some k) (awaited_in cells site day)) n
            ∙ ap (λ (o : Option ℕ). cond (changes stations edit site day) (Some (length (accepted events) + 1)) o) (told.awaited_told site day h)
            ∙ sym (awaited_accepted events piece site day);
        value_told = λ site day h k.
            let none = gives_none (changes stations edit site day) (length (accepted events) + 1) (awaited events site day) (sym (awaited_accepted events piece site day) ∙ k) in
            m.value site day ∙ told.value_told site day h none.rest
            ∙ ap day_value (sym (unchanged_day stations edit site day none.test))
            ∙ ap (λ (s : List StationState). day_value (inputs_of_day s site day)) (sym (stations_accepted events piece));
        span_told = λ site.
            m.span site
            ∙ ap (λ o. cond (same_site edit.site site) (with_days o (changed_days stations edit)) o) (told.span_told site)
            ∙ sym (span_more (edits_of events) edit site)
            ∙ ap (λ (es : List Edit). with_days None (days_ever_changed es site)) (sym (edits_accepted events piece));
      }

  -- where the cells say the same
  pub tells_same : SaysTheSame cells new → Tells events new
  tells_same s = record {
    awaited_told = λ site day h. s.awaited site day ∙ told.awaited_told site day h;
    value_told = λ site day h k. s.value site day ∙ told.value_told site day h k;
    span_told = λ site. s.span site ∙ told.span_told site;
  }

  -- after a claim is taken out
  pub tells_taken : (own : SiteNumber) (its : ℤ) → TakesOut cells new own its → Tells events new
  tells_taken own its s = record {
    awaited_told = λ site day h. s.awaited site day ∙ told.awaited_told site day h;
    value_told = λ site day h k. s.value site day ∙ told.value_told site day h k;
    span_told = λ site. s.span site ∙ told.span_told site;
  }

  -- after a fault
  pub tells_faulted : (doubt : Option Record) → Tells (events ++ Faulted doubt ∷ []) cells
  tells_faulted doubt =
      let same = accepted_faulted events doubt in
      record {
        awaited_told = λ site day h. told.awaited_told site day h ∙ sym (awaited_faulted events doubt site day);
        value_told = λ site day h k.
            told.value_told site day h (sym (awaited_faulted events doubt site day) ∙ k)
            ∙ ap (λ (ps : List Record). day_value (inputs_of_day (stations_of (map edit_of ps)) site day)) (sym same);
        span_told = λ site. told.span_told site ∙ ap (λ (ps : List Record). with_days None (days_ever_changed (map edit_of ps) site)) (sym same);
      }

  published_value : (own site : SiteNumber) (its day : ℤ) (value : DayValue) (b : Bool) → is_day_of own its site day ≡ b → value ≡ value_at events own its
      → IsDay day → cond b None (awaited events site day) ≡ None → cond b value (value_in cells site day) ≡ value_at events site day
  published_value own site its day value true e v h k =
      let parts = and_parts (same_site own site) (int_eq its day) e in
      v ∙ ap (λ (d : ℤ). day_value (inputs_at events own d)) ((Decides-int_eq its day).0 parts.1)
      ∙ ap day_value (same_day (stations_at events) own site day (places_equal own site parts.0))
  published_value own site its day value false e v h k = told.value_told site day h k

  -- after the value of a day is published
  pub tells_published : (own : SiteNumber) (its : ℤ) (value : DayValue) → value ≡ value_at events own its → Publishes cells new own its value
      → Tells (events ++ Published own its ∷ []) new
  tells_published own its value v p =
      let same = accepted_published events own its in
      record {
        awaited_told = λ site day h.
            p.awaited site day ∙ ap (λ (o : Option ℕ). cond (is_day_of own its site day) None o) (told.awaited_told site day h)
            ∙ sym (awaited_published events own its site day);
        value_told = λ site day h k.
            p.value site day
            ∙ published_value own site its day value (is_day_of own its site day) refl v h (sym (awaited_published events own its site day) ∙ k)
            ∙ ap (λ (ps : List Record). day_value (inputs_of_day (stations_of (map edit_of ps)) site day)) (sym same);
        span_told = λ site. p.span site ∙ told.span_told site ∙ ap (λ (ps : List Record). with_days None (days_ever_changed (map edit_of ps) site)) (sym same);
      }
