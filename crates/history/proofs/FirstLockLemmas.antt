-- An edit is refused as locked exactly where it would change an approved day: the first one.
use Rattle.std.specs.Prelude.{◌≡◌, Bool, true, false, not, ◌&&◌, find, List, Option, Some, None, option_map, ℤ}
use Rattle.std.proofs.Common.{refl, ap, sym, ◌∙◌}
use Rattle.std.proofs.lemmas.Bool.{and_parts, false≢true}
use Rattle.approval.specs.Statuses.{is_approved}
use Rattle.approval.specs.declared.objections.Objection.{Objection}
use Rattle.day_inputs.proofs.EqualityLemmas.{Decides-same_inputs}
use Rattle.edits.specs.declared.content.Edit.{Edit}
use Rattle.fixed_units.specs.Calendar.{calendar}
use Rattle.fixed_units.specs.Quantities.{IsDay}
use Rattle.fixed_units.proofs.CalendarLemmas.{is_among, is_day}
use Rattle.history.specs.Accepted.{Numbered, stations_at}
use Rattle.history.specs.Awaited.{inputs_at}
use Rattle.history.specs.Events.{Event, History}
use Rattle.history.specs.Locks.{ChangesApproved, IsFirstChanged, ReachesTheLocks}
use Rattle.history.specs.Statuses.{locked_at, status_at}
use Rattle.history.specs.Verdicts.{Accepts, Refuses, or_else, refused_as_awaiting, refused_as_locked, refused_by_statuses, refused_for_room, refusal_of, verdict, verdict_by, verdict_of_refusal}
use Rattle.history.proofs.ApprovedLemmas.{none_passes}
use Rattle.history.proofs.FirstDayLemmas.{find_filtered, first_in_calendar, found_in_calendar}
use Rattle.history.proofs.LockedLemmas.{accepted_keeps, locked_is, not_true, reaches_locks}
use Rattle.office_inputs.specs.Changes.{keeps_day}
use Rattle.office_inputs.specs.Refusals as inputs
use Rattle.office_inputs.specs.Stations.{inputs_of_day, stations_after}
use Rattle.office_inputs.specs.declared.refusals.Refusal.{Refusal}
use Rattle.office_inputs.specs.declared.refusals.Refusal.TheVariants.{Locked}

not_kept : (b : Bool) → (b ≡ true → ⊥) → not b ≡ true
not_kept true n = absurd (n refl)
not_kept false n = refl

both : (a b : Bool) → a ≡ true → b ≡ true → (a && b) ≡ true
both a b e f = rw (e, f) refl

module _ (events : List Event) (edit : Edit) where
  -- the test by which the first locked day is found
  abbrev would_change : ℤ → Bool
  would_change day = not (keeps_day (stations_at events) edit day) && is_approved (status_at events edit.site day)

  kept_same : (day : ℤ) → keeps_day (stations_at events) edit day ≡ true
      → inputs_at events edit.site day ≡ inputs_of_day (stations_after (stations_at events) edit) edit.site day
  kept_same day k = (Decides-same_inputs (inputs_at events edit.site day) (inputs_of_day (stations_after (stations_at events) edit) edit.site day)).0 k

  same_kept : (day : ℤ) → inputs_at events edit.site day ≡ inputs_of_day (stations_after (stations_at events) edit) edit.site day
      → keeps_day (stations_at events) edit day ≡ true
  same_kept day e = (Decides-same_inputs (inputs_at events edit.site day) (inputs_of_day (stations_after (stations_at events) edit) edit.site day)).1 e

  told_changed : (day : ℤ) → IsDay day → would_change day ≡ true → ChangesApproved events edit day
  told_changed day is h =
      let parts = and_parts (not (keeps_day (stations_at events) edit day)) (is_approved (status_at events edit.site day)) h in
      record {
        is_day = is;
        approved = parts.1;
        changed = λ same. false≢true (sym (not_true (keeps_day (stations_at events) edit day) parts.0) ∙ same_kept day (sym same));
      }

  changed_told : (day : ℤ) → ChangesApproved events edit day → would_change day ≡ true
  changed_told day c =
      both (not (keeps_day (stations_at events) edit day)) (is_approved (status_at events edit.site day))
      (not_kept (keeps_day (stations_at events) edit day) (λ k. c.changed (sym (kept_same day k)))) c.approved

  locked_by_test : locked_at events edit ≡ find would_change calendar
  locked_by_test = find_filtered (λ d. is_approved (status_at events edit.site d)) (λ d. not (keeps_day (stations_at events) edit d)) calendar

  pub first_changed : (day : ℤ) → locked_at events edit ≡ Some day → IsFirstChanged events edit day
  first_changed day h =
      let found = found_in_calendar would_change day (sym locked_by_test ∙ h) in
      record {
        changed = told_changed day (is_day day found.among) found.passes;
        first = λ earlier l c. false≢true (sym (found.none_before earlier (is_among earlier c.is_day) l) ∙ changed_told earlier c);
      }

  pub changed_first : (day : ℤ) → IsFirstChanged events edit day → locked_at events edit ≡ Some day
  changed_first day f =
      locked_by_test ∙ first_in_calendar would_change day (record {
        among = is_among day f.changed.is_day;
        passes = changed_told day f.changed;
        none_before = λ earlier k l. not_told earlier (would_change earlier) refl (λ c. f.first earlier l c) (is_day earlier k);
      })
    where
      not_told : (d : ℤ) (b : Bool) → would_change d ≡ b → (ChangesApproved events edit d → ⊥) → IsDay d → b ≡ false
      not_told d true e n is = absurd (n (told_changed d is e))
      not_told d false e n is = refl

  -- where some approved day would change there is a first one
  by_found : (day : ℤ) (o : Option ℤ) → locked_at events edit ≡ o → ChangesApproved events edit day → (first : ℤ) × (locked_at events edit ≡ Some first)
  by_found day None e c =
      absurd (false≢true (sym (none_passes would_change day c.is_day (sym locked_by_test ∙ e)) ∙ changed_told day c))
  by_found day (Some first) e c = (first, e)

  pub some_first : (day : ℤ) → ChangesApproved events edit day → (first : ℤ) × (locked_at events edit ≡ Some first)
  some_first day c = by_found day (locked_at events edit) refl c

module _ (h : History) (edit : Edit) where
  pub locked_out : (day : ℤ) → ReachesTheLocks h edit → locked_at h.events edit ≡ Some day → verdict h edit ≡ Refuses (Locked day)
  locked_out day r found =
      let full = refused_for_room h edit in
      let locked = refused_as_locked h edit in
      let awaits = refused_as_awaiting h edit in
      let whole : refusal_of h edit ≡ Some (Locked day) =
      ap (λ (o : Option Refusal). or_else o (or_else (refused_by_statuses h edit) (or_else awaits (or_else locked full)))) r.stations
      ∙ ap (λ (o : Option Objection). or_else (option_map inputs.refusal_for_objection o) (or_else awaits (or_else locked full))) r.statuses
      ∙ ap (λ (o : Option Refusal). or_else o (or_else locked full)) r.awaits_none
      ∙ ap (λ (o : Option ℤ). or_else (option_map Locked o) full) found in
      ap (λ (o : Option Numbered). verdict_by o edit (refusal_of h edit)) r.new ∙ ap verdict_of_refusal whole

  pub is_locked_out : (day : ℤ) → verdict h edit ≡ Refuses (Locked day) → ReachesTheLocks h edit × IsFirstChanged h.events edit day
  is_locked_out day v = (reaches_locks h edit day v, first_changed h.events edit day (locked_is h edit day v))

  pub first_locked_out : (day : ℤ) → ReachesTheLocks h edit → ChangesApproved h.events edit day
      → (first : ℤ) × IsFirstChanged h.events edit first × (verdict h edit ≡ Refuses (Locked first))
  first_locked_out day r c =
      let found = some_first h.events edit day c in
      (found.0, first_changed h.events edit found.0 found.1, locked_out found.0 r found.1)

  pub changed_not_accepted : (day : ℤ) → ChangesApproved h.events edit day → verdict h edit ≡ Accepts → ⊥
  changed_not_accepted day c v = c.changed (sym (kept_same h.events edit day (accepted_keeps h edit day v c.is_day c.approved)))
