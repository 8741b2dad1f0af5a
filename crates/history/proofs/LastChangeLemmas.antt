-- A day awaits the edit that changed it last.
use Rattle.std.specs.Prelude.{◌≡◌, ℕ, ◌+◌, Bool, true, false, cond, List, [], ◌∷◌, ◌++◌, length, map, reverse, Option, Some, None, ℤ}
use Rattle.std.proofs.Common.{arith, refl, ap, sym, subst, ◌∙◌}
use Rattle.std.proofs.lemmas.List.{append-nil, append_assoc, length-map, reverse-append, reverse-reverse}
use Rattle.edits.specs.declared.content.Edit.{Edit}
use Rattle.fixed_units.specs.Quantities.{SiteNumber}
use Rattle.history.specs.Accepted.{accepted, edit_of, edits_of, stations_at, changes}
use Rattle.history.specs.Awaited.{awaited_back, awaited, is_day_of}
use Rattle.history.specs.Events.{Event, Accepted, Published, Faulted}
use Rattle.history.specs.LastChanges.{ChangedLast, NoneChanges}
use Rattle.history.proofs.EventLemmas.{accepted_published, accepted_faulted, edits_accepted, length-accepted-reverse}
use Rattle.office_inputs.specs.Stations.{stations_of}
use Rattle.records.specs.Sheets.{Record}

module _ (site : SiteNumber) (day : ℤ) where
  -- nor does one more
  none_more : (before edits : List Edit) (edit : Edit) → NoneChanges site day before edits → changes (stations_of (before ++ edits)) edit site day ≡ false
      → NoneChanges site day before (edits ++ edit ∷ [])
  none_more before [] edit h e = (ap (λ (l : List Edit). changes (stations_of l) edit site day) (sym (append-nil before)) ∙ e, tt)
  none_more before (other ∷ edits) edit h e = (
    h.0,
    none_more (before ++ other ∷ []) edits edit h.1
        (ap (λ (l : List Edit). changes (stations_of l) edit site day) (append_assoc before (other ∷ []) edits) ∙ e),
  )

  unchanged_more : (edits : List Edit) (edit : Edit) (number : ℕ) → changes (stations_of edits) edit site day ≡ false → ChangedLast edits site day number
      → ChangedLast (edits ++ edit ∷ []) site day number
  unchanged_more edits edit number e h = record {
    older = h.older;
    edit = h.edit;
    newer = h.newer ++ edit ∷ [];
    edits_are = ap (λ (l : List Edit). l ++ edit ∷ []) h.edits_are ∙ append_assoc h.older (h.edit ∷ h.newer) (edit ∷ []);
    number_is = h.number_is;
    changed = h.changed;
    since = none_more (h.older ++ h.edit ∷ []) h.newer edit h.since
        (ap (λ (l : List Edit). changes (stations_of l) edit site day) (append_assoc h.older (h.edit ∷ []) h.newer ∙ sym h.edits_are) ∙ e);
  }

  accepted_step : (back : List Event) (piece : Record) (number : ℕ) (b : Bool) → changes (stations_at (reverse back)) piece.edit site day ≡ b
      → cond b (Some (length (accepted back) + 1)) (awaited_back back site day) ≡ Some number
      → (awaited_back back site day ≡ Some number → ChangedLast (edits_of (reverse back)) site day number)
      → ChangedLast (edits_of (reverse back) ++ piece.edit ∷ []) site day number
  accepted_step back piece number true e h rec =
      let same : length (accepted back) + 1 ≡ number = cc in
      let long = length-map (accepted (reverse back)) edit_of in
      let many = length-accepted-reverse back in
      record {
        older = edits_of (reverse back);
        edit = piece.edit;
        newer = [];
        edits_are = refl;
        number_is = sym same ∙ omega (arith, long, many);
        changed = e;
        since = tt;
      }
  accepted_step back piece number false e h rec = unchanged_more (edits_of (reverse back)) piece.edit number e (rec h)

  published_step : (b : Bool) (rest : Option ℕ) (number : ℕ) → cond b None rest ≡ Some number → rest ≡ Some number
  published_step true rest number h = absurd (cc)
  published_step false rest number h = h

  changed_back : (back : List Event) (number : ℕ) → awaited_back back site day ≡ Some number → ChangedLast (edits_of (reverse back)) site day number
  unfolding awaited_back
  changed_back [] number h = absurd (cc)
  changed_back (Accepted piece ∷ back) number h =
      subst (λ (l : List Edit). ChangedLast l site day number)
      (sym (ap edits_of (reverse-append (Accepted piece ∷ []) back) ∙ edits_accepted (reverse back) piece))
      (accepted_step back piece number (changes (stations_at (reverse back)) piece.edit site day) refl h (changed_back back number))
  changed_back (Published own its ∷ back) number h =
      subst (λ (l : List Edit). ChangedLast l site day number)
      (sym (ap edits_of (reverse-append (Published own its ∷ []) back) ∙ ap (map edit_of) (accepted_published (reverse back) own its)))
      (changed_back back number (published_step (is_day_of own its site day) (awaited_back back site day) number h))
  changed_back (Faulted left ∷ back) number h =
      subst (λ (l : List Edit). ChangedLast l site day number)
      (sym (ap edits_of (reverse-append (Faulted left ∷ []) back) ∙ ap (map edit_of) (accepted_faulted (reverse back) left)))
      (changed_back back number h)

  pub awaits_last_change : (events : List Event) (number : ℕ) → awaited events site day ≡ Some number → ChangedLast (edits_of events) site day number
  awaits_last_change events number h =
      subst (λ (l : List Event). ChangedLast (edits_of l) site day number) (reverse-reverse events) (changed_back (reverse events) number h)
