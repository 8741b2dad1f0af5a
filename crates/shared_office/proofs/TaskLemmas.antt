-- The office behind a lock and the list that its passes see.
use Rattle.std.proofs.Common.{◌≡◌, ℕ, zero, suc, true, false, List, [], ◌∷◌, ◌++◌, length, map, take, drop, Option, Some, None, sym, ap, ◌∙◌, refl, subst, append-nil, inl, inr}
use Rattle.std.specs.Prelude.{Bool, if◌then◌else◌, Result, Ok, IfOk, IsSome}
use mathlib.Core.List.{IsPrefix}
use Rattle.devices.specs.declared.disks.Disk.{Ghosts}
use Rattle.fixed_units.specs.declared.texts.NoMemory.{NoMemory}
use Rattle.history.specs.After.{go_on}
use Rattle.history.specs.Awaited.{pending_days}
use Rattle.history.specs.Events.{Event, History}
use Rattle.office.specs.Offices.{Officed}
use Rattle.office.specs.Steps.{Step, AnEdit, AClaim, ALook, APublication, ATurn, ASettlement, AnAnswer, AStop, IsStep}
use Rattle.recompute.specs.declared.jobs.Publish.TheVariants.{Settled, Superseded, Foreign, Published}
use Rattle.register.specs.Asked.{day_of}
use Rattle.turnstile.specs.Passes.{first_value, value_of}
use Rattle.turnstile.specs.declared.held.Held.{Held}
use Rattle.turnstile.proofs.ListLemmas.{prefix_here}
use Rattle.shared_office.specs.Entries.{GoOn, entries, events_in, fixed_part, has_ended, history_of, with_ending, with_events}
use Rattle.shared_office.specs.Finding.{Finds, FindsBy, IsWorkStep, added_by_work}
use Rattle.shared_office.specs.Holdings.{Holding}
use Rattle.shared_office.specs.Passing.{Lock, Unchanging, adding, begun_in, fixed_in, fixed_of, history_in, listed, unchanging}
use Rattle.shared_office.specs.Working.{AddsADay, IsDrained, IsFound, IsTask}
use Rattle.shared_office.specs.declared.entries.Entry.{Entry}
use Rattle.shared_office.specs.declared.entries.Entry.TheVariants.{Happened, Ending}
use Rattle.shared_office.specs.declared.entries.Fixed.{Fixed}
use Rattle.shared_office.specs.declared.shared.Found.{Found}
use Rattle.shared_office.specs.declared.shared.Found.TheVariants.{Drained}
use Rattle.shared_office.specs.declared.shared.Shared.{Shared}

pub events_on : (xs ys : List Entry) → events_in (xs ++ ys) ≡ events_in xs ++ events_in ys
events_on [] ys = refl
events_on (Happened e ∷ xs) ys = ap (λ zs. e ∷ zs) (events_on xs ys)
events_on (Ending ∷ xs) ys = events_on xs ys

events_happened : (es : List Event) → events_in (map Happened es) ≡ es
events_happened [] = refl
events_happened (e ∷ es) = ap (λ zs. e ∷ zs) (events_happened es)

taken_and_dropped : (n : ℕ) (es : List Event) → take n es ++ drop n es ≡ es
taken_and_dropped zero es = refl
taken_and_dropped (suc n) [] = refl
taken_and_dropped (suc n) (e ∷ es) = ap (λ zs. e ∷ zs) (taken_and_dropped n es)

-- the events are read off the list
pub events_of_entries : (ending : Option ℕ) (events : List Event) → events_in (entries events ending) ≡ events
events_of_entries None events = events_happened events
events_of_entries (Some n) events =
    events_on (map Happened (take n events)) (Ending ∷ map Happened (drop n events))
    ∙ rw (events_happened (take n events), events_happened (drop n events)) (taken_and_dropped n events)

-- and so is whether the end was told
ended_on : (xs ys : List Entry) → has_ended ys ≡ true → has_ended (xs ++ ys) ≡ true
ended_on [] ys h = h
ended_on (Happened e ∷ xs) ys h = ended_on xs ys h
ended_on (Ending ∷ xs) ys h = refl

ended_entries : (events : List Event) (ending : Option ℕ) → IsSome ending → has_ended (entries events ending) ≡ true
ended_entries events None told = absurd (cc)
ended_entries events (Some n) told = ended_on (map Happened (take n events)) (Ending ∷ map Happened (drop n events)) refl

not_ended : (events : List Event) → has_ended (map Happened events) ≡ false
not_ended [] = refl
not_ended (e ∷ es) = not_ended es

-- the list once the end was told
ending_told : (events : List Event) (ending ended : Option ℕ) → (ending ≡ None → entries events ended ≡ entries events ending ++ Ending ∷ [])
    → (IsSome ending → ended ≡ ending) → entries events ended ≡ with_ending (entries events ending)
ending_told events None ended told before = rw (not_ended events) (told refl)
ending_told events (Some n) ended told before =
    rw (ended_entries events (Some n) refl) (ap (λ (e : Option ℕ). entries events e) (before refl))

-- the events and the history of a list that goes on
pub events_more : (list : List Entry) (added : List Event) → events_in (with_events list added) ≡ events_in list ++ added
events_more list added = events_on list (map Happened added) ∙ ap (λ zs. events_in list ++ zs) (events_happened added)

pub history_on : (fixed : Fixed) (list : List Entry) (added : List Event) → history_of fixed (with_events list added) ≡ go_on (history_of fixed list) added
history_on fixed list added =
    ap (λ (events : List Event). record { opened = fixed.opened; limits = fixed.limits; format = fixed.format; events = events })
    (events_more list added)

ends_on : (told : Bool) (list : List Entry) → IsPrefix list (if told then list else list ++ Ending ∷ [])
ends_on true list = prefix_here list
ends_on false list = (Ending ∷ [], refl)

ending_grows : (list : List Entry) → IsPrefix list (with_ending list)
ending_grows list = ends_on (has_ended list) list

day_added : (x : Holding (List Entry)) (step : Step) → x.to ≡ with_events x.from (added_by_work step) → AddsADay x
day_added x (APublication job Published) is = inr (day_of job, is)
day_added x (APublication job Settled) is = inl (is ∙ append-nil x.from)
day_added x (APublication job (Superseded edit)) is = inl (is ∙ append-nil x.from)
day_added x (APublication job Foreign) is = inl (is ∙ append-nil x.from)
day_added x (AnEdit edit result) is = inl (is ∙ append-nil x.from)
day_added x (AClaim answer) is = inl (is ∙ append-nil x.from)
day_added x (ALook last answer) is = inl (is ∙ append-nil x.from)
day_added x (ATurn day) is = inl (is ∙ append-nil x.from)
day_added x (ASettlement count) is = inl (is ∙ append-nil x.from)
day_added x (AnAnswer site day told) is = inl (is ∙ append-nil x.from)
day_added x (AStop cut found) is = inl (is ∙ append-nil x.from)

-- what a worker finds by a step of its own, it finds with nothing added
finding_step : (step : Step) (result : Result Found NoMemory) → FindsBy step result → IsWorkStep step × (added_by_work step ≡ [])
finding_step (AClaim answer) result by = (tt, refl)
finding_step (ALook None answer) result by = (tt, refl)
finding_step (ALook (Some last) answer) result by = absurd by
finding_step (APublication job outcome) result by = absurd by
finding_step (AnEdit edit told) result by = absurd by
finding_step (ATurn day) result by = absurd by
finding_step (ASettlement count) result by = absurd by
finding_step (AnAnswer site day told) result by = absurd by
finding_step (AStop cut found) result by = absurd by

module _ {D : Type 0} {g : Ghosts D} where
  -- both parts of what never changes
  pub fixed_alone : (s : Shared D g) (lock : Lock D g) → unchanging s ≡ unchanging (first_value lock) → fixed_of s ≡ fixed_in lock
  fixed_alone s lock e = ap (λ (u : Unchanging D). u.0) e

  pub begun_alone : (s : Shared D g) (lock : Lock D g) → unchanging s ≡ unchanging (first_value lock) → s.begun.value ≡ begun_in lock
  begun_alone s lock e = ap (λ (u : Unchanging D). u.1) e

  -- an office that was lent and given back has them still
  pub unchanged : (lock : Lock D g) (held w u : Shared D g) → w ≡ held → unchanging held ≡ unchanging (first_value lock)
      → fixed_of u ≡ fixed_of w → u.begun ≡ w.begun → unchanging u ≡ unchanging (first_value lock)
  unchanged lock held w u same is fixed begun =
      ap (λ (f : Fixed). (f, u.begun.value)) (fixed ∙ ap fixed_of same ∙ fixed_alone held lock is)
      ∙ ap (λ (o : Officed D). (fixed_in lock, o)) (ap (λ b. b.value) begun ∙ ap (λ (s : Shared D g). s.begun.value) same ∙ begun_alone held lock is)

  -- the history that the list tells is that of the office
  pub history_told : (s : Shared D g) (fixed : Fixed) → fixed_of s ≡ fixed → history_of fixed (listed s) ≡ s.office.register.history
  history_told s fixed e =
      subst (λ (f : Fixed). history_of f (listed s) ≡ s.office.register.history) e
      (ap (λ (events : List Event). record { opened = s.office.register.history.opened; limits = s.office.register.history.limits; format = s.office.register.history.format; events = events })
      (events_of_entries s.ending s.office.register.history.events))

  -- and so it is of the office that was lent
  pub history_lent : (lock : Lock D g) (held : Held (Shared D g) Entry (Unchanging D)) (w : Shared D g) → w ≡ value_of held
      → unchanging (value_of held) ≡ unchanging (first_value lock) → history_in lock (listed w) ≡ w.office.register.history
  history_lent lock held w same kept = history_told w (fixed_in lock) (ap fixed_of same ∙ fixed_alone (value_of held) lock kept)

  -- how many days are pending in what was left
  pub pending_behind : (lock : Lock D g) (w u v : Shared D g) (list : List Entry) (added : List Event) (count : ℕ) → fixed_of w ≡ fixed_in lock
      → GoOn w.office.register.history w.ending u.office.register.history u.ending added → list ≡ listed u
      → v ≡ u → count ≡ length (pending_days v.office.register.history.events) → count ≡ length (pending_days (history_in lock list).events)
  pending_behind lock w u v list added count fixed on is same told =
      told ∙ ap (λ (s : Shared D g). length (pending_days s.office.register.history.events)) same ∙ sym (ap (λ (h : History). length (pending_days h.events))
      (ap (λ (l : List Entry). history_in lock l) is ∙ history_told u (fixed_in lock) (ap fixed_part on.0 ∙ fixed)))

  -- the end is told in an office
  pub end_told : (w u : Shared D g) → (w.ending ≡ None → listed u ≡ listed w ++ Ending ∷ []) → (IsSome w.ending → u.ending ≡ w.ending) → u.office ≡ w.office
      → listed u ≡ with_ending (listed w)
  end_told w u told before same =
      let events : u.office.register.history.events ≡ w.office.register.history.events = ap (λ (o : Officed D). o.register.history.events) same in
      ap (λ (es : List Event). entries es u.ending) events
      ∙ ending_told w.office.register.history.events w.ending u.ending
      (λ e. sym (ap (λ (es : List Event). entries es u.ending) events) ∙ told e) before

  pub end_grows : (w u : Shared D g) → listed u ≡ with_ending (listed w) → IsPrefix (listed w) (listed u)
  end_grows w u told = subst (λ (to : List Entry). IsPrefix (listed w) to) (sym told) (ending_grows (listed w))

  -- a step of a worker is a task of its holding
  pub task_of : (lock : Lock D g) (w u : Shared D g) (step : Step) (added : List Event) → fixed_of w ≡ fixed_in lock → IsWorkStep step → added_by_work step ≡ added
      → IsStep w.office.register step u.office.register → listed u ≡ with_events (listed w) added
      → (task : IsTask lock (adding (listed w) added)) × (task.step ≡ step)
  task_of lock w u step added fixed of_worker adds goes on = (
    record {
      old = w;
      new = u;
      step = step;
      of_worker = of_worker;
      goes = goes;
      fixed_is = fixed;
      from_is = refl;
      to_is = sym on;
      adds = ap (λ (es : List Event). with_events (listed w) es) (sym adds);
    },
    refl,
  )

  -- and so is one by which a worker finds something
  pub found_of : (lock : Lock D g) (w u : Shared D g) (result : Result Found NoMemory) → fixed_of w ≡ fixed_in lock
      → (step : Step) × FindsBy step result × IsStep w.office.register step u.office.register → listed u ≡ with_events (listed w) []
      → IfOk result (Finds w.office.register w.ending u.office.register) → (task : IsTask lock (adding (listed w) [])) × IsFound task result
  found_of lock w u result fixed step on found =
      let own = finding_step step.0 result step.1 in (
        record {
          old = w;
          new = u;
          step = step.0;
          of_worker = own.0;
          goes = step.2;
          fixed_is = fixed;
          from_is = refl;
          to_is = sym on;
          adds = ap (λ (es : List Event). with_events (listed w) es) (sym own.1);
        },
        (step.1, found),
      )

  -- what a worker found to be drained is so behind its holding
  pub drained_behind : (lock : Lock D g) (w u : Shared D g) (result : Result Found NoMemory) (list : List Entry) → fixed_of w ≡ fixed_in lock
      → list ≡ listed u → listed u ≡ with_events (listed w) [] → IfOk result (Finds w.office.register w.ending u.office.register) → result ≡ Ok Drained
      → IsDrained (fixed_in lock) list
  drained_behind lock w u result list fixed is on found told =
      let drained = subst (λ (r : Result Found NoMemory). IfOk r (Finds w.office.register w.ending u.office.register)) told found in
      subst (λ (l : List Entry). IsDrained (fixed_in lock) l) (sym (is ∙ (on ∙ append-nil (listed w)))) (
        ended_entries w.office.register.history.events w.ending drained.0,
        ap (λ (h : History). pending_days h.events) (history_told w (fixed_in lock) fixed) ∙ drained.1,
      )

  -- a task adds nothing, or the publication of one day
  pub adds_a_day : (lock : Lock D g) (x : Holding (List Entry)) → IsTask lock x → AddsADay x
  adds_a_day lock x task = day_added x task.step task.adds
