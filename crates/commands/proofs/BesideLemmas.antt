-- What a session beside workers comes to.
use Rattle.std.proofs.Common.{◌≡◌, ◌⊎◌, ℕ, ◌+◌, ◌-◌, ◌<◌, ◌≤◌, Bool, true, false, if◌then◌else◌, List, [], ◌∷◌, ◌++◌, length, append_assoc, append-nil, length-append, refl, sym, ◌∙◌, ap, subst, inl, inr, ⊎_elim, arith}
use Rattle.std.specs.List.{AllByRecursion, concat}
use Rattle.std.proofs.lemmas.List.{length-map}
use Rattle.std.proofs.lemmas.List.Elements.{recursion_from_All}
use mathlib.Core.List.{IsPrefix}
use Rattle.desk.specs.Serving.{IsSession}
use Rattle.desk.specs.declared.sessions.SessionEnd.{SessionEnd}
use Rattle.desk.specs.declared.sessions.SessionEnd.TheVariants as sessions
use Rattle.devices.specs.Doors.{Ends}
use Rattle.devices.specs.declared.disks.Disk.{Ghosts}
use Rattle.history.specs.After.{go_on}
use Rattle.history.specs.Events.{Event, History}
use Rattle.serving.proofs.BesideLemmas.{work_at}
use Rattle.serving.proofs.EventLemmas.{IsEventAt, all_weaker, ended_on, ended_within, ending_at, holdings_at, open_before, open_on, times_of_all, times_of_events}
use Rattle.serving.proofs.WorkedLemmas.{IsAny, IsPublished, session_adds}
use Rattle.serving.specs.Crews.{AreJoined, IsWorkIn}
use Rattle.shared_office.specs.Entries.{before_ending, fixed_part, has_ended, history_of, with_ending}
use Rattle.shared_office.specs.Holdings.{Follow, Holding, places_of}
use Rattle.shared_office.specs.Passing.{GoesOnce, Lock, PassTo, fixed_in, listed, telling_end}
use Rattle.shared_office.specs.declared.entries.Entry.{Entry}
use Rattle.shared_office.specs.declared.entries.Entry.TheVariants.{Ending, Happened}
use Rattle.shared_office.specs.declared.entries.Fixed.{Fixed}
use Rattle.turnstile.proofs.ListLemmas.{prefix_length, prefix_on, times-append, times-before, times-in}
use Rattle.turnstile.specs.Passes.{first_value, seen, tally}
use Rattle.turnstile.specs.Places.{IsEachOnce, places, times}
use Rattle.commands.proofs.SharingLemmas.{list_goes_on, not_ended, same_history}
use Rattle.commands.specs.Beside.{IsBeside, ServedBesideWorkers}
use Rattle.commands.specs.Sharing.{IsSharedBy, begun}

-- holdings that lie in a list lie in one that begins with it
follow_on : {E : Type 0} (h : List E) (xs : List (Holding (List E))) (list more : List E) → Follow IsPrefix h xs list → IsPrefix list more
    → Follow IsPrefix h xs more
follow_on h [] list more f on = prefix_on h list more f on
follow_on h (x ∷ xs) list more f on = (f.0, follow_on x.to xs list more f.1 on)

module _ {D : Type 0} {g : Ghosts D} (lock : Lock D g) (given started served ended back : PassTo D g) (came went : Ends) (end : SessionEnd)
    (from : List Entry) (workers : ℕ)
    (same : seen started ≡ seen given) (kept : tally started ≡ tally given)
    (session : IsSession (fixed_in lock) started served end came went)
    (told : GoesOnce served ended (telling_end from)) (joined : AreJoined lock (seen given) ended back workers) where
  -- all begins with what was seen at the start
  pub beside_begins : IsPrefix (seen given) (seen back)
  beside_begins =
      let told_begins : IsPrefix (seen served) (seen ended) =
      subst (λ (l : List Entry). IsPrefix (seen served) l) (sym told.seen_is)
      (prefix_on (seen served) from (with_ending from) told.begins told.grows) in
      prefix_on (seen given) (seen served) (seen back)
      (subst (λ (l : List Entry). IsPrefix l (seen served)) same session.goes.begins)
      (prefix_on (seen served) (seen ended) (seen back) told_begins joined.begins)

  -- what was added is of the session, of the ending and of the workers
  abbrev pub added : List ℕ
  added =
      (places_of length session.holdings ++ places (length from) (length (with_ending from) - length from)) ++ concat joined.workers

  pub beside_tally : tally back ≡ tally given ++ added
  beside_tally =
      let ps = places_of length session.holdings in
      let qs = places (length from) (length (with_ending from) - length from) in
      let ws = concat joined.workers in
      joined.tally_is
      ∙ ap (λ l. l ++ ws) (told.tally_is ∙ ap (λ l. l ++ qs) (session.goes.tally_is ∙ ap (λ l. l ++ ps) kept))
      ∙ ap (λ l. l ++ ws) (append_assoc (tally given) ps qs)
      ∙ append_assoc (tally given) (ps ++ qs) ws

  pub is_beside : IsBeside lock workers (seen given) (seen back) added came went end
  is_beside = record {
    holdings = session.holdings;
    ends_in = session.ends_in;
    told_at = from;
    begins =
        prefix_on (seen given) (seen served) from
        (subst (λ (l : List Entry). IsPrefix l (seen served)) same session.goes.begins) told.begins;
    follow =
        subst (λ (l : List Entry). Follow IsPrefix l session.holdings from) same
        (follow_on (seen started) session.holdings (seen served) from session.goes.follow told.begins);
    grows = subst (λ (l : List Entry). IsPrefix l (seen back)) told.seen_is joined.begins;
    workers = joined.workers;
    count_is = joined.count_is;
    work = joined.work;
    added_is = refl;
  }

-- nobody had told the end before, since each place that was added stands once
module _ {D : Type 0} {g : Ghosts D} (lock : Lock D g) (before list : List Entry) (added : List ℕ) (came went : Ends) (end : SessionEnd)
    (count first : ℕ) (b : IsBeside lock count before list added came went end) (unended : has_ended before ≡ false) (first_is : first ≡ length before)
    (once : IsEachOnce first (length list) added) where
  counted : (place : ℕ) → times place added ≡ times place (places_of length b.holdings)
      + (times place (places (length b.told_at) (length (with_ending b.told_at) - length b.told_at)) + times place (concat b.workers))
  counted place =
      let ps = places_of length b.holdings in
      let qs = places (length b.told_at) (length (with_ending b.told_at) - length b.told_at) in
      let t = ap (λ (l : List ℕ). times place l) b.added_is in
      let x = times-append place (ps ++ qs) (concat b.workers) in
      let y = times-append place ps qs in
      omega (arith, t, x, y)

  not_before : has_ended b.told_at ≡ true → ⊥
  not_before told =
      let from = b.told_at in
      let same : with_ending from ≡ from = ap (λ t. if t then from else from ++ Ending ∷ []) told in
      let on : IsPrefix from list = subst (λ (l : List Entry). IsPrefix l list) same b.grows in
      let ended : has_ended list ≡ true = subst (λ (l : List Entry). has_ended l ≡ true) on.1 (ended_on from on.0 told) in
      let place = length (before_ending list) in
      let at = ending_at list ended in
      let below : place < length from =
      subst (λ (l : List Entry). length (before_ending l) < length from) on.1 (ended_within from on.0 told) in
      let start = prefix_on before from list b.begins on in
      let above : length before ≤ place =
      (let e = ap (λ (l : List Entry). length (before_ending l)) start.1 in
      let o = ap length (open_before before start.0 unended) in
      let n = length-append before (before_ending start.0) in omega (arith, e, o, n)) in
      let longest = prefix_length from list on in
      let none_served = times_of_events IsAny list place (places_of length b.holdings) at
      (holdings_at IsAny before b.holdings list (follow_on before b.holdings from list b.follow on)
      (session_adds (fixed_in lock) came went end b.holdings b.ends_in)) in
      let none_worked = times_of_all IsPublished list place b.workers at
      (all_weaker (IsWorkIn lock before list) (λ ps. AllByRecursion (IsEventAt IsPublished list) ps) (work_at lock before list) b.workers
      (recursion_from_All (IsWorkIn lock before list) b.workers b.work)) in
      let none_ended = times-before place (length from) (length (with_ending from) - length from) below in
      let once_there =
      times-in place first (length list - first) (omega (arith, first_is, above)) (omega (arith, first_is, above, below, longest)) in
      let c = counted place in
      let o = once place in
      omega (arith, none_served, none_worked, none_ended, once_there, c, o)

  by_told : (told : Bool) → has_ended b.told_at ≡ told → has_ended b.told_at ≡ false
  by_told true e = absurd (not_before e)
  by_told false e = e

  whole : (rest : List Entry) × ((b.told_at ++ Ending ∷ rest ≡ list) × (has_ended b.told_at ≡ false))
  whole =
      let from = b.told_at in
      let untold = by_told (has_ended from) refl in
      let same : with_ending from ≡ from ++ Ending ∷ [] = ap (λ t. if t then from else from ++ Ending ∷ []) untold in
      let on : IsPrefix (from ++ Ending ∷ []) list = subst (λ (l : List Entry). IsPrefix l list) same b.grows in
      (on.0, (sym (append_assoc from (Ending ∷ []) on.0) ∙ on.1, untold))

  -- so it was told once, behind the session
  pub told_once : has_ended list ≡ true
  told_once = subst (λ (l : List Entry). has_ended l ≡ true) whole.1.0 (open_on b.told_at (Ending ∷ whole.0) whole.1.1)

  pub front : before_ending list ≡ b.told_at
  front =
      ap (λ (l : List Entry). before_ending l) (sym whole.1.0)
      ∙ (open_before b.told_at (Ending ∷ whole.0) whole.1.1 ∙ append-nil b.told_at)

-- what was done behind a lock is told of the histories
pub served_beside : {D : Type 0} {g : Ghosts D} (count : ℕ) (came went : Ends) (end : SessionEnd) (h last : History) (lock : Lock D g) (given back : PassTo D g)
    → IsSharedBy h lock given → IsPrefix (seen given) (seen back)
    → ((added : List ℕ) × (tally back ≡ tally given ++ added) × IsBeside lock count (seen given) (seen back) added came went end)
    ⊎ ((end ≡ sessions.NoMemory) × (back ≡ given))
    → last ≡ history_of (fixed_in lock) (seen back)
    → IsEachOnce (length (listed (first_value lock))) (length (seen back)) (tally back)
    → ServedBesideWorkers g count came went end h last
served_beside {D} {g} count came went end h last lock given back s begins beside is once =
    let list : List Entry = seen back in
    let last_is : last ≡ history_of (fixed_part h) list = is ∙ ap (λ (f : Fixed). history_of f list) s.fixed_is in
    let none : back ≡ given → last ≡ h =
    (λ e. last_is ∙ ap (λ (p : PassTo D g). history_of (fixed_part h) (seen p)) e ∙ ap (λ (l : List Entry). history_of (fixed_part h) l) s.seen_is
    ∙ same_history h) in
    let on = list_goes_on h list (subst (λ (l : List Entry). IsPrefix l list) s.seen_is begins) in
    record {
      goes_on = (on.0, last_is ∙ on.1);
      worked =
          ⊎_elim
          (λ b.
          let places_once : IsEachOnce (length h.events) (length list) b.0 =
          subst (λ (t : List ℕ). IsEachOnce (length h.events) (length list) t) (b.1 ∙ ap (λ (t : List ℕ). t ++ b.0) s.tally_is)
          (subst (λ (n : ℕ). IsEachOnce n (length list) (tally back)) s.length_is once) in
          let is_beside : IsBeside lock count (begun h) list b.0 came went end =
          subst (λ (l : List Entry). IsBeside lock count l list b.0 came went end) s.seen_is b.2 in
          let start : length h.events ≡ length (begun h) = sym (length-map h.events Happened) in
          inl (record {
            lock = lock;
            fixed_is = s.fixed_is;
            list = list;
            last_is = last_is;
            added = b.0;
            each_once = places_once;
            beside = is_beside;
            ended = told_once lock (begun h) list b.0 came went end count (length h.events) is_beside (not_ended h.events) start places_once;
            front = front lock (begun h) list b.0 came went end count (length h.events) is_beside (not_ended h.events) start places_once;
          }))
          (λ unbegun. inr (unbegun.0, none unbegun.1))
          beside;
    }

-- where nothing was begun
pub unbegun_beside : {D : Type 0} (g : Ghosts D) (count : ℕ) (came went : Ends) (h last : History) → last ≡ h
    → ServedBesideWorkers g count came went sessions.NoMemory h last
unbegun_beside g count came went h last is = record {
  goes_on = ([], is ∙ sym (nothing_more h));
  worked = inr (refl, is);
}
  where
    nothing_more : (h : History) → go_on h [] ≡ h
    nothing_more h = ap (λ (events : List Event). record { opened = h.opened; limits = h.limits; format = h.format; events = events }) (append-nil h.events)
