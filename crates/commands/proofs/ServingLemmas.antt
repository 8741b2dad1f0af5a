-- What serving connections comes to, and what its end says of the status.
use Rattle.std.proofs.Common.{◌≡◌, ◌⊎◌, ℕ, false, List, [], length, Ok, Err, Result, refl, sym, ◌∙◌, ap, subst, inl, inr, ⊎_elim}
use Rattle.std.proofs.lemmas.List.{append-nil}
use mathlib.Core.List.{IsPrefix}
use Rattle.devices.specs.declared.disks.Disk.{Ghosts}
use Rattle.history.specs.After.{go_on}
use Rattle.history.specs.Events.{Event, History}
use Rattle.journal.specs.declared.opening.OpenFault.{OpenFault}
use Rattle.serving.specs.Serving.{IsServeEnd, ServedBeside}
use Rattle.serving.specs.declared.whole.ServeEnd.{ServeEnd}
use Rattle.serving.specs.declared.whole.ServeEnd.TheVariants as ends
use Rattle.shared_office.specs.Entries.{fixed_part, history_of}
use Rattle.shared_office.specs.Passing.{Lock, PassTo, fixed_in, listed}
use Rattle.shared_office.specs.declared.entries.Entry.{Entry}
use Rattle.shared_office.specs.declared.entries.Fixed.{Fixed}
use Rattle.turnstile.specs.Passes.{first_value, seen, tally}
use Rattle.turnstile.specs.Places.{IsEachOnce}
use Rattle.commands.proofs.Lawful.{HasCause, IsLawful, innocent}
use Rattle.commands.proofs.OpeningLemmas.{sound_opens, unopened_cause}
use Rattle.commands.proofs.SharingLemmas.{list_goes_on, same_history}
use Rattle.commands.specs.Opening.{ending_over}
use Rattle.commands.specs.Ready.{CabinetIsWell, DoorsAreWell, HasSound, IsDone}
use Rattle.commands.specs.Serving.{IsUnserved, NobodyWasServed, ServesBetween, ServesConnections, serving_ending}
use Rattle.commands.specs.Sharing.{IsSharedBy, begun}
use Rattle.commands.specs.Statuses.{status_of}
use Rattle.commands.specs.Worlds.{Doorway, Told, World}

-- nobody was let in, for one of two reasons
unserved_by : (end : ServeEnd) (before after : Doorway) (h last : History)
    → (end ≡ ends.NoMemory) ⊎ ((end ≡ ends.DoorFault) × (after.listens ≡ before.listens))
    → NobodyWasServed after.told h last → IsUnserved end before after h last
unserved_by end before after h last why nobody =
    ⊎_elim
    (λ memory. subst (λ (e : ServeEnd). IsUnserved e before after h last) (sym memory) nobody)
    (λ deaf. subst (λ (e : ServeEnd). IsUnserved e before after h last) (sym deaf.0) (nobody, deaf.1))
    why

-- what was served behind a lock is told of the histories
pub serves_between : {D : Type 0} {g : Ghosts D} (workers connections : ℕ) (before after : Doorway) (end : ServeEnd) (h last : History)
    (lock : Lock D g) (given back : PassTo D g) → IsSharedBy h lock given → IsPrefix (seen given) (seen back)
    → IsServeEnd end connections after.told.given before.faults after.faults
    → ServedBeside lock workers (seen given) (seen back) (tally given) (tally back) after.told.given after.told.back
    ⊎ (((end ≡ ends.NoMemory) ⊎ ((end ≡ ends.DoorFault) × (after.listens ≡ before.listens))) × (after.told.given ≡ []) × (back ≡ given))
    → (end ≡ ends.NoMemory → (after.told.given ≡ []) × (back ≡ given))
    → (after.listens ≡ false → (after.told.given ≡ []) × (back ≡ given))
    → last ≡ history_of (fixed_in lock) (seen back)
    → IsEachOnce (length (listed (first_value lock))) (length (seen back)) (tally back)
    → ServesBetween g workers connections before after end h last
serves_between {D} {g} workers connections before after end h last lock given back s begins ended served unserved unlistened is once =
    let list : List Entry = seen back in
    let last_is : last ≡ history_of (fixed_part h) list = is ∙ ap (λ (f : Fixed). history_of f list) s.fixed_is in
    let none : back ≡ given → last ≡ h =
    (λ e. last_is ∙ ap (λ (p : PassTo D g). history_of (fixed_part h) (seen p)) e ∙ ap (λ (l : List Entry). history_of (fixed_part h) l) s.seen_is
    ∙ same_history h) in
    let on = list_goes_on h list (subst (λ (l : List Entry). IsPrefix l list) s.seen_is begins) in
    record {
      ended = ended;
      goes_on = (on.0, last_is ∙ on.1);
      served =
          ⊎_elim
          (λ beside.
          inl (record {
            lock = lock;
            fixed_is = s.fixed_is;
            list = list;
            last_is = last_is;
            places = tally back;
            each_once = subst (λ (n : ℕ). IsEachOnce n (length list) (tally back)) s.length_is once;
            beside =
                subst (λ (t : List ℕ). ServedBeside lock workers (begun h) list t (tally back) after.told.given after.told.back) s.tally_is
                (subst (λ (l : List Entry). ServedBeside lock workers l list (tally given) (tally back) after.told.given after.told.back) s.seen_is
                beside);
          }))
          (λ nobody. inr (unserved_by end before after h last nobody.0 (nobody.1, none nobody.2)))
          served;
      unserved = λ memory. let nobody = unserved memory in (nobody.0, none nobody.1);
      unlistened = λ deaf. let nobody = unlistened deaf in (nobody.0, none nobody.1);
    }

-- nobody was let in, since there was no memory
pub serves_nobody : {D : Type 0} (g : Ghosts D) (workers connections : ℕ) (before after : Doorway) (h last : History) → after.told.given ≡ [] → after.faults ≡ before.faults
    → last ≡ h → ServesBetween g workers connections before after ends.NoMemory h last
serves_nobody g workers connections before after h last none same is = record {
  ended = (none, same);
  goes_on = ([], is ∙ sym (nothing_more h));
  served = inr (none, is);
  unserved = λ memory. (none, is);
  unlistened = λ deaf. (none, is);
}
  where
    nothing_more : (h : History) → go_on h [] ≡ h
    nothing_more h = ap (λ (events : List Event). record { opened = h.opened; limits = h.limits; format = h.format; events = events }) (append-nil h.events)

serving_cause : {D : Type 0} (end : ServeEnd) (connections : ℕ) (before after : Told D)
    → IsServeEnd end connections after.doors.told.given before.doors.faults after.doors.faults
    → HasCause (status_of (serving_ending end)) before after
serving_cause ends.End connections before after is = innocent 0 before after refl
serving_cause ends.DoorFault connections before after is = record {
  asked = λ e. cc e;
  input = λ e. absurd (cc e);
  output = λ e. absurd (cc e);
  cabinet = λ e. absurd (cc e);
  doors = λ e. is.1;
}
serving_cause ends.NoMemory connections before after is = innocent 6 before after refl

serving_completes : {D : Type 0} (end : ServeEnd) (connections : ℕ) (before after : Told D)
    → IsServeEnd end connections after.doors.told.given before.doors.faults after.doors.faults → DoorsAreWell before after
    → IsDone (status_of (serving_ending end))
serving_completes ends.End connections before after is well = inl refl
serving_completes ends.DoorFault connections before after is well = absurd (well is.1)
serving_completes ends.NoMemory connections before after is well = inr refl

module _ {S K E C L P D : Type 0} (g : Ghosts D) (tell : World S K E C L P → Told D) (name : List ℕ) (workers connections : ℕ) where
  cause : (end : Result ServeEnd OpenFault) (before after : World S K E C L P) → ServesConnections g tell name workers connections end before after
      → HasCause (status_of (ending_over serving_ending end)) (tell before) (tell after)
  cause (Ok end) before after did = serving_cause end connections (tell before) (tell after) did.over.worked.ended
  cause (Err why) before after did = unopened_cause why (tell before) (tell after) did.over.cause

  complete : (end : Result ServeEnd OpenFault) (before after : World S K E C L P)
      → ServesConnections g tell name workers connections end before after → HasSound g name (tell before).cabinet.places
      → CabinetIsWell (tell before) (tell after) × DoorsAreWell (tell before) (tell after)
      → IsDone (status_of (ending_over serving_ending end))
  complete (Ok end) before after did ready well = serving_completes end connections (tell before) (tell after) did.over.worked.ended well.1
  complete (Err why) before after did ready well =
      inr (sound_opens g name why (tell before).cabinet (tell after).cabinet did.over ready well.0)

  pub serving_lawful : IsLawful tell (ending_over serving_ending) (λ found. HasSound g name found.cabinet.places)
      (λ before after. CabinetIsWell before after × DoorsAreWell before after)
      (λ end before after. ServesConnections g tell name workers connections end before after)
  serving_lawful = record {
    cause = cause;
    early = λ end before after did is. did.streams;
    unwritten = λ end before after did is. did.streams.1;
    complete = complete;
  }
