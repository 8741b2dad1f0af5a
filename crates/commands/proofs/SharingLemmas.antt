-- What the list behind a lock says of the history of the office.
use Rattle.std.proofs.Common.{◌≡◌, ◌^◌, ℕ, zero, suc, false, List, [], ◌∷◌, ◌++◌, length, map, take, drop, Option, Some, None, refl, sym, ◌∙◌, ap, subst}
use Rattle.std.proofs.lemmas.List.{length-map}
use mathlib.Core.List.{IsPrefix}
use Rattle.devices.specs.declared.disks.Disk.{Ghosts}
use Rattle.history.specs.After.{go_on}
use Rattle.history.specs.Events.{Event, History}
use Rattle.shared_office.specs.Entries.{entries, events_in, fixed_part, has_ended, history_of}
use Rattle.shared_office.specs.Passing.{IsOf, Lock, PassTo, fixed_of, listed}
use Rattle.shared_office.specs.declared.entries.Entry.{Entry}
use Rattle.shared_office.specs.declared.entries.Entry.TheVariants.{Ending, Happened}
use Rattle.shared_office.specs.declared.entries.Fixed.{Fixed}
use Rattle.shared_office.specs.declared.shared.Shared.{Shared}
use Rattle.turnstile.specs.Passes.{first_value, seen, share, tally}
use Rattle.commands.specs.Sharing.{IsSharedBy, begun}

-- the events are read off the list
events_on : (xs ys : List Entry) → events_in (xs ++ ys) ≡ events_in xs ++ events_in ys
events_on [] ys = refl
events_on (Happened e ∷ xs) ys = ap (λ zs. e ∷ zs) (events_on xs ys)
events_on (Ending ∷ xs) ys = events_on xs ys

events_happened : (es : List Event) → events_in (map Happened es) ≡ es
events_happened [] = refl
events_happened (e ∷ es) = ap (λ zs. e ∷ zs) (events_happened es)

taken_and_dropped : (n : ℕ) (es : List Event) → take n es ++ drop n es ≡ es
taken_and_dropped zero es = refl
taken_and_dropped (suc n) [] = refl
taken_and_dropped (suc n) (e ∷ es) = ap (λ zs. e ∷ zs) (taken_and_dropped n es)

events_of_entries : (ending : Option ℕ) (events : List Event) → events_in (entries events ending) ≡ events
events_of_entries None events = events_happened events
events_of_entries (Some n) events =
    events_on (map Happened (take n events)) (Ending ∷ map Happened (drop n events))
    ∙ rw (events_happened (take n events), events_happened (drop n events)) (taken_and_dropped n events)

-- an office that is shared has not ended
pub not_ended : (events : List Event) → has_ended (map Happened events) ≡ false
not_ended [] = refl
not_ended (e ∷ es) = not_ended es

-- the history that an office has is that of its list
pub history_is : (last : History) (ending : Option ℕ) (fixed : Fixed) (list : List Entry) → entries last.events ending ≡ list
    → fixed_part last ≡ fixed → last ≡ history_of fixed list
history_is last ending fixed list is same =
    ap (λ (events : List Event). record { opened = last.opened; limits = last.limits; format = last.format; events = events })
    (sym (events_of_entries ending last.events) ∙ ap events_in is)
    ∙ ap (λ (f : Fixed). history_of f list) same

-- and where the list is that of a history it is that history
pub same_history : (h : History) → history_of (fixed_part h) (begun h) ≡ h
same_history h = ap (λ (events : List Event). record { opened = h.opened; limits = h.limits; format = h.format; events = events }) (events_happened h.events)

-- a list that begins with the events of a history is that of one that goes on from it
pub list_goes_on : (h : History) (list : List Entry) → IsPrefix (begun h) list
    → (since : List Event) × (history_of (fixed_part h) list ≡ go_on h since)
list_goes_on h list begins = (
  events_in begins.0,
  ap (λ (events : List Event). record { opened = h.opened; limits = h.limits; format = h.format; events = events })
      (ap events_in (sym begins.1) ∙ events_on (begun h) begins.0 ∙ ap (λ zs. zs ++ events_in begins.0) (events_happened h.events)),
)

-- a lock that was made round an office
pub shared_by : {D : Type 0} {g : Ghosts D} (h : History) (first : Shared D g) (made lock : Lock D g) (pass : PassTo D g)
    → first.office.register.history ≡ h → first.ending ≡ None → lock ≡ made → IsOf made pass → first_value made ≡ first
    → seen pass ≡ listed first → share pass ≡ 2 ^ 32 → tally pass ≡ [] → IsSharedBy h lock pass
shared_by {D} {g} h first made lock pass is unended same of value saw whole none =
    let one : first_value lock ≡ first = ap (λ (t : Lock D g). first_value t) same ∙ value in
    record {
      of = subst (λ (t : Lock D g). IsOf t pass) (sym same) of;
      share_is = whole;
      seen_is = saw ∙ ap (λ (ending : Option ℕ). entries first.office.register.history.events ending) unended ∙ ap (λ (k : History). begun k) is;
      tally_is = none;
      fixed_is = ap (λ (s : Shared D g). fixed_of s) one ∙ ap (λ (k : History). fixed_part k) is;
      length_is =
          ap (λ (s : Shared D g). length (listed s)) one
          ∙ ap (λ (ending : Option ℕ). length (entries first.office.register.history.events ending)) unended
          ∙ length-map first.office.register.history.events Happened ∙ ap (λ (k : History). length k.events) is;
    }

-- a lock that was closed with nothing done
pub closed_alone : {D : Type 0} {g : Ghosts D} (first closed : Shared D g) → first.ending ≡ None → listed closed ≡ listed first
    → fixed_of closed ≡ fixed_of first → closed.office.register.history ≡ first.office.register.history
closed_alone first closed unended list fixed =
    let h : History = first.office.register.history in
    history_is closed.office.register.history closed.ending (fixed_part h) (begun h)
    (list ∙ ap (λ (ending : Option ℕ). entries h.events ending) unended) fixed
    ∙ same_history h
