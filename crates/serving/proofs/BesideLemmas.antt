-- Connections that were served beside workers.
use Rattle.std.proofs.Common.{◌≡◌, ℕ, ◌+◌, ◌-◌, ◌<◌, ◌≤◌, Bool, true, false, List, [], ◌∷◌, ◌++◌, length, take, Option, Some, None, sym, ap, ◌∙◌, refl, subst, append_assoc, append-nil, length-append, arith}
use Rattle.std.specs.Prelude.{All, IsSomeAnd, if◌then◌else◌}
use Rattle.std.specs.List.{AllByRecursion, concat}
use Rattle.std.proofs.lemmas.List.Elements.{All-from_recursion, recursion_from_All}
use mathlib.Core.List.{IsPrefix}
use Rattle.desk.specs.Serving.{Served}
use Rattle.devices.specs.Doors.{Ends}
use Rattle.devices.specs.declared.disks.Disk.{Ghosts}
use Rattle.history.specs.Events.{Event}
use Rattle.serving.specs.Crews.{IsWorkIn}
use Rattle.serving.specs.Serving.{IsPublicationAt, ServedBeside}
use Rattle.serving.specs.Taking.{AreServed}
use Rattle.serving.proofs.EventLemmas.{IsEventAt, all_weaker, ended_on, ended_within, ending_at, holdings_at, open_before, open_on, times_behind, times_of_all}
use Rattle.serving.proofs.TakingLemmas.{all_later}
use Rattle.serving.proofs.WorkedLemmas.{IsAny, IsPublished, session_adds, tasks_add}
use Rattle.shared_office.specs.Entries.{before_ending, has_ended, with_ending}
use Rattle.shared_office.specs.Passing.{Lock, fixed_in}
use Rattle.shared_office.specs.declared.entries.Entry.{Entry}
use Rattle.shared_office.specs.declared.entries.Entry.TheVariants.{Happened, Ending}
use Rattle.shared_office.specs.declared.entries.Fixed.{Fixed}
use Rattle.turnstile.proofs.ListLemmas.{prefix_length, prefix_on, times-append, times-before, times-in}
use Rattle.turnstile.specs.Places.{IsEachOnce, places, times}

-- at each place of a connection stands an event
served_at : (fixed : Fixed) (came went : Ends) (start : ℕ) (list : List Entry) (ps : List ℕ) → Served fixed came went start list ps → AllByRecursion (IsEventAt IsAny list) ps
served_at fixed came went start list ps s =
    subst (λ (l : List ℕ). AllByRecursion (IsEventAt IsAny list) l) (sym s.added_is)
    (holdings_at IsAny (take start list) s.holdings list s.follow (session_adds fixed came went s.end s.holdings s.ends_in))

went_at : (fixed : Fixed) (came : Ends) (start : ℕ) (list : List Entry) (ps : List ℕ) (went : Option Ends) → IsSomeAnd went (λ w. Served fixed came w start list ps)
    → AllByRecursion (IsEventAt IsAny list) ps
went_at fixed came start list ps None s = absurd s
went_at fixed came start list ps (Some w) s = served_at fixed came w start list ps s

pub connections_at : (fixed : Fixed) (start : ℕ) (list : List Entry) (back : ℕ → Option Ends) (number : ℕ) (given : List Ends) (connections : List (List ℕ))
    → AreServed fixed start list back number given connections → AllByRecursion (λ ps. AllByRecursion (IsEventAt IsAny list) ps) connections
connections_at fixed start list back number given [] s = tt
connections_at fixed start list back number [] (c ∷ cs) s = absurd s
connections_at fixed start list back number (came ∷ given) (c ∷ cs) s =
    (went_at fixed came start list c (back number) s.0, connections_at fixed start list back (number + 1) given cs s.1)

-- and at each of a worker a publication
pub work_at : {D : Type 0} {g : Ghosts D} (lock : Lock D g) (start list : List Entry) (ps : List ℕ) → IsWorkIn lock start list ps
    → AllByRecursion (IsEventAt IsPublished list) ps
work_at lock start list ps w =
    subst (λ (l : List ℕ). AllByRecursion (IsEventAt IsPublished list) l) (sym w.places_are) (holdings_at IsPublished start w.holdings list w.follow (tasks_add w.holdings w.adds))

published_at : (list : List Entry) (place : ℕ) → IsEventAt IsPublished list place → IsPublicationAt list place
published_at list place e = (e.1.0, e.1.1, e.2 ∙ ap (λ (event : Event). Some (Happened event)) e.1.2)

published_in : {D : Type 0} {g : Ghosts D} (lock : Lock D g) (start list : List Entry) (ps : List ℕ) → IsWorkIn lock start list ps → All (IsPublicationAt list) ps
published_in lock start list ps w =
    All-from_recursion (IsPublicationAt list) ps (all_weaker (IsEventAt IsPublished list) (IsPublicationAt list) (published_at list) ps (work_at lock start list ps w))

-- What was seen at the start; what was seen once the connections were taken in; what was there when the end was told; and what is seen then.
-- The tally is that of the whole share.
module _ {D : Type 0} {g : Ghosts D} (lock : Lock D g) (before taken from after : List Entry) (tally_before tally_after : List ℕ) (given : List Ends) (back : ℕ → Option Ends)
    (connections workers : List (List ℕ)) (count first : ℕ) where
  module _ (unended : has_ended before ≡ false) (within : All (λ place. place < length before) tally_before) (begun : first ≤ length before)
      (count_is : length workers ≡ count) (grows : IsPrefix before taken) (enters : IsPrefix taken from) (leaves : IsPrefix (with_ending from) after)
      (served : AreServed (fixed_in lock) (length before) taken back 1 given connections) (work : All (IsWorkIn lock before after) workers)
      (tally_is : tally_after ≡ ((tally_before ++ concat connections) ++ places (length from) (length (with_ending from) - length from)) ++ concat workers)
      (once : IsEachOnce first (length after) tally_after) where
    counted : (place : ℕ) → times place tally_after ≡ times place tally_before + (times place (concat connections)
        + (times place (places (length from) (length (with_ending from) - length from)) + times place (concat workers)))
    counted place =
        let t = ap (λ l. times place l) tally_is in
        let a = times-append place ((tally_before ++ concat connections) ++ places (length from) (length (with_ending from) - length from)) (concat workers) in
        let b = times-append place (tally_before ++ concat connections) (places (length from) (length (with_ending from) - length from)) in
        let c = times-append place tally_before (concat connections) in
        omega (arith, t, a, b, c)

    -- the end was not told before
    not_before : has_ended from ≡ true → ⊥
    not_before told =
        let same : with_ending from ≡ from = ap (λ b. if b then from else from ++ Ending ∷ []) told in
        let on : IsPrefix from after = subst (λ (l : List Entry). IsPrefix l after) same leaves in
        let ended : has_ended after ≡ true = subst (λ (l : List Entry). has_ended l ≡ true) on.1 (ended_on from on.0 told) in
        let place = length (before_ending after) in
        let at = ending_at after ended in
        let below : place < length from = subst (λ (l : List Entry). length (before_ending l) < length from) on.1 (ended_within from on.0 told) in
        let start = prefix_on before taken after grows (prefix_on taken from after enters on) in
        let above : length before ≤ place = (let e = ap (λ (l : List Entry). length (before_ending l)) start.1 in let o = ap length (open_before before start.0 unended) in
        let n = length-append before (before_ending start.0) in omega (arith, e, o, n)) in
        let longest = prefix_length from after on in
        let none_before = times_behind (length before) place tally_before above (recursion_from_All (λ p. p < length before) tally_before within) in
        let none_connected = times_of_all IsAny after place connections at
        (connections_at (fixed_in lock) (length before) after back 1 given connections
        (all_later (fixed_in lock) (length before) taken after back 1 given connections (prefix_on taken from after enters on) served)) in
        let none_worked = times_of_all IsPublished after place workers at
        (all_weaker (IsWorkIn lock before after) (λ ps. AllByRecursion (IsEventAt IsPublished after) ps) (work_at lock before after) workers
        (recursion_from_All (IsWorkIn lock before after) workers work)) in
        let none_ended = times-before place (length from) (length (with_ending from) - length from) below in
        let once_there = times-in place first (length after - first) (omega (arith, begun, above)) (omega (arith, below, longest)) in
        let c = counted place in let o = once place in
        omega (arith, none_before, none_connected, none_worked, none_ended, once_there, c, o)

    beside_by : has_ended from ≡ false → ServedBeside lock count before after tally_before tally_after given back
    beside_by untold =
        let same : with_ending from ≡ from ++ Ending ∷ [] = ap (λ b. if b then from else from ++ Ending ∷ []) untold in
        let on : IsPrefix (from ++ Ending ∷ []) after = subst (λ (l : List Entry). IsPrefix l after) same leaves in
        let whole : from ++ Ending ∷ on.0 ≡ after = sym (append_assoc from (Ending ∷ []) on.0) ∙ on.1 in
        let front : before_ending after ≡ from =
        ap (λ (l : List Entry). before_ending l) (sym whole) ∙ (open_before from (Ending ∷ on.0) untold ∙ append-nil from) in
        let one : places (length from) (length (with_ending from) - length from) ≡ length (before_ending after) ∷ [] =
        (let n : length (with_ending from) - length from ≡ 1 = (let a = ap length same in let b = length-append from (Ending ∷ []) in omega (arith, a, b)) in
        ap (λ k. places (length from) k) n ∙ ap (λ (l : List Entry). length l ∷ []) (sym front)) in record {
          connections = connections;
          workers = workers;
          count_is = count_is;
          grows = prefix_on before taken after grows (prefix_on taken from after enters (Ending ∷ on.0, whole));
          ended = subst (λ (l : List Entry). has_ended l ≡ true) whole (open_on from (Ending ∷ on.0) untold);
          each = subst (λ (l : List Entry). AreServed (fixed_in lock) (length before) l back 1 given connections) (sym front)
              (all_later (fixed_in lock) (length before) taken from back 1 given connections enters served);
          work = work;
          published = All-from_recursion (λ ps. All (IsPublicationAt after) ps) workers
              (all_weaker (IsWorkIn lock before after) (λ ps. All (IsPublicationAt after) ps) (published_in lock before after) workers (recursion_from_All (IsWorkIn lock before after) workers work));
          tally = λ place.
              let c = counted place in
              let e = ap (λ l. times place l) one in
              let a = times-append place (concat connections) (concat workers ++ length (before_ending after) ∷ []) in
              let b = times-append place (concat workers) (length (before_ending after) ∷ []) in
              omega (arith, c, e, a, b);
        }

    by_ending : (told : Bool) → has_ended from ≡ told → ServedBeside lock count before after tally_before tally_after given back
    by_ending true told = absurd (not_before told)
    by_ending false told = beside_by told

    pub beside : ServedBeside lock count before after tally_before tally_after given back
    beside = by_ending (has_ended from) refl
