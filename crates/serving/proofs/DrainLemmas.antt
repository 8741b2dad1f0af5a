-- Where a worker found that the end was told and no day pending, publications alone stand behind what it found, and no day is pending then.
use Rattle.std.proofs.Common.{◌≡◌, ◌≢◌, ℕ, ◌+◌, ◌-◌, ◌<◌, ◌≤◌, true, List, [], ◌∷◌, ◌++◌, length, map, filter, Some, sym, ap, ◌∙◌, refl, subst, append_assoc, append-nil, length-append, arith}
use Rattle.std.specs.Prelude.{slice_get, ℤ}
use Rattle.std.specs.List.{AllByRecursion, concat}
use Rattle.std.proofs.lemmas.Option.{slice_get_within}
use mathlib.Core.List.{IsPrefix}
use Rattle.devices.specs.declared.disks.Disk.{Ghosts}
use Rattle.fixed_units.specs.Quantities.{SiteNumber}
use Rattle.history.specs.Awaited.{pending_days}
use Rattle.history.specs.Events.{Event, Accepted, Published, Faulted}
use Rattle.register.proofs.SettleLemmas.{is_other, pending_left}
use Rattle.serving.specs.Crews.{IsWorkIn}
use Rattle.serving.proofs.EventLemmas.{Adds, IsEventAt, all_weaker, get_here, times_behind}
use Rattle.serving.proofs.WorkedLemmas.{IsPublished, tasks_add}
use Rattle.shared_office.proofs.TaskLemmas.{events_more}
use Rattle.shared_office.specs.Entries.{events_in, has_ended}
use Rattle.shared_office.specs.Holdings.{Holding, Follow, last_of}
use Rattle.shared_office.specs.Passing.{Lock, fixed_in}
use Rattle.shared_office.specs.Working.{IsDrained}
use Rattle.shared_office.specs.declared.entries.Entry.{Entry}
use Rattle.shared_office.specs.declared.entries.Entry.TheVariants.{Happened, Ending}
use Rattle.turnstile.proofs.ListLemmas.{prefix_on, times-append}
use Rattle.turnstile.specs.Places.{times}
use Rattle.workers.specs.Work.{EndsBy}
use Rattle.workers.specs.declared.workers.WorkerEnd.{WorkerEnd}
use Rattle.workers.specs.declared.workers.WorkerEnd.TheVariants.{Drained}

-- this entry is no publication
abbrev IsOther : Entry → Type 0
IsOther x = (site : SiteNumber) (day : ℤ) → x ≡ Happened (Published site day) → ⊥

some_is : (x y : Entry) → Some x ≡ Some y → x ≡ y
some_is x y e = cc

-- where another entry stands no worker has added anything
times_of_others : (list : List Entry) (place : ℕ) (x : Entry) (ps : List ℕ) → IsOther x → slice_get list place ≡ Some x
    → AllByRecursion (IsEventAt IsPublished list) ps → times place ps ≡ 0
times_of_others list place x [] other at all = refl
times_of_others list place x (p ∷ ps) other at all =
    let is = all.0 in
    let ne : p ≢ place = λ e.
    other is.1.0 is.1.1 (some_is x (Happened (Published is.1.0 is.1.1))
    (sym at ∙ (ap (λ (q : ℕ). slice_get list q) (sym e) ∙ (is.2 ∙ ap (λ (event : Event). Some (Happened event)) is.1.2)))) in
    let more = times_of_others list place x ps other at all.1 in
    grind (arith, ne, more)

times_of_all_others : (list : List Entry) (place : ℕ) (x : Entry) (lists : List (List ℕ)) → IsOther x → slice_get list place ≡ Some x
    → AllByRecursion (λ ps. AllByRecursion (IsEventAt IsPublished list) ps) lists → times place (concat lists) ≡ 0
times_of_all_others list place x [] other at all = refl
times_of_all_others list place x (ps ∷ lists) other at all =
    let a = times-append place ps (concat lists) in
    let b = times_of_others list place x ps other at all.0 in
    let c = times_of_all_others list place x lists other at all.1 in
    omega (arith, a, b, c)

-- what a worker has added is a publication
is_publication : (list : List Entry) (place : ℕ) (workers : List (List ℕ)) (x : Entry) → slice_get list place ≡ Some x
    → AllByRecursion (λ ps. AllByRecursion (IsEventAt IsPublished list) ps) workers → 0 < times place (concat workers)
    → (site : SiteNumber) × (day : ℤ) × (x ≡ Happened (Published site day))
is_publication list place workers (Happened (Published site day)) at work some = (site, day, refl)
is_publication list place workers (Happened (Accepted piece)) at work some =
    let none = times_of_all_others list place (Happened (Accepted piece)) workers (λ site day e. absurd (cc e)) at work in absurd (omega (arith, none, some))
is_publication list place workers (Happened (Faulted doubt)) at work some =
    let none = times_of_all_others list place (Happened (Faulted doubt)) workers (λ site day e. absurd (cc e)) at work in absurd (omega (arith, none, some))
is_publication list place workers Ending at work some =
    let none = times_of_all_others list place Ending workers (λ site day e. absurd (cc e)) at work in absurd (omega (arith, none, some))

-- behind a list in which no day is pending publications leave none pending
published_on : (from rest : List Entry)
    → ((place : ℕ) (x : Entry) → length from ≤ place → place < length (from ++ rest) → slice_get (from ++ rest) place ≡ Some x
    → (site : SiteNumber) × (day : ℤ) × (x ≡ Happened (Published site day)))
    → pending_days (events_in from) ≡ [] → pending_days (events_in (from ++ rest)) ≡ []
published_on from [] all none = ap (λ (l : List Entry). pending_days (events_in l)) (append-nil from) ∙ none
published_on from (x ∷ rest) all none =
    let longer = length-append from (x ∷ rest) in
    let is = all (length from) x (omega arith) (omega (arith, longer)) (get_here from x rest) in
    let whole : (from ++ x ∷ []) ++ rest ≡ from ++ x ∷ rest = append_assoc from (x ∷ []) rest in
    let next = length-append from (x ∷ []) in
    let same = ap length whole in
    let left : pending_days (events_in (from ++ x ∷ [])) ≡ [] =
    ap (λ (y : Entry). pending_days (events_in (from ++ y ∷ []))) is.2
    ∙ (ap pending_days (events_more from (Published is.0 is.1 ∷ []))
    ∙ (pending_left (events_in from) is.0 is.1 ∙ ap (λ l. filter (is_other is.0 is.1) l) none)) in
    ap (λ (l : List Entry). pending_days (events_in l)) (sym whole)
    ∙ published_on (from ++ x ∷ []) rest
    (λ place y behind below at.
    all place y (omega (arith, behind, next)) (omega (arith, below, same)) (subst (λ (l : List Entry). slice_get l place ≡ Some y) whole at))
    left

holding_is : (x y : Holding (List Entry)) → Some x ≡ Some y → x ≡ y
holding_is x y e = cc

-- the last of a worker's holdings lies in the list
last_within : (m : List Entry) (xs : List (Holding (List Entry))) (list : List Entry) (last : Holding (List Entry)) → Follow IsPrefix m xs list
    → AllByRecursion (Adds IsPublished) xs → last_of xs ≡ Some last → IsPrefix last.from list
last_within m [] list last f all is = absurd (cc is)
last_within m (x ∷ []) list last f all is =
    let same : x ≡ last = holding_is x last is in
    subst (λ (h : Holding (List Entry)). IsPrefix h.from list) same
    (prefix_on x.from x.to list (map Happened all.0.0, sym all.0.1) f.1)
last_within m (x ∷ (y ∷ xs)) list last f all is = last_within x.to (y ∷ xs) list last f.1 all.1 is

-- at the places of events in a list nothing stands behind it
pub none_behind : (Q : Event → Type 0) (list : List Entry) (place : ℕ) (ps : List ℕ) → length list ≤ place → AllByRecursion (IsEventAt Q list) ps
    → times place ps ≡ 0
none_behind Q list place ps behind all =
    times_behind (length list) place ps behind
    (all_weaker (IsEventAt Q list) (λ p. p < length list) (λ p at. slice_get_within list p (Happened at.0) at.2) ps all)

pub none_behind_all : (Q : Event → Type 0) (list : List Entry) (place : ℕ) (lists : List (List ℕ)) → length list ≤ place
    → AllByRecursion (λ ps. AllByRecursion (IsEventAt Q list) ps) lists → times place (concat lists) ≡ 0
none_behind_all Q list place [] behind all = refl
none_behind_all Q list place (ps ∷ lists) behind all =
    let a = times-append place ps (concat lists) in
    let b = none_behind Q list place ps behind all.0 in
    let c = none_behind_all Q list place lists behind all.1 in
    omega (arith, a, b, c)

-- Workers worked in a list, one of them, or any that worked in it, ended drained, and each place behind the ending was added by one of them.
pub drained_to_the_end : {D : Type 0} {g : Ghosts D} (lock : Lock D g) (start list : List Entry) (workers : List (List ℕ)) (places : List ℕ)
    (w : IsWorkIn lock start list places) (count : ℕ) → w.end ≡ Drained count
    → AllByRecursion (λ ps. AllByRecursion (IsEventAt IsPublished list) ps) workers
    → ((from rest : List Entry) → from ++ rest ≡ list → has_ended from ≡ true → (place : ℕ) → length from ≤ place → place < length list
    → 0 < times place (concat workers))
    → pending_days (events_in list) ≡ []
drained_to_the_end lock start list workers places w count drained work once =
    let is : IsDrained (fixed_in lock) w.last.from = subst (λ (end : WorkerEnd). EndsBy lock end w.last) drained w.ends in
    let within : IsPrefix w.last.from list = last_within start w.holdings list w.last w.follow (tasks_add w.holdings w.adds) w.last_is in
    let whole : w.last.from ++ within.0 ≡ list = within.1 in
    let same = ap length whole in
    ap (λ (l : List Entry). pending_days (events_in l)) (sym whole)
    ∙ published_on w.last.from within.0
    (λ place x behind below at.
    is_publication list place workers x (subst (λ (l : List Entry). slice_get l place ≡ Some x) whole at) work
    (once w.last.from within.0 whole is.0 place behind (omega (arith, below, same))))
    is.1
