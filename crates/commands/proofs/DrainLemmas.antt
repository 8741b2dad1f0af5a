-- No day is pending at the end of a run in which a worker ended drained.
use Rattle.std.proofs.Common.{◌≡◌, ◌≢◌, ℕ, ◌+◌, ◌-◌, ◌<◌, ◌≤◌, Bool, true, false, if◌then◌else◌, List, [], ◌∷◌, ◌++◌, length, length-append, ◌∙◌, ap, subst, arith}
use Rattle.std.specs.List.{AllByRecursion, concat}
use Rattle.std.proofs.lemmas.List.{length-map}
use Rattle.std.proofs.lemmas.List.Elements.{recursion_from_All}
use Rattle.desk.specs.declared.sessions.SessionEnd.{SessionEnd}
use Rattle.devices.specs.Doors.{Connections, Ends}
use Rattle.devices.specs.declared.disks.Disk.{Ghosts}
use Rattle.history.specs.Awaited.{pending_days}
use Rattle.history.specs.Events.{History}
use Rattle.serving.proofs.BesideLemmas.{connections_at, work_at}
use Rattle.serving.proofs.DrainLemmas.{drained_to_the_end, none_behind, none_behind_all}
use Rattle.serving.proofs.EventLemmas.{IsEventAt, all_weaker, ended_within, holdings_at, open_before}
use Rattle.serving.proofs.WorkedLemmas.{IsAny, IsPublished, session_adds}
use Rattle.serving.specs.Crews.{IsWorkIn}
use Rattle.shared_office.specs.Entries.{before_ending, has_ended, with_ending}
use Rattle.shared_office.specs.Holdings.{places_of}
use Rattle.shared_office.specs.Passing.{fixed_in}
use Rattle.shared_office.specs.declared.entries.Entry.{Entry}
use Rattle.shared_office.specs.declared.entries.Entry.TheVariants.{Ending, Happened}
use Rattle.turnstile.proofs.ListLemmas.{times-append, times-in, times-out}
use Rattle.turnstile.specs.Places.{places, times}
use Rattle.workers.specs.declared.workers.WorkerEnd.TheVariants.{Drained}
use Rattle.commands.proofs.SharingLemmas.{not_ended}
use Rattle.commands.specs.Beside.{WorksBeside}
use Rattle.commands.specs.Serving.{AreServedBeside}
use Rattle.commands.specs.Sharing.{begun}

-- what was there at the start stands before the ending
begun_before : (h : History) (rest list : List Entry) → begun h ++ rest ≡ list → length h.events ≤ length (before_ending list)
begun_before h rest list whole =
    let e = ap (λ (l : List Entry). length (before_ending l)) whole in
    let o = ap length (open_before (begun h) rest (not_ended h.events)) in
    let n = length-append (begun h) (before_ending rest) in
    let m = length-map h.events Happened in
    omega (arith, e, o, n, m)

-- the ending adds one entry at most
ending_adds : (list : List Entry) (told : Bool) → length (if told then list else list ++ Ending ∷ []) ≤ length list + 1
ending_adds list true = omega arith
ending_adds list false = let a = length-append list (Ending ∷ []) in omega (arith, a)

other_place : (at place : ℕ) → at ≢ place → times place (at ∷ []) ≡ 0
other_place at place ne = grind (arith, ne)

-- of `serve`
pub serve_drained : {D : Type 0} (g : Ghosts D) (workers : ℕ) (told : Connections) (h last : History) (served : AreServedBeside g workers told h last)
    (places : List ℕ) (work : IsWorkIn served.lock (begun h) served.list places) (count : ℕ) → work.end ≡ Drained count → pending_days last.events ≡ []
serve_drained {D} g workers told h last a places w count drained =
    let b = a.beside in
    let list : List Entry = a.list in
    let works = all_weaker (IsWorkIn a.lock (begun h) list) (λ ps. AllByRecursion (IsEventAt IsPublished list) ps) (work_at a.lock (begun h) list) b.workers
    (recursion_from_All (IsWorkIn a.lock (begun h) list) b.workers b.work) in
    let above = begun_before h b.grows.0 list b.grows.1 in
    ap (λ (k : History). pending_days k.events) a.last_is
    ∙ drained_to_the_end a.lock (begun h) list b.workers places w count drained works
    (λ from rest whole ended place behind below.
    let edge : length (before_ending list) < length from = subst (λ (l : List Entry). length (before_ending l) < length from) whole (ended_within from rest ended) in
    let none_connected = none_behind_all IsAny (before_ending list) place b.connections (omega (arith, edge, behind))
    (connections_at (fixed_in a.lock) (length (begun h)) (before_ending list) told.back 1 told.given b.connections b.each) in
    let none_ended = other_place (length (before_ending list)) place (λ e. absurd (omega (arith, e, edge, behind))) in
    let t = b.tally place in
    let x = times-append place (concat b.connections) (concat b.workers ++ length (before_ending list) ∷ []) in
    let y = times-append place (concat b.workers) (length (before_ending list) ∷ []) in
    let o = a.each_once place in
    let some = times-in place (length h.events) (length list - length h.events) (omega (arith, above, edge, behind)) (omega (arith, above, edge, behind, below)) in
    omega (arith, t, x, y, o, some, none_connected, none_ended))

-- of `batch`
pub batch_drained : {D : Type 0} (g : Ghosts D) (workers : ℕ) (came went : Ends) (end : SessionEnd) (h last : History)
    (worked : WorksBeside g workers came went end h last) (places : List ℕ) (work : IsWorkIn worked.lock (begun h) worked.list places) (count : ℕ)
    → work.end ≡ Drained count → pending_days last.events ≡ []
batch_drained {D} g workers came went end h last a held w count drained =
    let b = a.beside in
    let list : List Entry = a.list in
    let from' : List Entry = b.told_at in
    let works = all_weaker (IsWorkIn a.lock (begun h) list) (λ ps. AllByRecursion (IsEventAt IsPublished list) ps) (work_at a.lock (begun h) list) b.workers
    (recursion_from_All (IsWorkIn a.lock (begun h) list) b.workers b.work) in
    let front = ap length a.front in
    let start = length h.events in
    let above = begun_before_told a in
    ap (λ (k : History). pending_days k.events) a.last_is
    ∙ drained_to_the_end a.lock (begun h) list b.workers held w count drained works
    (λ from rest whole ended place behind below.
    let edge : length (before_ending list) < length from = subst (λ (l : List Entry). length (before_ending l) < length from) whole (ended_within from rest ended) in
    let none_served = none_behind IsAny from' place (places_of length b.holdings) (omega (arith, front, edge, behind))
    (holdings_at IsAny (begun h) b.holdings from' b.follow (session_adds (fixed_in a.lock) came went end b.holdings b.ends_in)) in
    let little = ending_adds from' (has_ended from') in
    let none_ended = times-out place (length from') (length (with_ending from') - length from') (omega (arith, front, edge, behind, little)) in
    let t = ap (λ (l : List ℕ). times place l) b.added_is in
    let x = times-append place (places_of length b.holdings ++ places (length from') (length (with_ending from') - length from')) (concat b.workers) in
    let y = times-append place (places_of length b.holdings) (places (length from') (length (with_ending from') - length from')) in
    let o = a.each_once place in
    let some = times-in place start (length list - start) (omega (arith, above, front, edge, behind)) (omega (arith, above, front, edge, behind, below)) in
    omega (arith, t, x, y, o, some, none_served, none_ended))
  where
    begun_before_told : (a : WorksBeside g workers came went end h last) → length h.events ≤ length a.beside.told_at
    begun_before_told a =
        let n = ap length a.beside.begins.1 in
        let m = length-append (begun h) a.beside.begins.0 in
        let k = length-map h.events Happened in
        omega (arith, n, m, k)
