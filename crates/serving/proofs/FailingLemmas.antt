-- No more replies of connections tell that the journal failed than faults have joined the list, since each fault has one place.
use Rattle.std.proofs.Common.{◌≡◌, ◌⊎◌, ℕ, suc, ◌+◌, ◌-◌, ◌<◌, ◌≤◌, List, [], ◌∷◌, ◌++◌, length, map, take, Option, Some, None, sym, ap, ◌∙◌, refl, subst, inl, inr, append_assoc, append-nil, length-append, arith}
use Rattle.std.specs.Prelude.{IsSomeAnd, slice_get}
use Rattle.std.specs.List.{concat}
use Rattle.std.proofs.lemmas.Bool.{cases_lt}
use native.Mathlib.Decide.{ℕ_discrete}
use mathlib.Core.List.{IsPrefix}
use Rattle.desk.proofs.GrowthLemmas.{AllGrow}
use Rattle.desk.proofs.SharedFaultLemmas.{fewer_before, replies_hold}
use Rattle.desk.specs.Behind.{faults_added}
use Rattle.desk.specs.Serving.{Served}
use Rattle.devices.specs.Doors.{Ends}
use Rattle.office.proofs.CountLemmas.{fault_count-append}
use Rattle.office.specs.Counting.{fault_count}
use Rattle.serving.proofs.EventLemmas.{get_here}
use Rattle.serving.specs.Failing.{failed_of, failed_replies}
use Rattle.serving.specs.Taking.{AreServed}
use Rattle.shared_office.proofs.TaskLemmas.{events_on}
use Rattle.shared_office.specs.Entries.{before_ending, events_in, with_events}
use Rattle.shared_office.specs.Holdings.{Holding, Follow, places_of}
use Rattle.shared_office.specs.declared.entries.Entry.{Entry}
use Rattle.shared_office.specs.declared.entries.Entry.TheVariants.{Ending, Happened}
use Rattle.shared_office.specs.declared.entries.Fixed.{Fixed}
use Rattle.turnstile.proofs.ListLemmas.{prefix_on, times-append, times-before, times-places}
use Rattle.turnstile.specs.Places.{places, times}

-- what stands at places, counted by what each counts for
abbrev weigh : (ℕ → ℕ) → List ℕ → ℕ
weigh f [] = 0
weigh f (p ∷ ps) = f p + weigh f ps

weigh-append : (f : ℕ → ℕ) (ps qs : List ℕ) → weigh f (ps ++ qs) ≡ weigh f ps + weigh f qs
weigh-append f [] qs = omega arith
weigh-append f (p ∷ ps) qs = let e = weigh-append f ps qs in omega (arith, e)

-- a place that is in a list of places divides it
split_by : (p q : ℕ) (qs : List ℕ) → (0 < times p qs → (front : List ℕ) × (back : List ℕ) × (qs ≡ front ++ p ∷ back)) → 0 < times p (q ∷ qs) → Dec (q ≡ p)
    → (front : List ℕ) × (back : List ℕ) × (q ∷ qs ≡ front ++ p ∷ back)
split_by p q qs later some (yes e) = ([], qs, ap (λ (x : ℕ). x ∷ qs) e)
split_by p q qs later some (no ne) =
    let none : times p (q ∷ []) ≡ 0 = grind (arith, ne) in
    let whole = times-append p (q ∷ []) qs in
    let s = later (omega (arith, some, none, whole)) in
    (q ∷ s.0, s.1, ap (λ l. q ∷ l) s.2)

split : (p : ℕ) (qs : List ℕ) → 0 < times p qs → (front : List ℕ) × (back : List ℕ) × (qs ≡ front ++ p ∷ back)
split p [] some = absurd (omega (arith, some))
split p (q ∷ qs) some = split_by p q qs (split p qs) some (ℕ_discrete q p)

times_here : (p : ℕ) (ps : List ℕ) → times p (p ∷ ps) ≡ suc (times p ps)
times_here p ps = grind arith

-- fewer places count for less
lighter : (f : ℕ → ℕ) (ps qs : List ℕ) → ((i : ℕ) → times i ps ≤ times i qs) → weigh f ps ≤ weigh f qs
lighter f [] qs le = omega arith
lighter f (p ∷ ps) qs le =
    let here = times_here p ps in
    let most = le p in
    let s = split p qs (omega (arith, here, most)) in
    let less = lighter f ps (s.0 ++ s.1)
    (λ i.
    let a = le i in
    let b = ap (λ (l : List ℕ). times i l) s.2 in
    let c = times-append i s.0 (p ∷ s.1) in
    let d = times-append i s.0 s.1 in
    let e = times-append i (p ∷ []) s.1 in
    let k = times-append i (p ∷ []) ps in
    omega (arith, a, b, c, d, e, k)) in
    let w = ap (λ (l : List ℕ). weigh f l) s.2 in
    let x = weigh-append f s.0 (p ∷ s.1) in
    let y = weigh-append f s.0 s.1 in
    omega (arith, less, w, x, y)

-- how many faults stand at a place
abbrev of_entry : Option Entry → ℕ
of_entry None = 0
of_entry (Some x) = fault_count (events_in (x ∷ []))

abbrev faults_at : List Entry → ℕ → ℕ
faults_at list place = of_entry (slice_get list place)

more_faults : (xs ys : List Entry) → fault_count (events_in (xs ++ ys)) ≡ fault_count (events_in xs) + fault_count (events_in ys)
more_faults xs ys = ap fault_count (events_on xs ys) ∙ fault_count-append (events_in xs) (events_in ys)

-- at the places of what was added stand the faults that were added
faults_of_added : (from added rest list : List Entry) → from ++ (added ++ rest) ≡ list
    → weigh (faults_at list) (places (length from) (length added)) ≡ fault_count (events_in added)
faults_of_added from [] rest list whole = refl
faults_of_added from (x ∷ added) rest list whole =
    let here : slice_get list (length from) ≡ Some x =
    subst (λ (l : List Entry). slice_get l (length from) ≡ Some x) whole (get_here from x (added ++ rest)) in
    let next : length (from ++ x ∷ []) ≡ suc (length from) = (let a = length-append from (x ∷ []) in omega (arith, a)) in
    let more = subst (λ (n : ℕ). weigh (faults_at list) (places n (length added)) ≡ fault_count (events_in added)) next
    (faults_of_added (from ++ x ∷ []) added rest list (append_assoc from (x ∷ []) (added ++ rest) ∙ whole)) in
    let both = more_faults (x ∷ []) added in
    let one : faults_at list (length from) ≡ fault_count (events_in (x ∷ [])) = ap of_entry here in
    omega (arith, more, both, one)

-- holdings of which each adds events reach into the list
reach : (m : List Entry) (xs : List (Holding (List Entry))) (list : List Entry) → Follow IsPrefix m xs list → AllGrow xs → IsPrefix m list
reach m [] list f all = f
reach m (x ∷ xs) list f all =
    let to : x.to ≡ with_events x.from all.0.1.0 = ap (λ (h : Holding (List Entry)). h.to) all.0.1.1 in
    prefix_on m x.from list f.0 (prefix_on x.from x.to list (map Happened all.0.1.0, sym to) (reach x.to xs list f.1 all.1))

faults_of_holdings : (h : List Entry) (xs : List (Holding (List Entry))) (list : List Entry) → Follow IsPrefix h xs list → AllGrow xs
    → weigh (faults_at list) (places_of length xs) ≡ faults_added xs
faults_of_holdings h [] list f all = refl
faults_of_holdings h (x ∷ xs) list f all =
    let new : List Entry = map Happened all.0.1.0 in
    let to : x.to ≡ x.from ++ new = ap (λ (h : Holding (List Entry)). h.to) all.0.1.1 in
    let r = reach x.to xs list f.1 all.1 in
    let whole : x.from ++ (new ++ r.0) ≡ list = sym (append_assoc x.from new r.0) ∙ (ap (λ l. l ++ r.0) (sym to) ∙ r.1) in
    let count : length new ≡ length x.to - length x.from = (let a = ap length to in let b = length-append x.from new in omega (arith, a, b)) in
    let mine = subst (λ (n : ℕ). weigh (faults_at list) (places (length x.from) n) ≡ fault_count (events_in new)) count
    (faults_of_added x.from new r.0 list whole) in
    let later = faults_of_holdings x.to xs list f.1 all.1 in
    let both = weigh-append (faults_at list) (places (length x.from) (length x.to - length x.from)) (places_of length xs) in
    let grown = ap (λ (l : List Entry). fault_count (events_in l)) to ∙ more_faults x.from new in
    omega (arith, mine, later, both, grown)

-- at the places of a connection stand as many as replies of it tell one
faults_of_served : (fixed : Fixed) (came : Ends) (start : ℕ) (list : List Entry) (ps : List ℕ) (went : Option Ends)
    (served : IsSomeAnd went (λ went. Served fixed came went start list ps))
    → weigh (faults_at list) ps ≡ failed_of fixed came start list ps went served
faults_of_served fixed came start list ps None served = absurd served
faults_of_served fixed came start list ps (Some went) s =
    let told = replies_hold fixed s.holdings s.ends_in.messages s.ends_in.replies s.ends_in.answers in
    ap (λ (l : List ℕ). weigh (faults_at list) l) s.added_is ∙ (faults_of_holdings (take start list) s.holdings list s.follow told.0 ∙ told.1)

faults_of_all : (fixed : Fixed) (start : ℕ) (list : List Entry) (back : ℕ → Option Ends) (number : ℕ) (given : List Ends) (connections : List (List ℕ))
    (served : AreServed fixed start list back number given connections)
    → weigh (faults_at list) (concat connections) ≡ failed_replies fixed start list back number given connections served
faults_of_all fixed start list back number [] [] s = refl
faults_of_all fixed start list back number [] (c ∷ cs) s = absurd s
faults_of_all fixed start list back number (came ∷ given) [] s = absurd s
faults_of_all fixed start list back number (came ∷ given) (c ∷ cs) s =
    let one = faults_of_served fixed came start list c (back number) s.0 in
    let more = faults_of_all fixed start list back (number + 1) given cs s.1 in
    let both = weigh-append (faults_at list) c (concat cs) in
    omega (arith, one, more, both)

-- what stands before the ending begins the list
pub front_begins : (list : List Entry) → IsPrefix (before_ending list) list
front_begins [] = ([], refl)
front_begins (Happened event ∷ list) = let r = front_begins list in (r.0, ap (λ l. Happened event ∷ l) r.1)
front_begins (Ending ∷ list) = (Ending ∷ list, refl)

-- Connections are served in what stands before the ending; nowhere behind it are places of theirs, and each place that was added is theirs
-- once at most.
pub few_fail : (fixed : Fixed) (begun rest list : List Entry) (back : ℕ → Option Ends) (given : List Ends) (connections : List (List ℕ))
    (served : AreServed fixed (length begun) (before_ending list) back 1 given connections) → begun ++ rest ≡ before_ending list
    → ((place : ℕ) → length (before_ending list) ≤ place → times place (concat connections) ≡ 0)
    → ((place : ℕ) → times place (concat connections) ≤ times place (places (length begun) (length list - length begun)))
    → fault_count (events_in begun) + failed_replies fixed (length begun) (before_ending list) back 1 given connections served ≤ fault_count (events_in list)
few_fail fixed begun rest list back given connections served whole behind once =
    let front : List Entry = before_ending list in
    let begins = front_begins list in
    let theirs = faults_of_all fixed (length begun) front back 1 given connections served in
    let all = faults_of_added begun rest [] front (ap (λ l. begun ++ l) (append-nil rest) ∙ whole) in
    let fewer = lighter (faults_at front) (concat connections) (places (length begun) (length rest)) (λ place. by_place place (cases_lt place (length front))) in
    let sum = ap (λ (l : List Entry). fault_count (events_in l)) (sym whole) ∙ more_faults begun rest in
    let most = fewer_before front list begins in
    omega (arith, theirs, all, fewer, sum, most)
  where
    by_place : (place : ℕ) → (place < length (before_ending list)) ⊎ (length (before_ending list) ≤ place)
        → times place (concat connections) ≤ times place (places (length begun) (length rest))
    by_place place (inr le) = let none = behind place le in omega (arith, none)
    by_place place (inl lt) =
        let a = ap length whole in
        let b = length-append begun rest in
        let begins = front_begins list in
        let c = ap length begins.1 in
        let d = length-append (before_ending list) begins.0 in
        let n : length list - length begun ≡ length rest + length begins.0 = omega (arith, a, b, c, d) in
        let cut = ap (λ (k : ℕ). times place (places (length begun) k)) n ∙ times-places place (length begun) (length rest) (length begins.0) in
        let none = times-before place (length begun + length rest) (length begins.0) (omega (arith, lt, a, b)) in
        let most = once place in
        omega (arith, cut, none, most)
