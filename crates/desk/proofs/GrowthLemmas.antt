-- What holdings add to the list.
use Rattle.std.proofs.Common.{◌≡◌, ℕ, zero, suc, ◌+◌, ◌-◌, List, [], ◌∷◌, ◌++◌, length, Option, ℤ, refl, sym, ap, ◌∙◌, subst, arith, length-append}
use Rattle.std.specs.List.{AllByRecursion}
use Rattle.std.proofs.lemmas.List.{length-map}
use Rattle.desk.specs.Behind.{AreTurnsPartly, IsPublication, IsSettlementPartly, Touch, faults_added, grown, looked_at}
use Rattle.fixed_units.specs.Quantities.{SiteNumber}
use Rattle.history.specs.Events.{Event}
use Rattle.office.proofs.CountLemmas.{fault_count-append}
use Rattle.office.specs.Counting.{fault_count}
use Rattle.recompute.specs.Jobs.{DayJob}
use Rattle.recompute.specs.declared.jobs.Publish.{Publish}
use Rattle.recompute.specs.declared.jobs.Publish.TheVariants.{Foreign, Published, Settled, Superseded}
use Rattle.register.specs.Asked.{outcome_at}
use Rattle.shared_office.specs.Entries.{events_in, history_of, with_events}
use Rattle.shared_office.specs.Finding.{published_by}
use Rattle.shared_office.specs.Holdings.{Holding}
use Rattle.shared_office.specs.Passing.{adding}
use Rattle.shared_office.specs.declared.entries.Entry.{Entry}
use Rattle.shared_office.specs.declared.entries.Entry.TheVariants.{Happened}
use Rattle.shared_office.specs.declared.entries.Fixed.{Fixed}
use Rattle.shared_office.proofs.TaskLemmas.{events_more}

abbrev pub Holdings : Type 0
Holdings = List (Holding (List Entry))

-- a holding added events, of which so many were faults of the journal
abbrev pub Adds : ℕ → Holding (List Entry) → Type 0
Adds faults x = (added : List Event) × (x ≡ adding x.from added) × (fault_count added ≡ faults)

-- holdings added events
abbrev pub Grows : Holding (List Entry) → Type 0
Grows x = (faults : ℕ) × Adds faults x

abbrev pub AllGrow : Holdings → Type 0
AllGrow xs = AllByRecursion Grows xs

-- of one holding
left_of : (x : Holding (List Entry)) (added : List Event) → x ≡ adding x.from added → x.to ≡ with_events x.from added
left_of x added is = ap (λ (h : Holding (List Entry)). h.to) is

grown_by_one : (x : Holding (List Entry)) → Grows x → length (events_in x.from) + (length x.to - length x.from) ≡ length (events_in x.to)
grown_by_one x k =
    let added = k.1.0 in
    let list : length x.to ≡ length x.from + length added =
    ap length (left_of x added k.1.1) ∙ length-append x.from _ ∙ ap (λ (n : ℕ). length x.from + n) (length-map added Happened) in
    let events : length (events_in x.to) ≡ length (events_in x.from) + length added =
    ap (λ (l : List Entry). length (events_in l)) (left_of x added k.1.1) ∙ ap length (events_more x.from added) ∙ length-append (events_in x.from) added in
    omega (arith, list, events)

pub faults_of_one : (x : Holding (List Entry)) (n : ℕ) → Adds n x → fault_count (events_in x.to) ≡ fault_count (events_in x.from) + n
faults_of_one x n k =
    ap (λ (l : List Entry). fault_count (events_in l)) (left_of x k.0 k.1) ∙ ap fault_count (events_more x.from k.0) ∙ fault_count-append (events_in x.from) k.0
    ∙ ap (λ (m : ℕ). fault_count (events_in x.from) + m) k.2

-- of those behind one another
pub all_on : (xs ys : Holdings) → AllGrow xs → AllGrow ys → AllGrow (xs ++ ys)
all_on [] ys h k = k
all_on (x ∷ xs) ys h k = (h.0, all_on xs ys h.1 k)

pub faults_on : (xs ys : Holdings) → faults_added (xs ++ ys) ≡ faults_added xs + faults_added ys
faults_on [] ys = omega arith
faults_on (x ∷ xs) ys = let rest = faults_on xs ys in omega (arith, rest)

-- of those that touch
pub grown_by : (from : List Entry) (xs : Holdings) (to : List Entry) → AllGrow xs → Touch from xs to → length (events_in from) + grown xs ≡ length (events_in to)
grown_by from [] to all touch = let same = ap (λ (l : List Entry). length (events_in l)) touch in omega (arith, same)
grown_by from (x ∷ xs) to all touch =
    let first = ap (λ (l : List Entry). length (events_in l)) touch.0 in
    let one = grown_by_one x all.0 in
    let rest = grown_by x.to xs to all.1 touch.1 in
    omega (arith, first, one, rest)

-- turns and settlements add publications alone
no_faults : (told : Publish) (job : DayJob) → fault_count (published_by told job) ≡ 0
no_faults Published job = refl
no_faults Settled job = refl
no_faults (Superseded edit) job = refl
no_faults Foreign job = refl

abbrev pub AddNoFaults : Holdings → Type 0
AddNoFaults xs = AllByRecursion (Adds 0) xs

looks : (x : Holding (List Entry)) → x ≡ adding x.from [] → Adds 0 x
looks x is = ([], is, refl)

publishes : (fixed : Fixed) (job : DayJob) (x : Holding (List Entry)) → IsPublication fixed job x → Adds 0 x
publishes fixed job x is =
    (published_by (outcome_at (history_of fixed x.from).events job) job, is, no_faults (outcome_at (history_of fixed x.from).events job) job)

pub turns_add : (fixed : Fixed) (n : ℕ) (xs : Holdings) → AreTurnsPartly fixed n xs → AddNoFaults xs
turns_add fixed zero xs are = subst AddNoFaults (sym are) tt
turns_add fixed (suc n) [] are = absurd are
turns_add fixed (suc n) (look ∷ []) are = (looks look are, tt)
turns_add fixed (suc n) (look ∷ (p ∷ xs)) are = (looks look are.1.0, (publishes fixed are.0 p are.2, turns_add fixed n xs are.3))

pub settlement_adds : (fixed : Fixed) (last : Option (SiteNumber × ℤ)) (xs : Holdings) → IsSettlementPartly fixed last xs → AddNoFaults xs
settlement_adds fixed last [] is = absurd is
settlement_adds fixed last (look ∷ []) is = (looks look is, tt)
settlement_adds fixed last (look ∷ (p ∷ xs)) is =
    (looks look is.1.0, (publishes fixed is.0 p is.2, settlement_adds fixed (looked_at is.0) xs is.3))

pub all_grow : (xs : Holdings) → AddNoFaults xs → AllGrow xs
all_grow [] none = tt
all_grow (x ∷ xs) none = ((0, none.0), all_grow xs none.1)

pub none_added : (xs : Holdings) → AddNoFaults xs → faults_added xs ≡ 0
none_added [] none = refl
none_added (x ∷ xs) none = let one = faults_of_one x 0 none.0 in let rest = none_added xs none.1 in omega (arith, one, rest)
