-- Places of what holdings added, and the place of the ending.
use Rattle.std.proofs.Common.{◌≡◌, ◌≢◌, ℕ, suc, ◌+◌, ◌-◌, ◌<◌, ◌≤◌, true, false, List, [], ◌∷◌, ◌++◌, length, map, Some, sym, ap, ◌∙◌, refl, subst, append_assoc, length-append, arith}
use Rattle.std.specs.Prelude.{slice_get}
use Rattle.std.specs.List.{AllByRecursion, concat}
use Rattle.std.proofs.lemmas.List.{length-map}
use mathlib.Core.List.{IsPrefix}
use Rattle.history.specs.Events.{Event}
use Rattle.shared_office.specs.Entries.{before_ending, has_ended, with_events}
use Rattle.shared_office.specs.Holdings.{Holding, Follow, places_of}
use Rattle.shared_office.specs.declared.entries.Entry.{Entry}
use Rattle.shared_office.specs.declared.entries.Entry.TheVariants.{Happened, Ending}
use Rattle.turnstile.proofs.ListLemmas.{prefix_on, times-append}
use Rattle.turnstile.specs.Places.{places, times}

pub all_on : {X : Type 0} (P : X → Type 0) (xs ys : List X) → AllByRecursion P xs → AllByRecursion P ys → AllByRecursion P (xs ++ ys)
all_on P [] ys a b = b
all_on P (x ∷ xs) ys a b = (a.0, all_on P xs ys a.1 b)

pub all_weaker : {X : Type 0} (P Q : X → Type 0) → ((x : X) → P x → Q x) → (xs : List X) → AllByRecursion P xs → AllByRecursion Q xs
all_weaker P Q f [] a = tt
all_weaker P Q f (x ∷ xs) a = (f x a.0, all_weaker P Q f xs a.1)

-- an event of this sort stands at a place
abbrev pub IsEventAt : (Event → Type 0) → List Entry → ℕ → Type 0
IsEventAt Q list place = (event : Event) × Q event × (slice_get list place ≡ Some (Happened event))

-- a holding added events of this sort, and nothing else
abbrev pub Adds : (Event → Type 0) → Holding (List Entry) → Type 0
Adds Q x = (added : List Event) × (x.to ≡ with_events x.from added) × AllByRecursion Q added

pub get_here : (xs : List Entry) (x : Entry) (more : List Entry) → slice_get (xs ++ x ∷ more) (length xs) ≡ Some x
get_here [] x more = refl
get_here (y ∷ xs) x more = get_here xs x more

events_at : (Q : Event → Type 0) (from : List Entry) (added : List Event) (rest list : List Entry) → (from ++ map Happened added) ++ rest ≡ list → AllByRecursion Q added
    → AllByRecursion (IsEventAt Q list) (places (length from) (length added))
events_at Q from [] rest list e all = tt
events_at Q from (x ∷ added) rest list e all =
    let whole : from ++ (Happened x ∷ (map Happened added ++ rest)) ≡ list = sym (append_assoc from (Happened x ∷ map Happened added) rest) ∙ e in
    let more = events_at Q (from ++ Happened x ∷ []) added rest list (ap (λ l. l ++ rest) (append_assoc from (Happened x ∷ []) (map Happened added)) ∙ e) all.1 in
    let next : length (from ++ Happened x ∷ []) ≡ suc (length from) = (let a = length-append from (Happened x ∷ []) in omega (arith, a)) in (
      (x, all.0, subst (λ (l : List Entry). slice_get l (length from) ≡ Some (Happened x)) whole (get_here from (Happened x) (map Happened added ++ rest))),
      subst (λ (n : ℕ). AllByRecursion (IsEventAt Q list) (places n (length added))) next more,
    )

-- what a holding left begins what is seen behind all
reach : (Q : Event → Type 0) (m : List Entry) (xs : List (Holding (List Entry))) (list : List Entry) → Follow IsPrefix m xs list → AllByRecursion (Adds Q) xs → IsPrefix m list
reach Q m [] list f all = f
reach Q m (x ∷ xs) list f all =
    prefix_on m x.from list f.0 (prefix_on x.from x.to list (map Happened all.0.0, sym all.0.1) (reach Q x.to xs list f.1 all.1))

-- at each place of what holdings added stands an event of their sort
pub holdings_at : (Q : Event → Type 0) (h : List Entry) (xs : List (Holding (List Entry))) (list : List Entry) → Follow IsPrefix h xs list → AllByRecursion (Adds Q) xs
    → AllByRecursion (IsEventAt Q list) (places_of length xs)
holdings_at Q h [] list f all = tt
holdings_at Q h (x ∷ xs) list f all =
    let r = reach Q x.to xs list f.1 all.1 in
    let count : length all.0.0 ≡ length x.to - length x.from = (let a = ap length all.0.1 in let b = length-append x.from (map Happened all.0.0) in let c = length-map all.0.0 Happened in
    omega (arith, a, b, c)) in
    all_on (IsEventAt Q list) (places (length x.from) (length x.to - length x.from)) (places_of length xs)
    (subst (λ (n : ℕ). AllByRecursion (IsEventAt Q list) (places (length x.from) n)) count (events_at Q x.from all.0.0 r.0 list (ap (λ l. l ++ r.0) (sym all.0.1) ∙ r.1) all.0.2))
    (holdings_at Q x.to xs list f.1 all.1)

-- where the ending stands no event does
pub times_of_events : (Q : Event → Type 0) (list : List Entry) (place : ℕ) (ps : List ℕ) → slice_get list place ≡ Some Ending → AllByRecursion (IsEventAt Q list) ps
    → times place ps ≡ 0
times_of_events Q list place [] at all = refl
times_of_events Q list place (p ∷ ps) at all =
    let ne : p ≢ place = λ e. (let k : Some (Happened all.0.0) ≡ Some Ending = sym all.0.2 ∙ (ap (λ (q : ℕ). slice_get list q) e ∙ at) in absurd (cc)) in
    let more = times_of_events Q list place ps at all.1 in
    grind (arith, ne, more)

pub times_of_all : (Q : Event → Type 0) (list : List Entry) (place : ℕ) (lists : List (List ℕ)) → slice_get list place ≡ Some Ending
    → AllByRecursion (λ ps. AllByRecursion (IsEventAt Q list) ps) lists → times place (concat lists) ≡ 0
times_of_all Q list place [] at all = refl
times_of_all Q list place (ps ∷ lists) at all =
    let a = times-append place ps (concat lists) in let b = times_of_events Q list place ps at all.0 in let c = times_of_all Q list place lists at all.1 in
    omega (arith, a, b, c)

-- a place behind all of a list
pub times_behind : (end place : ℕ) (ps : List ℕ) → end ≤ place → AllByRecursion (λ p. p < end) ps → times place ps ≡ 0
times_behind end place [] le all = refl
times_behind end place (p ∷ ps) le all =
    let lt = all.0 in let more = times_behind end place ps le all.1 in
    let ne : p ≢ place = λ e. absurd (omega (arith, e, lt, le)) in
    grind (arith, ne, more)

-- where the ending stands
pub ending_at : (xs : List Entry) → has_ended xs ≡ true → slice_get xs (length (before_ending xs)) ≡ Some Ending
ending_at [] h = absurd (cc)
ending_at (Happened e ∷ xs) h = ending_at xs h
ending_at (Ending ∷ xs) h = refl

pub ended_on : (xs ys : List Entry) → has_ended xs ≡ true → has_ended (xs ++ ys) ≡ true
ended_on [] ys h = absurd (cc)
ended_on (Happened e ∷ xs) ys h = ended_on xs ys h
ended_on (Ending ∷ xs) ys h = refl

pub ended_within : (xs ys : List Entry) → has_ended xs ≡ true → length (before_ending (xs ++ ys)) < length xs
ended_within [] ys h = absurd (cc)
ended_within (Happened e ∷ xs) ys h = (let a = ended_within xs ys h in omega (arith, a))
ended_within (Ending ∷ xs) ys h = omega arith

pub open_on : (xs ys : List Entry) → has_ended xs ≡ false → has_ended (xs ++ ys) ≡ has_ended ys
open_on [] ys h = refl
open_on (Happened e ∷ xs) ys h = open_on xs ys h
open_on (Ending ∷ xs) ys h = absurd (cc)

pub open_before : (xs ys : List Entry) → has_ended xs ≡ false → before_ending (xs ++ ys) ≡ xs ++ before_ending ys
open_before [] ys h = refl
open_before (Happened e ∷ xs) ys h = ap (λ l. Happened e ∷ l) (open_before xs ys h)
open_before (Ending ∷ xs) ys h = absurd (cc)
