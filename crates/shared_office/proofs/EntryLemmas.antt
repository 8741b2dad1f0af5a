-- The list of a shared office goes on with its history.
use Rattle.std.specs.Prelude.{◌≡◌, ℕ, zero, suc, ◌+◌, ◌≤◌, List, [], ◌∷◌, ◌++◌, length, map, take, drop, Option, Some, None}
use Rattle.std.specs.Option.{ForSome}
use Rattle.std.proofs.Common.{arith, refl, ap, sym, ◌∙◌, append_assoc, length-append}
use Rattle.std.proofs.lemmas.List.{length-map}
use Rattle.history.specs.After.{go_on}
use Rattle.history.specs.Events.{Event, History}
use Rattle.shared_office.specs.Entries.{GoOn, entries, with_events}
use Rattle.shared_office.specs.declared.entries.Entry.TheVariants.{Happened, Ending}

mapped_on : (xs ys : List Event) → map Happened (xs ++ ys) ≡ map Happened xs ++ map Happened ys
mapped_on [] ys = refl
mapped_on (x ∷ xs) ys = ap (λ zs. Happened x ∷ zs) (mapped_on xs ys)

taken_on : (n : ℕ) (xs ys : List Event) → n ≤ length xs → take n (xs ++ ys) ≡ take n xs
taken_on zero xs ys few = refl
taken_on (suc n) [] ys few = absurd (omega (arith, few))
taken_on (suc n) (x ∷ xs) ys few = ap (λ zs. x ∷ zs) (taken_on n xs ys (omega (arith, few)))

dropped_on : (n : ℕ) (xs ys : List Event) → n ≤ length xs → drop n (xs ++ ys) ≡ drop n xs ++ ys
dropped_on zero xs ys few = refl
dropped_on (suc n) [] ys few = absurd (omega (arith, few))
dropped_on (suc n) (x ∷ xs) ys few = dropped_on n xs ys (omega (arith, few))

-- the list has the added events behind it, wherever the ending stands
pub entries_on : (ending : Option ℕ) (events added : List Event) → ForSome ending (λ n. n ≤ length events)
    → entries (events ++ added) ending ≡ with_events (entries events ending) added
entries_on None events added few = mapped_on events added
entries_on (Some n) events added few =
    rw (taken_on n events added (few n refl), dropped_on n events added (few n refl), mapped_on (drop n events) added)
    (sym (append_assoc (map Happened (take n events)) (Ending ∷ map Happened (drop n events)) (map Happened added)))

pub go_on_by : (old : History) (ending : Option ℕ) (new : History) (ended : Option ℕ) (added : List Event) → ForSome ending (λ n. n ≤ length old.events)
    → new ≡ go_on old added → ended ≡ ending → GoOn old ending new ended added
go_on_by old ending new ended added few is same =
    (is, same, ap (λ (h : History). entries h.events ended) is ∙ ap (λ (e : Option ℕ). entries (old.events ++ added) e) same ∙ entries_on ending old.events added few)

taken_counted : (n : ℕ) (es : List Event) → n ≤ length es → length (map Happened (take n es)) + length (map Happened (drop n es)) ≡ length es
taken_counted zero es few = let a = length-map es Happened in omega (arith, a)
taken_counted (suc n) [] few = absurd (omega (arith, few))
taken_counted (suc n) (e ∷ es) few = let a = taken_counted n es (omega (arith, few)) in omega (arith, a)

-- how many entries there are
pub counted_entries : (events : List Event) → length (entries events None) ≡ length events
counted_entries events = length-map events Happened

pub counted_with_ending : (events : List Event) (n : ℕ) → n ≤ length events → length (entries events (Some n)) ≡ length events + 1
counted_with_ending events n few =
    let a = length-append (map Happened (take n events)) (Ending ∷ map Happened (drop n events)) in
    let b = taken_counted n events few in
    omega (arith, a, b)

whole_taken : (es : List Event) → take (length es) es ≡ es
whole_taken [] = refl
whole_taken (e ∷ es) = ap (λ zs. e ∷ zs) (whole_taken es)

none_dropped : (es : List Event) → drop (length es) es ≡ []
none_dropped [] = refl
none_dropped (e ∷ es) = none_dropped es

-- the ending behind all that has happened
pub ended_behind : (events : List Event) → entries events (Some (length events)) ≡ entries events None ++ Ending ∷ []
ended_behind events = rw (whole_taken events, none_dropped events) refl
