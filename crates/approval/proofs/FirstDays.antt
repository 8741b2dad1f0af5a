-- The first day of a span that passes a test, as the days are walked.
use Rattle.std.specs.Prelude.{◌≡◌, ℕ, zero, suc, Bool, true, false, ◌&&◌, List, [], ◌∷◌, find, Some, None, ℤ, pos, ◌+ℤ◌, ◌<ℤ◌, ◌≤ℤ◌}
use Rattle.std.proofs.Common.{arith, refl, ap, sym, ◌∙◌}
use Rattle.std.proofs.lemmas.Int.{ints, by_lt_z}
use Rattle.fixed_units.specs.Calendar.{calendar, days_from, days_of_calendar}
use Rattle.fixed_units.specs.Quantities.{IsDay, first_day}
use Rattle.fixed_units.proofs.CalendarLemmas.{IsAmong, is_among}
use Rattle.rising.proofs.Parting.{le_no, le_yes}
use Rattle.approval.specs.Statuses.{first_day_of, spans}

find_same : (p q : ℤ → Bool) → ((d : ℤ) → p d ≡ q d) → (days : List ℤ) → find p days ≡ find q days
find_same p q h [] = refl
find_same p q h (d ∷ days) = let e = h d in let f = find_same p q h days in rw (e, f) refl

find_none : (p : ℤ → Bool) → ((d : ℤ) → p d ≡ false) → (days : List ℤ) → find p days ≡ None
find_none p h [] = refl
find_none p h (d ∷ days) = let e = h d in rw e (find_none p h days)

find_days : (p : ℤ → Bool) (day : ℤ) (n : ℕ) (d : ℤ) → IsAmong day n d → p d ≡ true → ((e : ℤ) → e <ℤ d → p e ≡ false) → find p (days_from day n) ≡ Some d
unfolding days_from
find_days p day zero d w h k = absurd (let a = w.low in let b = w.high in omega (arith, ints))
find_days p day (suc n) d w h k =
    by_lt_z day d
    (λ l. let e = k day l in rw e (find_days p (day +ℤ pos 1) n d (record { low = omega (arith, ints); high = let b = w.high in omega (arith, ints) }) h k))
    (λ m. let e : d ≡ day = (let a = w.low in omega (arith, ints)) in let f : p day ≡ true = ap p (sym e) ∙ h in rw f (ap Some (sym e)))

-- the first day does not pass
skip_step : (first to d : ℤ) (b : Bool) → (b ≡ true → d ≡ first → ⊥) → (spans first to d && b) ≡ (spans (first +ℤ pos 1) to d && b)
skip_step first to d false h = grind (arith, ints)
skip_step first to d true h =
    by_lt_z first d
    (λ l. let e = le_yes first d (omega (arith, ints, l)) in let f = le_yes (first +ℤ pos 1) d (omega (arith, ints, l)) in rw (e, f) refl)
    (λ m. by_lt_z d first
    (λ l. let e = le_no first d l in let f = le_no (first +ℤ pos 1) d (omega (arith, ints, l)) in rw (e, f) refl)
    (λ l. absurd (h refl (omega (arith, ints, l, m)))))

pub first_skipped : (test : ℤ → Bool) (first next to : ℤ) → next ≡ first +ℤ pos 1 → test first ≡ false → first_day_of test first to ≡ first_day_of test next to
first_skipped test first next to e f =
    find_same (λ d. spans first to d && test d) (λ d. spans (first +ℤ pos 1) to d && test d)
    (λ d. skip_step first to d (test d) (λ t s. let g : test d ≡ false = ap test s ∙ f in absurd (cc))) calendar
    ∙ ap (λ (day : ℤ). first_day_of test day to) (sym e)

-- it passes
passes : (test : ℤ → Bool) (first to : ℤ) → first ≤ℤ to → test first ≡ true → (spans first to first && test first) ≡ true
passes test first to o e = let a = le_yes first first (omega (arith, ints)) in let b = le_yes first to o in rw (a, b, e) refl

pub first_passes : (test : ℤ → Bool) (first to : ℤ) → IsDay first → first ≤ℤ to → test first ≡ true → first_day_of test first to ≡ Some first
unfolding calendar
first_passes test first to h o e =
    find_days (λ d. spans first to d && test d) first_day days_of_calendar first (is_among first h) (passes test first to o e)
    (λ d l. let f = le_no first d l in rw f refl)

-- there is none left
out : (first to d : ℤ) (b : Bool) → to <ℤ first → (spans first to d && b) ≡ false
out first to d b o =
    by_lt_z d first (λ l. let f = le_no first d l in rw f refl)
    (λ m. let e = le_yes first d m in let f = le_no d to (omega (arith, ints, o, m)) in rw (e, f) refl)

pub none_left : (test : ℤ → Bool) (first to : ℤ) → to <ℤ first → first_day_of test first to ≡ None
none_left test first to o = find_none (λ d. spans first to d && test d) (λ d. out first to d (test d) o) calendar
