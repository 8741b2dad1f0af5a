-- As many days of the calendar are approved as are approved among the standings that are kept.
use Rattle.std.specs.Prelude.{◌≡◌, ℕ, zero, suc, ◌+◌, ◌≤◌, Bool, true, false, cond, ◌&&◌, List, [], ◌∷◌, length, count_by, Option, None, ℤ, int_le, ◌<ℤ◌, pos, ◌+ℤ◌}
use Rattle.std.specs.Ordering.{int_eq}
use Rattle.std.proofs.Common.{arith, refl, ap, sym, ◌∙◌}
use Rattle.std.proofs.lemmas.Bool.Decides.{Decides-int_eq}
use Rattle.std.proofs.lemmas.Int.{ints, by_lt_z}
use Rattle.std.proofs.lemmas.List.Sums.{count_by-le-length, sum_by-cons}
use Rattle.fixed_units.specs.Calendar.{calendar, days_from, days_of_calendar}
use Rattle.fixed_units.specs.Quantities.{IsDay, first_day, is_day, last_day}
use Rattle.fixed_units.proofs.CalendarLemmas as days
use Rattle.fixed_units.proofs.CalendarLemmas.{IsAmong, among_first, among_rest, is_among}
use Rattle.rising.specs.Lists.{IsRising, at}
use Rattle.rising.proofs.Parting.{le_yes, yes_le}
use Rattle.rising.proofs.Placing.{none_stands, some_stands}
use Rattle.rising.proofs.Selecting.{AllPairs-head, AllPairs-tail}
use Rattle.approval.specs.Kept.{day_place, standing_at, standing_of}
use Rattle.approval.specs.Statuses.{approved_days, is_approved}
use Rattle.approval.specs.declared.days.DayStanding.{DayStanding}
use Rattle.approval.specs.declared.status.Status.{Status}

-- what a test counts for
one_if : Bool → ℕ
one_if b = cond b 1 0

none_if_false : (b : Bool) → b ≡ false → one_if b ≡ 0
unfolding one_if
none_if_false b e = rw e refl

module _ {X : Type 0} (p : X → Bool) where
  count_cons : (x : X) (xs : List X) → count_by p (x ∷ xs) ≡ one_if (p x) + count_by p xs
  unfolding one_if
  count_cons x xs = sum_by-cons (λ y. cond (p y) 1 0) x xs

step : (p : ℤ → Bool) (day : ℤ) (n : ℕ) → count_by p (days_from day (suc n)) ≡ one_if (p day) + count_by p (days_from (day +ℤ pos 1) n)
unfolding days_from
step p day n = count_cons p day (days_from (day +ℤ pos 1) n)

pub day_yes : (day : ℤ) → IsDay day → is_day day ≡ true
day_yes day h = let a = le_yes first_day day h.low in let b = le_yes day last_day h.high in rw (a, b) refl

both : (a b : Bool) → (a && b) ≡ true → (a ≡ true) × (b ≡ true)
both true b h = (refl, h)
both false b h = absurd (cc)

yes_day : (day : ℤ) → is_day day ≡ true → IsDay day
yes_day day h =
    let ends = both (int_le first_day day) (int_le day last_day) h in
    record { low = yes_le first_day day ends.0; high = yes_le day last_day ends.1 }

-- a test that differs from another on one day alone, on which the other does not hold
module _ (p q : ℤ → Bool) (own : ℤ) (none : p own ≡ false) (other : (d : ℤ) → (d ≡ own → ⊥) → q d ≡ p d) where
  same_step : (day : ℤ) (n : ℕ) → (day ≡ own → ⊥) → (k : ℕ) → count_by q (days_from (day +ℤ pos 1) n) ≡ count_by p (days_from (day +ℤ pos 1) n) + k
      → count_by q (days_from day (suc n)) ≡ count_by p (days_from day (suc n)) + k
  same_step day n h k rest =
      let a = step q day n in
      let b = step p day n in
      let c : one_if (q day) ≡ one_if (p day) = ap one_if (other day h) in
      omega (arith, a, b, c, rest)

  elsewhere : (day : ℤ) (n : ℕ) → (IsAmong day n own → ⊥) → count_by q (days_from day n) ≡ count_by p (days_from day n) + 0
  unfolding days_from
  elsewhere day zero h = refl
  elsewhere day (suc n) h =
      same_step day n (λ e. h (record { low = omega (arith, ints, e); high = omega (arith, ints, e) })) 0
      (elsewhere (day +ℤ pos 1) n (λ w. h (among_rest day n own w)))

  among : (day : ℤ) (n : ℕ) → IsAmong day n own → count_by q (days_from day n) ≡ count_by p (days_from day n) + one_if (q own)
  unfolding days_from
  among day zero w = absurd (let a = w.low in let b = w.high in omega (arith, ints))
  among day (suc n) w =
      let low = w.low in
      let high = w.high in
      by_lt_z day own
      (λ l. same_step day n (λ e. omega (arith, ints, l, e)) (one_if (q own))
      (among (day +ℤ pos 1) n (record { low = omega (arith, ints, l); high = omega (arith, ints) })))
      (λ m.
      let e : day ≡ own = omega (arith, ints, m, low) in
      let a = step q day n in
      let b = step p day n in
      let c : one_if (q day) ≡ one_if (q own) = ap (λ (d : ℤ). one_if (q d)) e in
      let d : one_if (p day) ≡ 0 = ap (λ (d : ℤ). one_if (p d)) e ∙ none_if_false (p own) none in
      let rest = elsewhere (day +ℤ pos 1) n (λ v. let first = v.low in omega (arith, ints, first, m)) in
      omega (arith, a, b, c, d, rest))

  in_calendar : (b : Bool) → is_day own ≡ b → count_by q calendar ≡ count_by p calendar + one_if (b && q own)
  unfolding calendar one_if
  in_calendar true e = among first_day days_of_calendar (is_among own (yes_day own e))
  in_calendar false e = elsewhere first_day days_of_calendar (λ w. let h = day_yes own (days.is_day own w) in cc)

-- and so with each standing that is kept
none_earlier : (x : DayStanding) (xs : List DayStanding) → IsRising day_place (x ∷ xs) → at day_place x.day xs ≡ None
none_earlier x xs h = none_stands day_place x.day xs (AllPairs-head (λ a b. day_place a <ℤ day_place b) x xs h)

none_later : (p : ℤ → Bool) → ((d : ℤ) → p d ≡ false) → (day : ℤ) (n : ℕ) → count_by p (days_from day n) ≡ 0
unfolding days_from
none_later p h day zero = refl
none_later p h day (suc n) =
    let a = step p day n in
    let b = none_if_false (p day) (h day) in
    let rest = none_later p h (day +ℤ pos 1) n in
    omega (arith, a, b, rest)

none_at_all : (p : ℤ → Bool) → ((d : ℤ) → p d ≡ false) → count_by p calendar ≡ 0
unfolding calendar
none_at_all p h = none_later p h first_day days_of_calendar

is_approved_at : List DayStanding → ℤ → Bool
is_approved_at xs day = is_approved (standing_at xs day).status

first_stands : (x : DayStanding) (xs : List DayStanding) → is_approved_at (x ∷ xs) x.day ≡ is_approved x.status
unfolding is_approved_at
first_stands x xs = ap (λ (o : Option DayStanding). is_approved (standing_of o).status) (some_stands day_place x.day x xs refl)

none_stood : (x : DayStanding) (xs : List DayStanding) → IsRising day_place (x ∷ xs) → is_approved_at xs x.day ≡ false
unfolding is_approved_at
none_stood x xs h = ap (λ (o : Option DayStanding). is_approved (standing_of o).status) (none_earlier x xs h)

not_equal : (x y : ℤ) (b : Bool) → int_eq x y ≡ b → (x ≡ y → ⊥) → int_eq x y ≡ false
not_equal x y true h k = absurd (k ((Decides-int_eq x y).0 h))
not_equal x y false h k = h

others_stand : (x : DayStanding) (xs : List DayStanding) (d : ℤ) → (d ≡ x.day → ⊥) → is_approved_at (x ∷ xs) d ≡ is_approved_at xs d
unfolding is_approved_at
others_stand x xs d k = let e : int_eq x.day d ≡ false = not_equal x.day d (int_eq x.day d) refl (λ s. k (sym s)) in rw e refl

is_counted : DayStanding → Bool
is_counted s = is_day s.day && is_approved s.status

none_kept : (d : ℤ) → is_approved_at [] d ≡ false
unfolding is_approved_at
none_kept d = refl

first_counts : (x : DayStanding) (xs : List DayStanding) → one_if (is_day x.day && is_approved_at (x ∷ xs) x.day) ≡ one_if (is_counted x)
unfolding is_counted
first_counts x xs = ap (λ (b : Bool). one_if (is_day x.day && b)) (first_stands x xs)

counts : (xs : List DayStanding) → IsRising day_place xs → count_by is_counted xs ≡ count_by (is_approved_at xs) calendar
counts [] h = sym (none_at_all (is_approved_at []) none_kept)
counts (x ∷ xs) h =
    let rest = counts xs (AllPairs-tail (λ a b. day_place a <ℤ day_place b) x xs h) in
    let a = count_cons is_counted x xs in
    let b = in_calendar (is_approved_at xs) (is_approved_at (x ∷ xs)) x.day (none_stood x xs h) (others_stand x xs) (is_day x.day) refl in
    let c = first_counts x xs in
    omega (arith, a, b, c, rest)

pub counted : (xs : List DayStanding) → IsRising day_place xs
    → count_by (λ s. is_day s.day && is_approved s.status) xs ≡ approved_days (λ day. (standing_at xs day).status)
unfolding is_approved_at is_counted
counted xs h = counts xs h

-- they are no more than the calendar has
pub approved_few : (at : ℤ → Status) → approved_days at ≤ days_of_calendar
unfolding calendar
approved_few at =
    let few = count_by-le-length (λ day. is_approved (at day)) calendar in
    let all : length calendar ≡ days_of_calendar = days.length_from first_day days_of_calendar in
    omega (arith, few, all)
