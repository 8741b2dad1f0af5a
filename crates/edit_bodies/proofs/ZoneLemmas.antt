-- The test of zones tells whether a text is one.
use Rattle.std.proofs.Common.{◌≡◌, ◌↔◌, ℕ, zero, suc, ◌<◌, Bool, true, List, Option, Some, None, is_some, ℤ, pos, negsuc, ◌+ℤ◌, ◌-ℤ◌, ◌≤ℤ◌, int_le, refl, sym, ap, ◌∙◌, subst, arith, ◌⊎◌, inl, inr}
use Rattle.std.proofs.lemmas.Bool.{and_parts, and_from, cases_eq}
use Rattle.std.proofs.lemmas.Int.{ints}
use Rattle.fixed_units.specs.Calendar.{shortest_day, longest_day, days_of_calendar}
use Rattle.civil_days.specs.Starts.{IsZone, zone_rule, day_start_of, start_on, start_by, IsDayLength, LastsWell}
use Rattle.edit_bodies.specs.Zones.{all_below, lasts_well, is_zone}
use Rattle.fixed_units.specs.Quantities.{IsDay, first_day, is_within}
use Rattle.jiff_tz.specs.PosixText.{TzText}

here_or_before : (test : ℕ → Bool) (n k : ℕ) → k < suc n → test n ≡ true → (k < n → test k ≡ true) → (k ≡ n) ⊎ (k ≡ n → ⊥) → test k ≡ true
here_or_before test n k h here before (inl same) = ap test same ∙ here
here_or_before test n k h here before (inr other) = before (omega (arith, h, other))

all_below-true : (test : ℕ → Bool) (n : ℕ) → all_below test n ≡ true → (k : ℕ) → k < n → test k ≡ true
unfolding all_below
all_below-true test zero e k h = absurd (omega (arith, h))
all_below-true test (suc n) e k h =
    let parts = and_parts (test n) (all_below test n) e in
    here_or_before test n k h parts.0 (all_below-true test n parts.1 k) (cases_eq k n)

all_below-from : (test : ℕ → Bool) (n : ℕ) → ((k : ℕ) → k < n → test k ≡ true) → all_below test n ≡ true
unfolding all_below
all_below-from test zero each = refl
all_below-from test (suc n) each = and_from _ _ (each n (omega arith)) (all_below-from test n (λ k h. each k (omega (arith, h))))

le_yes : (x y : ℤ) → x ≤ℤ y → int_le x y ≡ true
le_yes x y h = grind (arith, ints)

yes_le : (x y : ℤ) → int_le x y ≡ true → x ≤ℤ y
yes_le x y h = omega (arith, ints)

-- a day of the calendar, counted from the first one
counted : (n : ℤ) → pos 0 ≤ℤ n → (k : ℕ) × (pos k ≡ n)
counted (pos k) h = (k, refl)
counted (negsuc k) h = absurd (omega (arith, ints, h))

placed : (day : ℤ) → IsDay day → (k : ℕ) × ((k < days_of_calendar) × (first_day +ℤ pos k ≡ day))
placed day is =
    let k = counted (day -ℤ first_day) (omega (arith, ints, is.low)) in
    (k.0, (omega (arith, ints, k.1, is.high), omega (arith, ints, k.1)))

of_calendar : (k : ℕ) → k < days_of_calendar → IsDay (first_day +ℤ pos k)
of_calendar k h = record { low = omega (arith, ints); high = omega (arith, ints, h) }

length-told : (a b : ℤ) → is_within (pos shortest_day) (pos longest_day) (b -ℤ a) ≡ true ↔ IsDayLength a b
length-told a b = (
  λ e. let p = and_parts _ _ e in record { shortest = yes_le _ _ p.0; longest = yes_le _ _ p.1 },
  λ lasts. and_from _ _ (le_yes _ _ lasts.shortest) (le_yes _ _ lasts.longest),
)

starts : (text : List ℕ) (rule : TzText) (day : ℤ) → zone_rule text ≡ Some rule → day_start_of text day ≡ start_on rule day
unfolding day_start_of
starts text rule day e = ap (λ o. start_by o day) e

module _ (text : List ℕ) (rule : TzText) (read : zone_rule text ≡ Some rule) (day : ℤ) where
  by_rule : lasts_well text day ≡ true → LastsWell rule day
  by_rule e =
      subst (λ a. IsDayLength a (start_on rule (day +ℤ pos 1))) (starts text rule day read)
      (subst (λ b. IsDayLength (day_start_of text day) b) (starts text rule (day +ℤ pos 1) read) ((length-told _ _).0 e))

  by_text : LastsWell rule day → lasts_well text day ≡ true
  by_text well =
      (length-told _ _).1
      (subst (λ a. IsDayLength a (day_start_of text (day +ℤ pos 1))) (sym (starts text rule day read))
      (subst (λ b. IsDayLength (start_on rule day) b) (sym (starts text rule (day +ℤ pos 1) read)) well))

there : {A : Type 0} (o : Option A) → is_some o ≡ true → (x : A) × (o ≡ Some x)
there (Some x) e = (x, refl)
there None e = absurd cc

pub zone-told : (text : List ℕ) → is_zone text ≡ true ↔ IsZone text
unfolding is_zone
zone-told text = (to, from)
  where
    to : is_zone text ≡ true → IsZone text
    to e =
        let parts = and_parts _ _ e in
        let rule = there (zone_rule text) parts.0 in
        record {
          rule = rule.0;
          read = rule.1;
          days = λ day is.
              let k = placed day is in
              by_rule text rule.0 rule.1 day (subst (λ d. lasts_well text d ≡ true) k.1.1 (all_below-true _ _ parts.1 k.0 k.1.0));
        }

    from : IsZone text → is_zone text ≡ true
    from zone =
        and_from _ _ (ap is_some zone.read)
        (all_below-from _ days_of_calendar (λ k h. by_text text zone.rule zone.read (first_day +ℤ pos k) (zone.days _ (of_calendar k h))))
