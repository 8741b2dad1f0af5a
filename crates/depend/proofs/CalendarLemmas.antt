-- Days in order: those that a test keeps, and how many they are.
use Rattle.std.specs.Prelude.{◌≡◌, ◌≤◌, ◌+◌, ℕ, zero, suc, Bool, true, false, cond, ◌&&◌, List, [], ◌∷◌, filter, length, All, AllPairs, ◌⊎◌, ℤ, pos, negsuc, ◌+ℤ◌, ◌-ℤ◌, ◌<ℤ◌, ◌≤ℤ◌, int_lt}
use Rattle.std.proofs.Common.{arith, refl, ap, sym, subst, ◌∙◌, inl, inr}
use Rattle.std.proofs.lemmas.Int.{ints, by_lt_z}
use Rattle.std.proofs.lemmas.List.Elements.{All-nil, All-cons}
use Rattle.std.proofs.lemmas.List.Kept.{AllPairs-cons, AllPairs-filter}
use Rattle.fixed_units.specs.Quantities.{IsDay, first_day}
use Rattle.fixed_units.specs.Calendar.{days_from, days_of_calendar, calendar}
use Rattle.fixed_units.proofs.CalendarLemmas.{IsAmong, among_rest, among_first, is_day, length_from, left_step, kept_same, filter_days_all, fewer_in_calendar}
use Rattle.depend.specs.Compared.{count_of, days_within}

-- counts
pub counted : (z : ℤ) → pos 0 ≤ℤ z → pos (count_of z) ≡ z
counted (pos n) h = refl
counted (negsuc n) h = absurd (omega (arith, ints))

pub uncounted : (z : ℤ) → z ≤ℤ pos 0 → count_of z ≡ 0
uncounted (pos n) h = omega (arith, ints)
uncounted (negsuc n) h = refl

count_next : (y z : ℤ) → y ≡ z +ℤ pos 1 → pos 0 ≤ℤ z → count_of y ≡ suc (count_of z)
count_next y z e h =
    let a = counted z h in
    let b = counted y (omega (arith, ints)) in
    omega (arith, ints)

-- the days of a span are its first and the others, where it has any
pub within_cons : (first last : ℤ) → first ≤ℤ last → days_within first last ≡ first ∷ days_within (first +ℤ pos 1) last
unfolding days_from
within_cons first last h =
    ap (days_from first) (count_next (last +ℤ pos 1 -ℤ first) (last +ℤ pos 1 -ℤ (first +ℤ pos 1)) (omega (arith, ints)) (omega (arith, ints)))

pub within_none : (first last : ℤ) → last <ℤ first → days_within first last ≡ []
unfolding days_from
within_none first last h = ap (days_from first) (uncounted (last +ℤ pos 1 -ℤ first) (omega (arith, ints)))

pub length_within : (first last : ℤ) → length (days_within first last) ≡ count_of (last +ℤ pos 1 -ℤ first)
length_within first last = length_from first (count_of (last +ℤ pos 1 -ℤ first))

not_true : (b : Bool) → (b ≡ true → ⊥) → b ≡ false
not_true true h = absurd (h refl)
not_true false h = refl

-- where all that pass lie in a span, the days of the span alone need be asked
abbrev AllIn : (ℤ → Bool) → ℤ → ℕ → ℤ → ℤ → Type 0
AllIn p day n first last = (d : ℤ) → IsAmong day n d → p d ≡ true → (first ≤ℤ d) × (d ≤ℤ last)

span_now : (p : ℤ → Bool) (first last : ℤ) (ps : List ℤ) → first ≤ℤ last → ps ≡ filter p (days_within (first +ℤ pos 1) last)
    → cond (p first) (first ∷ ps) ps ≡ filter p (days_within first last)
span_now p first last ps l f =
    kept_same p p first ps (filter p (days_within (first +ℤ pos 1) last)) refl f ∙ ap (filter p) (sym (within_cons first last l))

span_past : (p : ℤ → Bool) (first last : ℤ) (ps : List ℤ) → last <ℤ first → p first ≡ false → ps ≡ filter p (days_within (first +ℤ pos 1) last)
    → cond (p first) (first ∷ ps) ps ≡ filter p (days_within first last)
span_past p first last ps l e f =
    left_step (p first) first ps (filter p (days_within (first +ℤ pos 1) last)) e f
    ∙ ap (filter p) (within_none (first +ℤ pos 1) last (omega (arith, ints)) ∙ sym (within_none first last l))

pub filter_span : (p : ℤ → Bool) (day : ℤ) (n : ℕ) (first last : ℤ) → day ≤ℤ first → last <ℤ (day +ℤ pos n) → AllIn p day n first last
    → filter p (days_from day n) ≡ filter p (days_within first last)
unfolding days_from
filter_span p day zero first last a b h = ap (filter p) (sym (within_none first last (omega (arith, ints))))
filter_span p day (suc n) first last a b h =
    by_lt_z day first
    (λ l. left_step (p day) day (filter p (days_from (day +ℤ pos 1) n)) (filter p (days_within first last))
    (not_true (p day) (λ t. let k = (h day (among_first day n) t).0 in absurd (omega (arith, ints))))
    (filter_span p (day +ℤ pos 1) n first last (omega (arith, ints)) (omega (arith, ints)) (λ d k. h d (among_rest day n d k))))
    (λ m.
    let e : day ≡ first = omega (arith, ints) in
    let rest : filter p (days_from (day +ℤ pos 1) n) ≡ filter p (days_within (day +ℤ pos 1) last) =
    filter_span p (day +ℤ pos 1) n (day +ℤ pos 1) last (omega (arith, ints)) (omega (arith, ints))
    (λ d k t. (k.low, (h d (among_rest day n d k) t).1)) in
    subst (λ (x : ℤ). cond (p day) (day ∷ filter p (days_from (day +ℤ pos 1) n)) (filter p (days_from (day +ℤ pos 1) n)) ≡ filter p (days_within x last)) e
    (by_lt_z last day
    (λ l. span_past p day last (filter p (days_from (day +ℤ pos 1) n)) l
    (not_true (p day) (λ t. let k = h day (among_first day n) t in let low = k.0 in let high = k.1 in absurd (omega (arith, ints)))) rest)
    (λ l. span_now p day last (filter p (days_from (day +ℤ pos 1) n)) l rest)))

-- the same of the calendar
pub calendar_span : (p : ℤ → Bool) (first last : ℤ) → IsDay first → IsDay last
    → ((d : ℤ) → IsDay d → p d ≡ true → (first ≤ℤ d) × (d ≤ℤ last)) → filter p calendar ≡ filter p (days_within first last)
unfolding calendar
calendar_span p first last f l h =
    let a = f.low in
    let b = l.high in
    filter_span p first_day days_of_calendar first last (omega (arith, ints)) (omega (arith, ints)) (λ d k. h d (is_day d k))

-- the days between two ends, tested
between : ℤ → ℤ → ℤ → Bool
between first last day = int_lt first day && int_lt day last

between_yes : (first last day : ℤ) → first <ℤ day → day <ℤ last → between first last day ≡ true
unfolding between
between_yes first last day a b = grind (arith, ints)

between_is : (first last day : ℤ) → between first last day ≡ true → (first <ℤ day) × (day <ℤ last)
unfolding between
between_is first last day h = (grind (arith, ints), grind (arith, ints))

inner_in_calendar : (first last : ℤ) → IsDay first → IsDay last → filter (between first last) calendar ≡ filter (between first last) (days_within (first +ℤ pos 1) (last -ℤ pos 1))
unfolding calendar
inner_in_calendar first last f l =
    let a = f.low in
    let b = l.high in
    filter_span (between first last) first_day days_of_calendar (first +ℤ pos 1) (last -ℤ pos 1) (omega (arith, ints)) (omega (arith, ints))
    (λ d k t. let e = between_is first last d t in let x = e.0 in let y = e.1 in (omega (arith, ints), omega (arith, ints)))

inner_all : (first last : ℤ) (n : ℕ) → pos n ≤ℤ (last -ℤ first -ℤ pos 1) ⊎ (n ≡ 0)
    → filter (between first last) (days_from (first +ℤ pos 1) n) ≡ days_from (first +ℤ pos 1) n
inner_all first last n (inl h) =
    filter_days_all (between first last) (first +ℤ pos 1) n
    (λ d k. let a = k.low in let b = k.high in between_yes first last d (omega (arith, ints)) (omega (arith, ints)))
inner_all first last n (inr h) =
    filter_days_all (between first last) (first +ℤ pos 1) n
    (λ d k. let a = k.low in let b = k.high in absurd (omega (arith, ints)))

count_small : (z : ℤ) → (pos (count_of z) ≤ℤ z) ⊎ (count_of z ≡ 0)
count_small z = by_lt_z z (pos 0) (λ l. inr (uncounted z (omega (arith, ints)))) (λ l. inl (let e = counted z l in omega (arith, ints)))

count_two : (y z : ℤ) → y ≡ z +ℤ pos 2 → count_of y ≤ count_of z + 2
count_two y z e =
    by_lt_z y (pos 0)
    (λ l. let a = uncounted y (omega (arith, ints)) in omega arith)
    (λ l. let a = counted y l in
    by_lt_z z (pos 0)
    (λ m. let b = uncounted z (omega (arith, ints)) in omega (arith, ints))
    (λ m. let b = counted z m in omega (arith, ints)))

-- a span has at most two days more than pass a test that holds on all days between its ends
pub span_length : (q : ℤ → Bool) (first last : ℤ) → IsDay first → IsDay last
    → ((d : ℤ) → IsDay d → first <ℤ d → d <ℤ last → q d ≡ true) → length (days_within first last) ≤ length (filter q calendar) + 2
span_length q first last f l h =
    let z = last -ℤ pos 1 +ℤ pos 1 -ℤ (first +ℤ pos 1) in
    let inner = inner_in_calendar first last f l
    ∙ inner_all first last (count_of z) (elim (count_small z) [
      | inl a ↦ inl (omega (arith, ints))
      | inr a ↦ inr a
    ]) in
    let n : length (filter (between first last) calendar) ≡ count_of z = ap length inner ∙ length_from (first +ℤ pos 1) (count_of z) in
    let fewer = fewer_in_calendar (between first last) q (λ d k t. let e = between_is first last d t in h d k e.0 e.1) in
    let wide = length_within first last in
    let two = count_two (last +ℤ pos 1 -ℤ first) z (omega (arith, ints)) in
    omega arith

-- days in order rise, and so do those of the calendar that pass a test
all_later : (low day : ℤ) (n : ℕ) → low <ℤ day → All (λ (d : ℤ). low <ℤ d) (days_from day n)
unfolding days_from
all_later low day zero h = All-nil (λ (d : ℤ). low <ℤ d)
all_later low day (suc n) h =
    All-cons (λ (d : ℤ). low <ℤ d) day (days_from (day +ℤ pos 1) n) h (all_later low (day +ℤ pos 1) n (omega (arith, ints)))

days_rise : (day : ℤ) (n : ℕ) → AllPairs (λ (a b : ℤ). a <ℤ b) (days_from day n)
unfolding days_from
days_rise day zero = λ i j d u v. absurd (omega arith)
days_rise day (suc n) =
    AllPairs-cons (λ (a b : ℤ). a <ℤ b) day (days_from (day +ℤ pos 1) n) (all_later day (day +ℤ pos 1) n (omega (arith, ints))) (days_rise (day +ℤ pos 1) n)

pub calendar_rises : (p : ℤ → Bool) → AllPairs (λ (a b : ℤ). a <ℤ b) (filter p calendar)
unfolding calendar
calendar_rises p = AllPairs-filter (λ (a b : ℤ). a <ℤ b) p (days_from first_day days_of_calendar) (days_rise first_day days_of_calendar)
