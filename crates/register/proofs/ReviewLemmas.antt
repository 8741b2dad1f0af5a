-- The days of a review, gone over one after another, and the sheets of an approval.
use Rattle.std.specs.Prelude.{◌≡◌, ℕ, Bool, true, false, ◌&&◌, List, [], ◌∷◌, ◌++◌, length, map, filter, All, Option, Some, None, is_some, option_map, ℤ, pos, ◌+ℤ◌, ◌-ℤ◌, ◌≤ℤ◌, ◌<ℤ◌}
use Rattle.std.proofs.Common.{arith, refl, ap, sym, subst, ◌∙◌, append_assoc}
use Rattle.std.proofs.lemmas.Int.{ints}
use Rattle.std.proofs.lemmas.List.{append-nil, length-map}
use Rattle.std.proofs.lemmas.List.Elements.{All-append, All-cons, All-nil}
use Rattle.approval.specs.Statuses.{first_day_of, spans}
use Rattle.approval.proofs.FirstDays.{first_passes, first_skipped, none_left}
use Rattle.depend.specs.Compared.{count_of, days_within}
use Rattle.depend.proofs.CalendarLemmas.{calendar_span, counted, within_cons, within_none}
use Rattle.fixed_units.specs.Calendar.{calendar}
use Rattle.fixed_units.specs.Quantities.{IsDay, SiteNumber}
use Rattle.fixed_units.proofs.CalendarLemmas.{filter_days_all, length_from}
use Rattle.daily_values.specs.declared.day_values.DayValue.{DayValue}
use Rattle.day_cells.specs.KeptDays.{KeptDays}
use Rattle.history.specs.Awaited.{awaited, is_pending, value_at}
use Rattle.history.specs.Events.{Event}
use Rattle.history.specs.Verdicts.{awaits_by}
use Rattle.history.proofs.ApprovalLemmas.{spans_is, spans_yes}
use Rattle.history.proofs.ApprovedLemmas.{none_passes}
use Rattle.history.proofs.StationLemmas.{found_passes}
use Rattle.office_inputs.specs.declared.refusals.Refusal.TheVariants.{Awaits}
use Rattle.recompute.specs.Cells.{awaited_in, value_in}
use Rattle.records.specs.Sheets.{AreSheetsOfDays, IsSheet}
use Rattle.register.specs.Keeping.{Tells}
use Rattle.register.specs.Registered.{Registered}

-- the days of a span stand one after another
pub days_spanned : (from to : ℤ) → IsDay from → IsDay to → from ≤ℤ to → filter (spans from to) calendar ≡ days_within from to
days_spanned from to f l o =
    calendar_span (spans from to) from to f l (λ d k t. spans_is from to d t)
    ∙ filter_days_all (spans from to) from (count_of (to +ℤ pos 1 -ℤ from))
    (λ d k. let c = counted (to +ℤ pos 1 -ℤ from) (omega (arith, ints)) in let a = k.low in let b = k.high in spans_yes from to d a (omega (arith, ints)))

-- the first day of which a test holds is sought from the next day on
pub record IsSought (test : ℤ → Bool) (from to next : ℤ) : Type 0 where
  pub low : from ≤ℤ next
  pub rest : first_day_of test next to ≡ first_day_of test from to

pub sought_first : (test : ℤ → Bool) (from to next : ℤ) → next ≡ from → IsSought test from to next
sought_first test from to next e = rw e (record { low = omega (arith, ints); rest = refl })

pub sought_after : (test : ℤ → Bool) (from to number next : ℤ) → next ≡ number +ℤ pos 1 → test number ≡ false → IsSought test from to number → IsSought test from to next
sought_after test from to number next e fails h = record {
  low = (let l = h.low in omega (arith, ints, l, e));
  rest = sym (first_skipped test number next to e fails) ∙ h.rest;
}

-- the sheets of the days before the next one were made
pub record AreMade (text : ℤ → List ℕ) (from to next : ℤ) (sheets : List (List ℕ)) : Type 0 where
  pub low : from ≤ℤ next
  pub rest : sheets ++ map text (days_within next to) ≡ map text (days_within from to)
  pub each : All IsSheet sheets

pub made_first : (text : ℤ → List ℕ) (from to next : ℤ) (sheets : List (List ℕ)) → next ≡ from → sheets ≡ [] → AreMade text from to next sheets
made_first text from to next sheets e none =
    rw (e, none) (record { low = omega (arith, ints); rest = refl; each = All-nil IsSheet })

pub made_after : (text : ℤ → List ℕ) (from to number next : ℤ) (sheets more : List (List ℕ)) (one : List ℕ) → number ≤ℤ to → next ≡ number +ℤ pos 1
    → one ≡ text number → IsSheet one → more ≡ sheets ++ one ∷ [] → AreMade text from to number sheets → AreMade text from to next more
made_after text from to number next sheets more one l e is fits m h =
    let rest = map text (days_within next to) in
    record {
      low = (let a = h.low in omega (arith, ints, a, e));
      rest =
          ap (λ (x : List (List ℕ)). x ++ rest) m
          ∙ append_assoc sheets (one ∷ []) rest
          ∙ ap (λ (x : List ℕ). sheets ++ x ∷ rest) is
          ∙ ap (λ (d : ℤ). sheets ++ text number ∷ map text (days_within d to)) e
          ∙ ap (λ (days : List ℤ). sheets ++ map text days) (sym (within_cons number to l))
          ∙ h.rest;
      each = subst_each (sym m) (All-append IsSheet sheets (one ∷ []) h.each (All-cons IsSheet one [] fits (All-nil IsSheet)));
    }
  where
    subst_each : {xs ys : List (List ℕ)} → xs ≡ ys → All IsSheet xs → All IsSheet ys
    subst_each e h = rw (← e) h

pub made_last : (text : ℤ → List ℕ) (from to next : ℤ) (sheets : List (List ℕ)) → IsDay from → IsDay to → from ≤ℤ to → to <ℤ next → AreMade text from to next sheets
    → sheets ≡ map text (filter (spans from to) calendar)
made_last text from to next sheets f l o past h =
    sym (append-nil sheets) ∙ ap (λ (days : List ℤ). sheets ++ map text days) (sym (within_none next to past)) ∙ h.rest
    ∙ ap (map text) (sym (days_spanned from to f l o))

pub made_are : (text : ℤ → List ℕ) (from to next : ℤ) (sheets : List (List ℕ)) → from ≤ℤ to → to <ℤ next → AreMade text from to next sheets
    → AreSheetsOfDays from to sheets
made_are text from to next sheets o past h =
    let whole : sheets ≡ map text (days_within from to) =
    sym (append-nil sheets) ∙ ap (λ (days : List ℤ). sheets ++ map text days) (sym (within_none next to past)) ∙ h.rest in
    let long = ap length whole ∙ length-map (days_within from to) text ∙ length_from from (count_of (to +ℤ pos 1 -ℤ from)) in
    let count = counted (to +ℤ pos 1 -ℤ from) (omega (arith, ints)) in
    record { one_a_day = ap pos long ∙ count ∙ omega (arith, ints); each = h.each }

-- the cells within a register, seen from outside
pub cells_seen : (view seen : Registered) → view ≡ seen → Tells view.history.events view.cells → Tells seen.history.events seen.cells
cells_seen view seen is tell = subst (λ (r : Registered). Tells r.history.events r.cells) is tell

pub awaited_seen : (view seen : Registered) → view ≡ seen → (site : SiteNumber) (day number : ℤ) → day ≡ number → (own : Option ℕ) → own ≡ awaited_in view.cells site day
    → own ≡ awaited_in seen.cells site number
awaited_seen view seen is site day number same own e =
    e ∙ ap (λ (d : ℤ). awaited_in view.cells site d) same ∙ ap (λ (r : Registered). awaited_in r.cells site number) is

pub value_seen : (view seen : Registered) → view ≡ seen → (site : SiteNumber) (day number : ℤ) → day ≡ number → (own : DayValue) → own ≡ value_in view.cells site day
    → own ≡ value_in seen.cells site number
value_seen view seen is site day number same own e =
    e ∙ ap (λ (d : ℤ). value_in view.cells site d) same ∙ ap (λ (r : Registered). value_in r.cells site number) is

-- the cells tell which day of a span awaits an edit
module _ (events : List Event) (cells : List KeptDays) (told : Tells events cells) (site : SiteNumber) (from to : ℤ) where
  pub none_awaited : (day : ℤ) (own : Option ℕ) → IsDay day → own ≡ awaited_in cells site day → own ≡ None → is_pending events site day ≡ false
  none_awaited day own is e none = ap is_some (sym (told.awaited_told site day is) ∙ sym e ∙ none)

  pub first_awaited : (day : ℤ) (own : Option ℕ) (edit : ℕ) → IsDay day → day ≤ℤ to → IsSought (is_pending events site) from to day
      → own ≡ awaited_in cells site day → own ≡ Some edit → Some (Awaits day edit) ≡ awaits_by events site (first_day_of (is_pending events site) from to)
  first_awaited day own edit is l h e some =
      let here : awaited events site day ≡ Some edit = sym (told.awaited_told site day is) ∙ sym e ∙ some in
      let first : first_day_of (is_pending events site) from to ≡ Some day = sym h.rest ∙ first_passes (is_pending events site) day to is l (ap is_some here) in
      sym (ap (awaits_by events site) first ∙ ap (option_map (λ number. Awaits day number)) here)

  pub none_sought : (next : ℤ) → to <ℤ next → IsSought (is_pending events site) from to next
      → None ≡ awaits_by events site (first_day_of (is_pending events site) from to)
  none_sought next l h = sym (ap (awaits_by events site) (sym h.rest ∙ none_left (is_pending events site) next to l))

  -- of a span of which no day awaits an edit the cells tell the values
  pub value_spanned : (day : ℤ) → IsDay day → from ≤ℤ day → day ≤ℤ to → first_day_of (is_pending events site) from to ≡ None → value_in cells site day ≡ value_at events site day
  value_spanned day is a b none =
      let passes : (spans from to day && is_pending events site day) ≡ false = none_passes (λ d. spans from to d && is_pending events site d) day is none in
      let not : is_pending events site day ≡ false = ap (λ s. s && is_pending events site day) (sym (spans_yes from to day a b)) ∙ passes in
      told.value_told site day is (not_some (awaited events site day) not)
    where
      not_some : (o : Option ℕ) → is_some o ≡ false → o ≡ None
      not_some None h = refl
      not_some (Some edit) h = absurd (cc)

and_right_true : (b c : Bool) → (b && c) ≡ true → c ≡ true
and_right_true true c h = h
and_right_true false c h = absurd (cc)

-- where no day awaits an edit, none is the first
pub none_first : (events : List Event) (site : SiteNumber) (from to : ℤ) → awaits_by events site (first_day_of (is_pending events site) from to) ≡ None
    → first_day_of (is_pending events site) from to ≡ None
none_first events site from to h = by_day (first_day_of (is_pending events site) from to) refl h
  where
    by_number : (day : ℤ) (o : Option ℕ) → option_map (λ number. Awaits day number) o ≡ None → o ≡ None
    by_number day None h = refl
    by_number day (Some number) h = absurd (cc)

    not_none : (o : Option ℕ) → o ≡ None → is_some o ≡ true → ⊥
    not_none None e h = cc h
    not_none (Some number) e h = cc e

    by_day : (o : Option ℤ) → first_day_of (is_pending events site) from to ≡ o → awaits_by events site o ≡ None → first_day_of (is_pending events site) from to ≡ None
    by_day None e h = e
    by_day (Some day) e h =
        absurd (not_none (awaited events site day) (by_number day (awaited events site day) h)
        (and_right_true (spans from to day) (is_pending events site day) (found_passes (λ d. spans from to d && is_pending events site d) calendar day e)))
