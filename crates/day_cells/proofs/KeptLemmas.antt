-- What the kept columns say of a day and of the pending days.
use Rattle.std.specs.Prelude.{◌≡◌, ◌⊎◌, ℕ, ◌≢◌, ◌+◌, ◌<◌, ◌≤◌, Bool, true, false, cond, List, Vec, length, set, filter, find, count_by, Option, Some, None, IfSome, ℤ, pos, ◌+ℤ◌, ◌<ℤ◌, ◌≤ℤ◌}
use Rattle.std.proofs.Common.{arith, refl, ap, sym, ◌∙◌, get_or, inl, inr}
use Rattle.std.proofs.lemmas.Int.{ints}
use Rattle.std.proofs.lemmas.Bool.{cases_lt, cases_eq, false≢true}
use Rattle.std.specs.Vec.{with_items}
use Rattle.std.proofs.lemmas.List.{length-map, length-set, get_or_past, get_or-set_same, get_or-set_other, with_items_is}
use Rattle.std.proofs.lemmas.List.Sums.{sum_by-set}
use Rattle.fixed_units.specs.Quantities.{first_day}
use Rattle.fixed_units.specs.Calendar.{days_from, calendar, days_of_calendar}
use Rattle.day_cells.specs.Days.{on_day}
use Rattle.day_cells.specs.KeptDays.{KeptDays, AreColumns, KeepsPlaces, TakesOut, Publishes, Marks, HasCell, NonePendingWithin, is_edit, is_pending_on, waiting_of, waiting_on}
use Rattle.day_cells.specs.Spans.{IsSpan}
use Rattle.day_cells.specs.declared.spans.Span.{Span}
use Rattle.daily_values.specs.declared.day_values.DayValue.{DayValue}
use Rattle.daily_values.specs.declared.day_values.DayValue.TheVariants.{Empty}
use Rattle.std.specs.Ordering.{int_eq}
use Rattle.day_cells.specs.declared.waiting.Waiting.{Waiting}
use Rattle.day_cells.proofs.DayLemmas.{by_day, on_day_at, on_day_before, on_day_behind, on_day_set}
use Rattle.day_cells.proofs.CalendarLemmas.{count_of_column, found_first, none_found}

-- the pending days are as many as the cells that await an edit
pub waiting_count : (cells : KeptDays) → AreColumns cells → length (waiting_of cells) ≡ count_by is_edit cells.awaits
unfolding calendar
waiting_count cells h =
    let low = h.low in
    let high = h.high in
    length-map (filter (is_pending_on cells) (days_from first_day days_of_calendar)) (waiting_on cells)
    ∙ count_of_column first_day days_of_calendar cells.start cells.awaits low (omega (arith, ints))

-- the cell of a place
abbrev pub cell_at : KeptDays → ℕ → Waiting
cell_at cells place = record { site = cells.site; day = cells.start +ℤ pos place; awaits = get_or cells.awaits place 0; out = get_or cells.claims place false }

cell_is : (cells : KeptDays) (place : ℕ) → cell_at cells place ≡ waiting_on cells (cells.start +ℤ pos place)
cell_is cells place =
    let a = on_day_at cells.start cells.awaits 0 (cells.start +ℤ pos place) place refl in
    let b = on_day_at cells.start cells.claims false (cells.start +ℤ pos place) place refl in
    rw (a, b) refl

pub pending_at : (cells : KeptDays) (place : ℕ) → is_pending_on cells (cells.start +ℤ pos place) ≡ is_edit (get_or cells.awaits place 0)
pending_at cells place = ap is_edit (on_day_at cells.start cells.awaits 0 (cells.start +ℤ pos place) place refl)

-- a pending day has a place
by_place : {P : Type 0} (cells : KeptDays) (day : ℤ) → is_pending_on cells day ≡ true
    → ((k : ℕ) → day ≡ cells.start +ℤ pos k → k < length cells.awaits → is_edit (get_or cells.awaits k 0) ≡ true → P) → P
by_place cells day h f =
    by_day cells.start day
    (λ l. let e : is_pending_on cells day ≡ false = ap is_edit (on_day_before cells.start cells.awaits 0 day l) in absurd (false≢true (sym e ∙ h)))
    (λ k e. let g : is_edit (get_or cells.awaits k 0) ≡ true = ap is_edit (sym (on_day_at cells.start cells.awaits 0 day k e)) ∙ h in
    elim (cases_lt k (length cells.awaits)) [
      | inl l ↦ f k e l g
      | inr l ↦ absurd (false≢true (ap is_edit (sym (get_or_past cells.awaits k 0 l)) ∙ g))
    ])

module _ (cells : KeptDays) (q : Waiting → Bool) where
  others : (place : ℕ) → ((k : ℕ) → k < place → is_edit (get_or cells.awaits k 0) ≡ true → q (cell_at cells k) ≡ false)
      → (e : ℤ) → e <ℤ (cells.start +ℤ pos place) → is_pending_on cells e ≡ true → q (waiting_on cells e) ≡ false
  others place earlier e l h =
      by_place cells e h
      (λ k f m g. let less : k < place = omega (arith, ints) in
      ap (λ d. q (waiting_on cells d)) f ∙ sym (ap q (cell_is cells k)) ∙ earlier k less g)

  -- the first pending day that passes a test, by its place
  found_at : (place : ℕ) → AreColumns cells → place < length cells.awaits → is_edit (get_or cells.awaits place 0) ≡ true
      → q (cell_at cells place) ≡ true → ((k : ℕ) → k < place → is_edit (get_or cells.awaits k 0) ≡ true → q (cell_at cells k) ≡ false)
      → find q (waiting_of cells) ≡ Some (cell_at cells place)
  unfolding calendar
  found_at place h l pending passing earlier =
      let low = h.low in
      let high = h.high in
      found_first q (waiting_on cells) (is_pending_on cells) first_day days_of_calendar (cells.start +ℤ pos place) (omega (arith, ints)) (omega (arith, ints))
      (pending_at cells place ∙ pending) (sym (ap q (cell_is cells place)) ∙ passing) (others place earlier)
      ∙ sym (ap (λ w. Some w) (cell_is cells place))

  none_at : ((k : ℕ) → k < length cells.awaits → is_edit (get_or cells.awaits k 0) ≡ true → q (cell_at cells k) ≡ false)
      → find q (waiting_of cells) ≡ None
  unfolding calendar
  none_at none =
      none_found q (waiting_on cells) (is_pending_on cells) first_day days_of_calendar
      (λ e h. by_place cells e h (λ k f m g. ap (λ d. q (waiting_on cells d)) f ∙ sym (ap q (cell_is cells k)) ∙ none k m g))

  -- the answer of a scan that stopped at a place
  pub first_found : (place : ℕ) (r : Option Waiting) → AreColumns cells → place ≤ length cells.awaits
      → (place < length cells.awaits → is_edit (get_or cells.awaits place 0) ≡ true)
      → (place < length cells.awaits → q (cell_at cells place) ≡ true)
      → ((k : ℕ) → k < place → is_edit (get_or cells.awaits k 0) ≡ true → q (cell_at cells k) ≡ false)
      → (place < length cells.awaits → r ≡ Some (cell_at cells place)) → (length cells.awaits ≤ place → r ≡ None)
      → r ≡ find q (waiting_of cells)
  first_found place r h within here passing earlier some none =
      elim (cases_lt place (length cells.awaits)) [
        | inl l ↦ some l ∙ sym (found_at place h l (here l) (passing l) earlier)
        | inr l ↦ none l ∙ sym (none_at (λ k m g. earlier k (omega arith) g))
      ]

-- a claim that is taken out
pub taken_out : (cells : KeptDays) (day : ℤ) (place : ℕ) (out : Bool) → AreColumns cells → day ≡ cells.start +ℤ pos place → place < length cells.awaits
    → TakesOut cells (record cells { claims = set cells.claims place out }) (λ other. int_eq day other) out
taken_out cells day place out h e l =
    let n = h.claims in
    record {
      site = refl;
      edits = λ other. refl;
      claims = λ other. on_day_set cells.start cells.claims false day place out e (omega arith) other;
      values = λ other. refl;
      span = refl;
    }

pub published : (cells : KeptDays) (day : ℤ) (place : ℕ) (value : DayValue) → AreColumns cells → day ≡ cells.start +ℤ pos place → place < length cells.awaits
    → Publishes cells (record cells { awaits = set cells.awaits place 0; claims = set cells.claims place false; values = set cells.values place value })
    (λ other. int_eq day other) value
published cells day place value h e l =
    let n = h.claims in
    let m = h.values in
    record {
      site = refl;
      edits = λ other. on_day_set cells.start cells.awaits 0 day place 0 e l other;
      claims = λ other. on_day_set cells.start cells.claims false day place false e (omega arith) other;
      values = λ other. on_day_set cells.start cells.values Empty day place value e (omega arith) other;
      span = refl;
    }

pub marked : (cells : KeptDays) (day : ℤ) (place edit : ℕ) (span : Option Span) → AreColumns cells → day ≡ cells.start +ℤ pos place → place < length cells.awaits
    → Marks cells (record cells { awaits = set cells.awaits place edit; claims = set cells.claims place false; span = span })
    (λ other. int_eq day other) edit
marked cells day place edit span h e l =
    let n = h.claims in
    record {
      site = refl;
      edits = λ other. on_day_set cells.start cells.awaits 0 day place edit e l other;
      claims = λ other. on_day_set cells.start cells.claims false day place false e (omega arith) other;
      values = λ other. refl;
    }

-- a pending day has a cell
pub pending_has_cell : (cells : KeptDays) (day : ℤ) → is_pending_on cells day ≡ true → HasCell cells day
pending_has_cell cells day h =
    by_place cells day h (λ k e l g. record { low = omega (arith, ints); high = omega (arith, ints) })

-- columns after a write
pub columns_written : (cells : KeptDays) (place edit : ℕ) (out : Bool) (values : List DayValue) (span : Option Span) → AreColumns cells
    → length values ≡ length cells.values → IfSome span IsSpan
    → AreColumns (record cells { awaits = set cells.awaits place edit; claims = set cells.claims place out; values = values; span = span })
columns_written cells place edit out values span h e s =
    let n = h.claims in
    let m = h.values in
    let low = h.low in
    let high = h.high in
    record {
      claims = length-set cells.claims place out ∙ h.claims ∙ sym (length-set cells.awaits place edit);
      values = e ∙ h.values ∙ sym (length-set cells.awaits place edit);
      low = h.low;
      high = rw (length-set cells.awaits place edit) h.high;
      span = s;
    }

-- how many cells await an edit after a write
pub count_written : (awaits : List ℕ) (place edit : ℕ) → place < length awaits
    → count_by is_edit (set awaits place edit) + cond (is_edit (get_or awaits place 0)) 1 0 ≡ count_by is_edit awaits + cond (is_edit edit) 1 0
count_written awaits place edit l = sum_by-set (λ n. cond (is_edit n) 1 0) awaits place edit 0 l

-- the places before which nothing is pending stay such where the write awaits nothing, and else up to the place
pub before_cleared : (awaits : List ℕ) (place first : ℕ) → place < length awaits → NonePendingWithin awaits 0 first
    → NonePendingWithin (set awaits place 0) 0 first
before_cleared awaits place first l h k low high =
    elim (cases_eq k place) [
      | inl e ↦ ap is_edit (ap (λ n. get_or (set awaits place 0) n 0) e ∙ get_or-set_same awaits place 0 0 l)
      | inr e ↦ ap is_edit (get_or-set_other awaits place k 0 0 e) ∙ h k low high
    ]

pub joined : (awaits : List ℕ) (first next : ℕ) → NonePendingWithin awaits 0 first → NonePendingWithin awaits first next
    → NonePendingWithin awaits 0 next
joined awaits first next h g k low high =
    elim (cases_lt k first) [
      | inl l ↦ h k low l
      | inr l ↦ g k l high
    ]

-- a number that is no 0 is that of an edit
pub edited : (edit : ℕ) → 1 ≤ edit → is_edit edit ≡ true
edited edit h = grind arith

opposite : (b : Bool) (old new more : ℕ) → new + cond b 1 0 ≡ old + 1 → more ≡ cond b 0 1 → new ≡ old + more
opposite true old new more e m = omega (arith, m)
opposite false old new more e m = omega (arith, m)

-- how many cells await an edit after a mark
pub count_marked : (awaits : List ℕ) (place edit more : ℕ) → place < length awaits → 1 ≤ edit → more ≡ cond (is_edit (get_or awaits place 0)) 0 1
    → count_by is_edit (set awaits place edit) ≡ count_by is_edit awaits + more
count_marked awaits place edit more l e m =
    let count = rw (edited edit e) at (count_written awaits place edit l) in
    opposite (is_edit (get_or awaits place 0)) (count_by is_edit awaits) (count_by is_edit (set awaits place edit)) more count m

-- what stands beside the columns after a mark, where both places are none behind the one that is marked
pub marked_keeps : (cells : KeptDays) (place edit more pending first unclaimed next after : ℕ) (span : Option Span)
    → KeepsPlaces cells pending first unclaimed → place < length cells.awaits → 1 ≤ edit → IfSome span IsSpan
    → more ≡ cond (is_edit (get_or cells.awaits place 0)) 0 1 → next ≤ first → next ≤ place → after ≤ unclaimed → after ≤ place
    → KeepsPlaces (record cells { awaits = set cells.awaits place edit; claims = set cells.claims place false; span = span }) (pending + more) next after
marked_keeps cells place edit more pending first unclaimed next after span h l e s m a b p q =
    let long = length-set cells.awaits place edit in
    let within = h.within in
    let unclaimed_within = h.unclaimed_within in
    record {
      columns = columns_written cells place edit false cells.values span h.columns refl s;
      counted = ap (λ n. n + more) h.counted ∙ sym (count_marked cells.awaits place edit more l e m);
      within = omega (arith, long, within);
      before = λ k low high. ap is_edit (get_or-set_other cells.awaits place k edit 0 (omega arith)) ∙ h.before k low (omega arith);
      unclaimed_within = omega (arith, long, unclaimed_within);
      unclaimed_before = λ k high.
          (let edits = get_or-set_other cells.awaits place k edit 0 (omega arith) in
          let claims = get_or-set_other cells.claims place k false false (omega arith) in
          rw (edits, claims) (h.unclaimed_before k (omega arith)));
    }

-- a column that is written through a slice of it
pub column_written : {X Z : Type 0} (column : Vec X Z) (slice written : List X) (place : ℕ) (value : X) → slice ≡ column.items
    → written ≡ set slice place value → (with_items column written).items ≡ set column.items place value
column_written column slice written place value is to =
    with_items_is column written (ap length to ∙ length-set slice place value ∙ ap length is ∙ sym column.ok.0) ∙ to ∙ ap (λ xs. set xs place value) is

-- a day outside a column
pub outside : {X : Type 0} (start : ℤ) (awaits : List ℕ) (xs : List X) (z : X) (day : ℤ) → length awaits ≡ length xs
    → (day <ℤ start) ⊎ ((start +ℤ pos (length awaits)) ≤ℤ day) → on_day start xs z day ≡ z
outside start awaits xs z day e (inl h) = on_day_before start xs z day h
outside start awaits xs z day e (inr h) = on_day_behind start xs z day (omega (arith, ints))
