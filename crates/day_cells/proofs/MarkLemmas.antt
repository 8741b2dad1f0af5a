-- Days that are marked one after the other, and columns with more room.
use Rattle.std.specs.Prelude.{◌≡◌, ℕ, zero, suc, ◌+◌, ◌-◌, ◌<◌, ◌≤◌, Bool, true, false, not, ◌||◌, cond, List, [], ◌∷◌, ◌++◌, length, take, replicate, count_by, AllPairs, ℤ, pos, ◌+ℤ◌, ◌<ℤ◌, ◌≤ℤ◌, map, filter}
use Rattle.std.specs.Ordering.{int_eq}
use Rattle.std.proofs.Common.{arith, refl, ap, sym, ◌∙◌, get_or, inl, inr}
use Rattle.std.proofs.lemmas.Bool.{cases_lt}
use Rattle.std.proofs.lemmas.Int.{ints}
use Rattle.std.proofs.lemmas.List.{get_or-take, get_or_default, length-take, length-append, length-replicate}
use Rattle.std.proofs.lemmas.List.Elements.{filter_agree}
use Rattle.std.proofs.lemmas.List.Folds.{list_any_more, list_any_none}
use Rattle.std.proofs.lemmas.List.Sums.{sum_by_more, sum_by-append}
use Rattle.fixed_units.specs.Quantities.{first_day, last_day}
use Rattle.fixed_units.specs.Calendar.{calendar}
use Rattle.daily_values.specs.declared.day_values.DayValue.TheVariants.{Empty}
use Rattle.day_cells.specs.Days.{contains_day}
use Rattle.day_cells.specs.KeptDays.{KeptDays, KeepsPlaces, SaysTheSame, Marks, HasCell, NonePendingWithin, NoneUnclaimedBefore, is_edit, is_pending_on, is_out_on, edit_on, waiting_of, waiting_on}
use Rattle.day_cells.proofs.DayLemmas.{on_day_widened, widened_front, widened_rest}

either : {X : Type 0} (a b : Bool) (x y : X) → cond b x (cond a x y) ≡ cond (a || b) x y
either true true x y = refl
either true false x y = refl
either false true x y = refl
either false false x y = refl

-- one day more is marked
module _ (old mid new : KeptDays) (changed : List ℤ) (i edit : ℕ) (day : ℤ) where
  contains_more : i < length changed → day ≡ get_or changed i day → (other : ℤ)
      → contains_day (take (i + 1) changed) other ≡ (contains_day (take i changed) other || int_eq day other)
  contains_more l e other =
      list_any_more (λ d. int_eq d other) changed i day l ∙ ap (λ d. contains_day (take i changed) other || int_eq d other) (sym e)

  pub marks_more : i < length changed → day ≡ get_or changed i day → Marks old mid (contains_day (take i changed)) edit
      → Marks mid new (λ other. int_eq day other) edit → Marks old new (contains_day (take (i + 1) changed)) edit
  marks_more l e h m = record {
    site = m.site ∙ h.site;
    edits = λ other.
        m.edits other ∙ ap (λ n. cond (int_eq day other) edit n) (h.edits other)
        ∙ either (contains_day (take i changed) other) (int_eq day other) edit (edit_on old other)
        ∙ ap (λ b. cond b edit (edit_on old other)) (sym (contains_more l e other));
    claims = λ other.
        m.claims other ∙ ap (λ n. cond (int_eq day other) false n) (h.claims other)
        ∙ either (contains_day (take i changed) other) (int_eq day other) false (is_out_on old other)
        ∙ ap (λ b. cond b false (is_out_on old other)) (sym (contains_more l e other));
    values = λ other. m.values other ∙ h.values other;
  }

  other_day : (a b : ℤ) → a <ℤ b → int_eq a b ≡ false
  other_day a b h = grind (arith, ints)

  not_yet : i < length changed → day ≡ get_or changed i day → AllPairs (λ a b. a <ℤ b) changed → contains_day (take i changed) day ≡ false
  not_yet l e rising =
      list_any_none (λ d. int_eq d day) (take i changed)
      (λ k d m. let short : length (take i changed) ≤ i = omega (arith, length-take i changed) in
      let less : k < i = omega arith in
      let earlier = rising k i d less l in
      let here = get_or_default changed i d day l in
      let there = get_or-take i changed k d less in
      other_day (get_or (take i changed) k d) day (omega (arith, ints, earlier, here, there, e)))

  opposite : (b : Bool) (m n : ℕ) → cond b m n ≡ cond (not b) n m
  opposite true m n = refl
  opposite false m n = refl

  pub count_more : (n : ℕ) → i < length changed → day ≡ get_or changed i day → AllPairs (λ a b. a <ℤ b) changed
      → Marks old mid (contains_day (take i changed)) edit
      → length (waiting_of mid) ≡ n + count_by (λ d. not (is_pending_on old d)) (take i changed)
      → length (waiting_of new) ≡ length (waiting_of mid) + cond (is_pending_on mid day) 0 1
      → length (waiting_of new) ≡ n + count_by (λ d. not (is_pending_on old d)) (take (i + 1) changed)
  count_more n l e rising h before after =
      let fresh : edit_on mid day ≡ edit_on old day = rw (not_yet l e rising) at (h.edits day) in
      let same : is_pending_on mid day ≡ is_pending_on old day = ap is_edit fresh in
      let more = sum_by_more (λ d. cond (not (is_pending_on old d)) 1 0) changed i day l in
      let here : cond (is_pending_on mid day) 0 1 ≡ cond (not (is_pending_on old (get_or changed i day))) 1 0 =
      ap (λ b. cond b 0 1) same ∙ opposite (is_pending_on old day) 0 1 ∙ ap (λ d. cond (not (is_pending_on old d)) 1 0) e in
      omega (arith, before, after, more, here)

-- cells with more room
count_blank : (n : ℕ) → count_by is_edit (replicate n 0) ≡ 0
count_blank zero = refl
count_blank (suc n) = count_blank n

-- how long a wider column is
pub widened_length : {X : Type 0} (xs : List X) (z : X) (front back : ℕ) → length ((replicate front z ++ xs) ++ replicate back z) ≡ front + length xs + back
widened_length xs z front back =
    omega (arith, length-append (replicate front z ++ xs) (replicate back z), length-append (replicate front z) xs, length-replicate front z, length-replicate back z)

-- the cells that a wider column has more await no edit
pub widened_count : (awaits : List ℕ) (front back : ℕ) → count_by is_edit ((replicate front 0 ++ awaits) ++ replicate back 0) ≡ count_by is_edit awaits
widened_count awaits front back =
    omega (
      arith,
      sum_by-append (λ n. cond (is_edit n) 1 0) (replicate front 0 ++ awaits) (replicate back 0),
      sum_by-append (λ n. cond (is_edit n) 1 0) (replicate front 0) awaits,
      count_blank front,
      count_blank back,
    )

-- the pending days hang on what is said of the days alone
maps_same : {X Y : Type 0} (f g : X → Y) (xs : List X) → ((x : X) → f x ≡ g x) → map f xs ≡ map g xs
maps_same f g [] h = refl
maps_same f g (x ∷ xs) h = let a = h x in let b = maps_same f g xs h in rw (a, b) refl

waiting_day : (old new : KeptDays) → SaysTheSame old new → (day : ℤ) → waiting_on new day ≡ waiting_on old day
waiting_day old new h day =
    let a = h.site in
    let b = h.edits day in
    let d = h.claims day in
    cc

pub waiting_same : (old new : KeptDays) → SaysTheSame old new → waiting_of new ≡ waiting_of old
waiting_same old new h =
    ap (map (waiting_on new)) (filter_agree (is_pending_on new) (is_pending_on old) (λ day. ap is_edit (h.edits day)) calendar)
    ∙ maps_same (waiting_on new) (waiting_on old) (filter (is_pending_on old) calendar) (waiting_day old new h)

module _ (cells : KeptDays) (start : ℤ) (front back : ℕ) where
  abbrev pub wider : KeptDays
  wider = record {
    site = cells.site;
    start = start;
    awaits = (replicate front 0 ++ cells.awaits) ++ replicate back 0;
    claims = (replicate front false ++ cells.claims) ++ replicate back false;
    values = (replicate front Empty ++ cells.values) ++ replicate back Empty;
    span = cells.span;
  }

  pub wider_same : cells.start ≡ start +ℤ pos front → SaysTheSame cells wider
  wider_same e = record {
    site = refl;
    edits = λ day. on_day_widened cells.start start cells.awaits 0 front back e day;
    claims = λ day. on_day_widened cells.start start cells.claims false front back e day;
    values = λ day. on_day_widened cells.start start cells.values Empty front back e day;
    span = refl;
  }

  wider_before : (first : ℕ) → NonePendingWithin cells.awaits 0 first → NonePendingWithin wider.awaits 0 (first + front)
  wider_before first h k low high =
      elim (cases_lt k front) [
        | inl l ↦ ap is_edit (widened_front cells.awaits 0 front back k l)
        | inr l ↦ ap is_edit (widened_rest cells.awaits 0 front back k l) ∙ h (k - front) (omega arith) (omega arith)
      ]

  wider_unclaimed : (first : ℕ) → NoneUnclaimedBefore cells.awaits cells.claims first → NoneUnclaimedBefore wider.awaits wider.claims (first + front)
  wider_unclaimed first h k high =
      elim (cases_lt k front) [
        | inl l ↦ (let a = widened_front cells.awaits 0 front back k l in rw a refl)
        | inr l ↦ (let a = widened_rest cells.awaits 0 front back k l in
            let b = widened_rest cells.claims false front back k l in
            rw (a, b) (h (k - front) (omega arith)))
      ]

  pub wider_keeps : (pending first unclaimed : ℕ) → KeepsPlaces cells pending first unclaimed → cells.start ≡ start +ℤ pos front
      → first_day ≤ℤ start → (cells.start +ℤ pos (length cells.awaits + back)) ≤ℤ (last_day +ℤ pos 1)
      → KeepsPlaces wider pending (first + front) (unclaimed + front)
  wider_keeps pending first unclaimed h e low high =
      let n = h.columns.claims in
      let m = h.columns.values in
      let a = widened_length cells.awaits 0 front back in
      let b = widened_length cells.claims false front back in
      let d = widened_length cells.values Empty front back in
      let w = h.within in
      let u = h.unclaimed_within in
      record {
        columns = record {
          claims = omega (arith, a, b, n);
          values = omega (arith, a, d, m);
          low = low;
          high = rw a (omega (arith, ints));
          span = h.columns.span;
        };
        counted = h.counted ∙ sym (widened_count cells.awaits front back);
        within = omega (arith, a, w);
        before = wider_before first h.before;
        unclaimed_within = omega (arith, a, u);
        unclaimed_before = wider_unclaimed unclaimed h.unclaimed_before;
      }

  pub wider_has : (day : ℤ) → cells.start ≡ start +ℤ pos front → start ≤ℤ day → day <ℤ (cells.start +ℤ pos (length cells.awaits + back)) → HasCell wider day
  wider_has day e low high =
      let a = widened_length cells.awaits 0 front back in
      record { low = low; high = rw a (omega (arith, ints)) }

  pub wider_kept : (day : ℤ) → cells.start ≡ start +ℤ pos front → HasCell cells day → HasCell wider day
  wider_kept day e h =
      let low = h.low in
      let high = h.high in
      wider_has day e (omega (arith, ints)) (omega (arith, ints))
