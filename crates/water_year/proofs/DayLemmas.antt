-- Days in order, and rows of such days.
use Rattle.std.proofs.Common.{◌≡◌, refl, sym, ap, ◌∙◌, ℕ, zero, suc, ◌+◌, Bool, true, false, cond, List, [], ◌∷◌, ◌++◌, map, filter, append-nil, ℤ, pos, ◌+ℤ◌, ◌≤ℤ◌, ◌<ℤ◌, arith}
use Rattle.std.proofs.lemmas.Int.{ints}
use Rattle.std.proofs.lemmas.List.Elements.{filter-append}
use Rattle.fixed_units.specs.Calendar.{days_from}
use Rattle.fixed_units.specs.Quantities.{is_within}
use Rattle.fixed_units.proofs.CalendarLemmas.{filter_days_all, filter_days_none}
use Rattle.water_year.specs.declared.rows.DailyRow.{DailyRow}

-- so many days and more
days_split : (d : ℤ) (a b : ℕ) → days_from d (a + b) ≡ days_from d a ++ days_from (d +ℤ pos a) b
unfolding days_from
days_split d zero b =
    let same : d ≡ d +ℤ pos 0 = omega (arith, ints) in
    let none : 0 + b ≡ b = omega arith in
    rw none (ap (λ (e : ℤ). days_from e b) same)
days_split d (suc a) b =
    let one : suc a + b ≡ suc (a + b) = omega arith in
    let next : (d +ℤ pos 1) +ℤ pos a ≡ d +ℤ pos (suc a) = omega (arith, ints) in
    rw one (ap (λ (l : List ℤ). d ∷ l) (days_split (d +ℤ pos 1) a b ∙ ap (λ (e : ℤ). days_from (d +ℤ pos 1) a ++ days_from e b) next))

pub within_yes : (f l d : ℤ) → f ≤ℤ d → d ≤ℤ l → is_within f l d ≡ true
within_yes f l d h k = grind (arith, ints)

pub within_early : (f l d : ℤ) → d <ℤ f → is_within f l d ≡ false
within_early f l d h = grind (arith, ints)

pub within_late : (f l d : ℤ) → l <ℤ d → is_within f l d ≡ false
within_late f l d h = grind (arith, ints)

-- of days in order those from one to another
pub days_kept : (d f l : ℤ) (a k c : ℕ) → f ≡ d +ℤ pos a → l +ℤ pos 1 ≡ f +ℤ pos k → filter (is_within f l) (days_from d (a + (k + c))) ≡ days_from f k
days_kept d f l a k c begins ends =
    let parts : days_from d (a + (k + c)) ≡ days_from d a ++ (days_from f k ++ days_from (f +ℤ pos k) c) =
    days_split d a (k + c) ∙ ap (λ (e : ℤ). days_from d a ++ days_from e (k + c)) (sym begins) ∙ ap (λ (l : List ℤ). days_from d a ++ l) (days_split f k c) in
    let before : filter (is_within f l) (days_from d a) ≡ [] =
    filter_days_none (is_within f l) d a (λ e among. let high = among.high in within_early f l e (omega (arith, ints, begins, high))) in
    let own : filter (is_within f l) (days_from f k) ≡ days_from f k =
    filter_days_all (is_within f l) f k (λ e among. let low = among.low in let high = among.high in within_yes f l e low (omega (arith, ints, ends, high))) in
    let behind : filter (is_within f l) (days_from (f +ℤ pos k) c) ≡ [] =
    filter_days_none (is_within f l) (f +ℤ pos k) c (λ e among. let low = among.low in within_late f l e (omega (arith, ints, ends, low))) in
    ap (filter (is_within f l)) parts ∙ filter-append (is_within f l) (days_from d a) (days_from f k ++ days_from (f +ℤ pos k) c)
    ∙ rw (before, filter-append (is_within f l) (days_from f k) (days_from (f +ℤ pos k) c), own, behind) (append-nil (days_from f k))

-- the days of the rows of such days
pub rows_kept : (q : ℤ → Bool) (rows : List DailyRow) → map (λ row. row.day) (filter (λ row. q row.day) rows) ≡ filter q (map (λ row. row.day) rows)
rows_kept q [] = refl
rows_kept q (row ∷ rows) = by (q row.day) (rows_kept q rows)
  where
    by : (b : Bool) → map (λ (r : DailyRow). r.day) (filter (λ (r : DailyRow). q r.day) rows) ≡ filter q (map (λ (r : DailyRow). r.day) rows)
        → map (λ (r : DailyRow). r.day) (cond b (row ∷ filter (λ (r : DailyRow). q r.day) rows) (filter (λ (r : DailyRow). q r.day) rows))
        ≡ cond b (row.day ∷ filter q (map (λ (r : DailyRow). r.day) rows)) (filter q (map (λ (r : DailyRow). r.day) rows))
    by true rest = ap (λ (l : List ℤ). row.day ∷ l) rest
    by false rest = rest
