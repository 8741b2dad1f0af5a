-- What a rule says of the days of a year, by the tests of their midnights against the changes of the year.
use Rattle.std.proofs.Common.{◌≡◌, ◌∙◌, ℤ, pos, ◌+ℤ◌, ◌-ℤ◌, ◌*ℤ◌, ◌≤ℤ◌, ◌<ℤ◌, Bool, true, false, cond, int_lt, not, Option, Some, None, option_map, refl, ap, sym, arith, FitsSigned, to_z, of_z, w32, w64}
use Rattle.std.proofs.lemmas.Int.{to_z-of_z}
use Rattle.jiff_core.proofs.SignedLemmas.{signed_arith}
use Rattle.jiff_core.specs.Timestamp.{IsOffsetSeconds}
use Rattle.jiff_tz.proofs.TzifLemmas.{le_yes, le_no}
use Rattle.jiff_tz.specs.PosixRule.{civil_min, civil_max, clamp_to, in_window, in_span, saturating_add, saturating_sub}
use Rattle.jiff_tz.specs.PosixText.{dst_view, tz_view}
use Rattle.jiff_tz.specs.Year.{year_of_day}
use Rattle.jiff_tz.specs.declared.posix.Dst.{Dst}
use Rattle.jiff_tz.specs.declared.posix.TimeZone.{TimeZone}
use Rattle.civil_days.proofs.CalendarLemmas.{year_of_its_day}
use Rattle.civil_days.specs.Rule.{moment, shift, seconds_by, seconds_at}
use Rattle.civil_days.specs.Starts.{offset_on, calendar_end}
use Rattle.fixed_units.specs.Quantities.{first_day}
use Rattle.civil_days.specs.Years.{IsCalendarYear, IsYearNanos, IsWindow, IsOneSide}
use borrow.Author.Differences.{lt-true, lt-false}

pub lt_yes : (a b : ℤ) → a <ℤ b → int_lt a b ≡ true
lt_yes a b h = elim (int_lt a b) as (λ v. int_lt a b ≡ v → v ≡ true) [
  | true ↦ λ e. refl
  | false ↦ λ e. let over = lt-false a b e in absurd (omega (arith, signed_arith))
] refl

pub lt_no : (a b : ℤ) → b ≤ℤ a → int_lt a b ≡ false
lt_no a b h = elim (int_lt a b) as (λ v. int_lt a b ≡ v → v ≡ false) [
  | true ↦ λ e. let under = lt-true a b e in absurd (omega (arith, signed_arith))
  | false ↦ λ e. refl
] refl

through : (a b c : ℤ) → a ≤ℤ b → b ≤ℤ c → a ≤ℤ c
through a b c h k = omega (arith, signed_arith)

before : (a b c : ℤ) → a ≤ℤ b → b <ℤ c → a <ℤ c
before a b c h k = omega (arith, signed_arith)

-- of a change that has come, and of one that has not
pub side_after : (change at later : ℤ) → change ≤ℤ at → at ≤ℤ later → IsOneSide change at later
side_after change at later h k =
    let far : change ≤ℤ later = through change at later h k in
    record {
      begun = le_yes change later far ∙ sym (le_yes change at h);
      ahead = lt_no later change far ∙ sym (lt_no at change h);
    }

pub side_before : (change at later : ℤ) → at ≤ℤ later → later <ℤ change → IsOneSide change at later
side_before change at later h k =
    let near : at <ℤ change = before at later change h k in
    record {
      begun = le_no change later k ∙ sym (le_no change at near);
      ahead = lt_yes later change k ∙ sym (lt_yes at change near);
    }

-- two moments on one side of each change of a window have one offset
pub one_side : (std dst start end at later : ℤ) → IsOneSide start at later → IsOneSide (saturating_add start (shift std dst)) at later
    → IsOneSide end at later → IsOneSide (saturating_sub end (shift std dst)) at later
    → seconds_by std dst (start, end) later ≡ seconds_by std dst (start, end) at
one_side std dst start end at later s t e f = rw (s.begun, s.ahead, t.begun, t.ahead, e.begun, e.ahead, f.begun, f.ahead) refl

-- the offset by the answers of the tests
pub behind_is : (std dst start start_after end end_after at : ℤ) (inside repeated skipped : Bool) → dst <ℤ std
    → start_after ≡ saturating_add start (shift std dst) → end_after ≡ saturating_sub end (shift std dst)
    → inside ≡ in_window (start, end) at → repeated ≡ in_span start_after start at → skipped ≡ in_span end end_after at
    → cond inside dst (cond repeated std (cond skipped dst std)) ≡ seconds_by std dst (start, end) at
behind_is std dst start start_after end end_after at inside repeated skipped less s e a b c = rw (lt_yes dst std less, a, b, c, s, e) refl

same_both : (test : Bool) (x : ℤ) → x ≡ cond test x x
same_both true x = refl
same_both false x = refl

pub ahead_is : (std dst start start_after end at : ℤ) (inside skipped : Bool) → std <ℤ dst
    → start_after ≡ saturating_add start (shift std dst)
    → inside ≡ in_window (start, end) at → skipped ≡ in_span start start_after at
    → cond (not inside) std (cond skipped std dst) ≡ seconds_by std dst (start, end) at
ahead_is std dst start start_after end at inside skipped less s a b =
    rw (lt_yes std dst less, lt_no dst std (omega (arith, signed_arith)), a, b, s, ← same_both (in_span (saturating_sub end (shift std dst)) end at) dst) refl

pub neither_is : (std dst : ℤ) (w : ℤ × ℤ) (at : ℤ) → std ≤ℤ dst → dst ≤ℤ std → std ≡ seconds_by std dst w at
neither_is std dst w at low high = rw (lt_no dst std low, lt_no std dst high) refl

chosen_in : (test : Bool) (x y : ℤ) → IsOffsetSeconds x → IsOffsetSeconds y → IsOffsetSeconds (cond test x y)
chosen_in true x y p q = p
chosen_in false x y p q = q

-- which is an offset
pub seconds_in : (std dst : ℤ) (w : ℤ × ℤ) (at : ℤ) → IsOffsetSeconds std → IsOffsetSeconds dst → IsOffsetSeconds (seconds_by std dst w at)
seconds_in std dst w at p q =
    chosen_in (int_lt dst std) _ _
    (chosen_in (in_window w at) dst _ q
    (chosen_in (in_span (saturating_add w.0 (shift std dst)) w.0 at) std _ p
    (chosen_in (in_span w.1 (saturating_sub w.1 (shift std dst)) at) dst std q p)))
    (chosen_in (int_lt std dst) _ _
    (chosen_in (not (in_window w at)) std _ p
    (chosen_in (in_span w.0 (saturating_add w.0 (shift std dst)) at) std _ p
    (chosen_in (in_span (saturating_sub w.1 (shift std dst)) w.1 at) dst dst q q)))
    p)

clamped : (low high n : ℤ) → low ≤ℤ n → n ≤ℤ high → n ≡ clamp_to low high n
clamped low high n h k = rw (lt_no n low h, lt_no high n k) refl

moved : (std dst : ℤ) → (dst -ℤ std) *ℤ pos 1_000_000_000 ≡ shift std dst
moved std dst = omega (arith, signed_arith)

-- a window, of the moments by the clock before each change
pub window_by : (std dst start end by : ℤ) → IsOffsetSeconds std → IsOffsetSeconds dst → IsYearNanos start → IsYearNanos end
    → by ≡ (dst -ℤ std) *ℤ pos 1_000_000_000 → IsWindow std dst start (start +ℤ by) end (end -ℤ by)
window_by std dst start end by p q s e is = record {
  std_in = p;
  dst_in = q;
  start_in = s;
  end_in = e;
  start_moved = rw (is, moved std dst) (clamped civil_min civil_max (start +ℤ shift std dst) (omega (arith, signed_arith)) (omega (arith, signed_arith)));
  end_moved = rw (is, moved std dst) (clamped civil_min civil_max (end -ℤ shift std dst) (omega (arith, signed_arith)) (omega (arith, signed_arith)));
  start_after_in = (omega (arith, signed_arith), omega (arith, signed_arith));
  end_after_in = (omega (arith, signed_arith), omega (arith, signed_arith));
}

-- the offsets of the days of a year, where the rule has daylight saving time
pub with_dst : (tz : TimeZone) (d : Dst) (y first next day : ℤ) → tz.dst ≡ Some d → IsCalendarYear y first next → first ≤ℤ day → day <ℤ next
    → offset_on (tz_view tz) day
    ≡ seconds_by tz.std_offset.seconds d.offset.seconds (moment y (dst_view d).start, moment y (dst_view d).finish) (day *ℤ pos 86_400_000_000_000)
unfolding offset_on
with_dst tz d y first next day e is low high =
    ap (λ (o : Option Dst). seconds_at tz.std_offset.seconds (option_map dst_view o) (year_of_day day) (day *ℤ pos 86_400_000_000_000)) e
    ∙ ap (λ n. seconds_at tz.std_offset.seconds (Some (dst_view d)) n (day *ℤ pos 86_400_000_000_000)) (year_of_its_day y first next day is low high)

-- and where it has none
pub with_none : (tz : TimeZone) (w : ℤ × ℤ) (day : ℤ) → tz.dst ≡ None
    → offset_on (tz_view tz) day ≡ seconds_by tz.std_offset.seconds tz.std_offset.seconds w (day *ℤ pos 86_400_000_000_000)
unfolding offset_on
with_none tz w day e =
    ap (λ (o : Option Dst). seconds_at tz.std_offset.seconds (option_map dst_view o) (year_of_day day) (day *ℤ pos 86_400_000_000_000)) e
    ∙ neither_is tz.std_offset.seconds tz.std_offset.seconds w (day *ℤ pos 86_400_000_000_000) (omega (arith, signed_arith)) (omega (arith, signed_arith))

-- the midnight of a day, without its bits
pub midnight_bits : (day from : ℤ) → FitsSigned w32 day → first_day ≤ℤ day → day ≤ℤ calendar_end → from ≡ to_z w32 (of_z w32 day)
    → to_z w64 (of_z w64 (to_z w64 (of_z w64 from) *ℤ pos 86400000000000)) ≡ day *ℤ pos 86_400_000_000_000
midnight_bits day from fits low high e =
    let wide : FitsSigned w64 day = omega (arith, signed_arith) in
    let product : FitsSigned w64 (day *ℤ pos 86_400_000_000_000) = omega (arith, signed_arith) in
    rw (e, to_z-of_z w32 day fits, to_z-of_z w64 day wide, to_z-of_z w64 (day *ℤ pos 86_400_000_000_000) product) refl

-- what a window says fits its type
pub record IsFitting (std dst start start_after end end_after : ℤ) : Type 0 where
  pub std_fits : FitsSigned w32 std
  pub dst_fits : FitsSigned w32 dst
  pub start_fits : FitsSigned w64 start
  pub start_after_fits : FitsSigned w64 start_after
  pub end_fits : FitsSigned w64 end
  pub end_after_fits : FitsSigned w64 end_after

pub window_fits : (std dst start start_after end end_after : ℤ) → IsWindow std dst start start_after end end_after → IsFitting std dst start start_after end end_after
window_fits std dst start start_after end end_after w =
    let a = w.std_in in
    let b = w.dst_in in
    let c = w.start_in in
    let d = w.start_after_in in
    let e = w.end_in in
    let f = w.end_after_in in
    record {
      std_fits = omega (arith, signed_arith);
      dst_fits = omega (arith, signed_arith);
      start_fits = omega (arith, signed_arith);
      start_after_fits = omega (arith, signed_arith);
      end_fits = omega (arith, signed_arith);
      end_after_fits = omega (arith, signed_arith);
    }
