-- When the days of a zone begin, by jiff's conversion of their midnights.
use Rattle.std.proofs.Common.{◌≡◌, ◌∙◌, ap, sym, refl, ℕ, ℤ, pos, neg_ℤ, ◌+ℤ◌, ◌-ℤ◌, ◌*ℤ◌, ◌≤ℤ◌, ◌≤◌, List, [], length, Bool, true, false, cond, Result, Err, IsOk, IfOk, Some, None, arith, int_div, int_eq}
use Rattle.std.proofs.lemmas.Result.{IfOk-weaker}
use Rattle.fixed_units.specs.Quantities.{IsDay, IsSecond}
use Rattle.jiff.proofs.SpanFacts.{signed_arith}
use Rattle.jiff_core.specs.DateTime.{civil_nanos}
use Rattle.jiff_core.specs.Time.{time_nanos}
use Rattle.jiff_core.specs.Timestamp.{IsTimestampNanos, nanos_of_seconds}
use Rattle.jiff_core.specs.declared.Offset.{Offset}
use Rattle.jiff_core.specs.declared.Timestamp.{Timestamp}
use Rattle.jiff_core.specs.declared.civil.datetime.DateTime.{DateTime}
use Rattle.jiff_core.specs.declared.error.Error.{Error}
use Rattle.jiff_tz.specs.Ambiguous.{compatible_offset, instant_of}
use Rattle.jiff_tz.specs.PosixReader.{read_whole, tz_text}
use Rattle.jiff_tz.specs.PosixText.{TzText}
use Rattle.jiff_tz.specs.Zone.{ambiguous_at}
use Rattle.jiff_tz.specs.declared.timezone.TimeZone.{TimeZone}
use Rattle.jiff_tz.specs.declared.timezone.TimeZone.TheVariants.{UTC, Unknown, Fixed, Posix, Tzif}
use Rattle.jiff.specs.Placed.{IsPosixZone, fixed_zone}
use Rattle.civil_days.specs.Starts.{offset_seconds, zone_rule, offset_on, start_on, start_by, day_start_of}
use Rattle.civil_days.proofs.JiffLemmas.{HasRule, rule_of, offset_at-midnight}
use Rattle.civil_days.proofs.RuleLemmas.{zone_rule-offset}
use Rattle.jiff_days.specs.Conversion.{IsCalendarDay, IsMidnight, IsConverted, IsSecondOf}
use Rattle.jiff_days.proofs.TextLemmas.{rule_read}

-- a midnight in nanoseconds
midnight_nanos : (dt : DateTime) (day : ℤ) → IsMidnight day dt → civil_nanos dt ≡ day *ℤ pos 86_400_000_000_000
unfolding civil_nanos
midnight_nanos dt day h =
    ap (λ d. d *ℤ pos 86_400_000_000_000 +ℤ pos (time_nanos dt.time)) h.date
    ∙ ap (λ t. day *ℤ pos 86_400_000_000_000 +ℤ pos t) h.time ∙ omega (arith, signed_arith)

in_seconds : (day offset : ℤ) → day *ℤ pos 86_400_000_000_000 -ℤ offset *ℤ pos 1_000_000_000 ≡ (day *ℤ pos 86_400 -ℤ offset) *ℤ pos 1_000_000_000
in_seconds day offset = omega (arith, signed_arith)

-- the instant of a midnight by the compatible offset, by the rule of the zone
instant_is : (zone : TimeZone) (dt : DateTime) (day : ℤ) → HasRule zone → IsMidnight day dt
    → instant_of dt (compatible_offset (ambiguous_at zone dt)) ≡ nanos_of_seconds (start_on (rule_of zone) day)
instant_is zone dt day rule h =
    let nanos = midnight_nanos dt day h in
    let offset = offset_at-midnight zone dt day rule h.date nanos in
    ap (λ n. n -ℤ (compatible_offset (ambiguous_at zone dt)).seconds *ℤ pos 1_000_000_000) nanos
    ∙ ap (λ s. day *ℤ pos 86_400_000_000_000 -ℤ s *ℤ pos 1_000_000_000) offset
    ∙ in_seconds day (offset_on (rule_of zone) day)

in_range_by : (day s : ℤ) → IsCalendarDay day → neg_ℤ (pos 93_599) ≤ℤ s → s ≤ℤ pos 93_599 → IsTimestampNanos (day *ℤ pos 86_400_000_000_000 -ℤ s *ℤ pos 1_000_000_000)
in_range_by day s h low high =
    let first = h.low in
    let last = h.high in
    (omega (arith, signed_arith), omega (arith, signed_arith))

-- which is an instant that jiff has
in_range : (dt : DateTime) (day : ℤ) (offset : Offset) → IsCalendarDay day → IsMidnight day dt → IsTimestampNanos (instant_of dt offset)
in_range dt day offset h m =
    rw (midnight_nanos dt day m) (in_range_by day offset.seconds h offset.in_range.0 offset.in_range.1)

-- so what jiff answers is the start by the zone's rule
converted : (zone : TimeZone) (dt : DateTime) (day : ℤ) (answer : Result Timestamp Error) → HasRule zone → IsCalendarDay day → IsMidnight day dt
    → IsConverted zone dt answer → IsSecondOf (start_on (rule_of zone) day) answer
converted zone dt day answer rule h m c = record {
  given = c.succeeds.1 (in_range dt day (compatible_offset (ambiguous_at zone dt)) h m);
  instant = IfOk-weaker answer _ _ (λ t e. e ∙ instant_is zone dt day rule m) c.value;
}

-- the start of a day by the rule that the text is
start_of : (text : List ℕ) (rule : TzText) (day : ℤ) → zone_rule text ≡ Some rule → start_on rule day ≡ day_start_of text day
unfolding day_start_of
start_of text rule day e = sym (ap (λ r. start_by r day) e)

-- and the start in the zone that the text is
starts_by_jiff : (text : List ℕ) (zone : TimeZone) (dt : DateTime) (day : ℤ) (answer : Result Timestamp Error) → HasRule zone → zone_rule text ≡ Some (rule_of zone)
    → IsCalendarDay day → IsMidnight day dt → IsConverted zone dt answer → IsSecondOf (day_start_of text day) answer
starts_by_jiff text zone dt day answer rule e h m c =
    rw (← start_of text (rule_of zone) day e) (converted zone dt day answer rule h m c)

-- the zone of a POSIX rule has that rule
posix_rule_is : (text : List ℕ) (zone : TimeZone) → IsPosixZone text zone → HasRule zone × (read_whole text ≡ Some (rule_of zone))
posix_rule_is text UTC h = absurd h
posix_rule_is text Unknown h = absurd h
posix_rule_is text (Fixed offset) h = absurd h
posix_rule_is text (Posix rule) h = (_, h)
posix_rule_is text (Tzif z) h = absurd h

pub starts_by_rule : (text : List ℕ) (zone : TimeZone) (dt : DateTime) (day : ℤ) (answer : Result Timestamp Error) → length text ≤ 60 → IsPosixZone text zone
    → IsCalendarDay day → IsMidnight day dt → IsConverted zone dt answer → IsSecondOf (day_start_of text day) answer
starts_by_rule text zone dt day answer short read h m c =
    let is = posix_rule_is text zone read in
    starts_by_jiff text zone dt day answer is.0 (rule_read text (rule_of zone) short is.1) h m c

fixed_by : (zero : Bool) (offset : Offset) → (zero ≡ true → offset.seconds ≡ pos 0)
    → HasRule (cond zero UTC (Fixed offset)) × (rule_of (cond zero UTC (Fixed offset)) ≡ tz_text [] offset.seconds None)
fixed_by true offset h = (_, ap (λ s. tz_text [] s None) (sym (h refl)))
fixed_by false offset h = (_, refl)

zero_is : (s : ℤ) → int_eq s (pos 0) ≡ true → s ≡ pos 0
zero_is s e = grind (arith, signed_arith)

-- the zone of a fixed offset has a rule of that offset
fixed_rule_is : (offset : Offset) → HasRule (fixed_zone offset) × (rule_of (fixed_zone offset) ≡ tz_text [] offset.seconds None)
fixed_rule_is offset = fixed_by (int_eq offset.seconds (pos 0)) offset (zero_is offset.seconds)

pub starts_by_offset : (text : List ℕ) (offset : Offset) (dt : DateTime) (day : ℤ) (answer : Result Timestamp Error) → offset_seconds text ≡ Some offset.seconds
    → IsCalendarDay day → IsMidnight day dt → IsConverted (fixed_zone offset) dt answer → IsSecondOf (day_start_of text day) answer
starts_by_offset text offset dt day answer clock h m c =
    let is = fixed_rule_is offset in
    starts_by_jiff text (fixed_zone offset) dt day answer is.0 (zone_rule-offset text offset.seconds clock ∙ ap Some (sym is.1)) h m c

second_by : (day s start : ℤ) → IsCalendarDay day → neg_ℤ (pos 93_599) ≤ℤ s → s ≤ℤ pos 93_599
    → day *ℤ pos 86_400_000_000_000 -ℤ s *ℤ pos 1_000_000_000 ≡ start *ℤ pos 1_000_000_000 → IsSecond start
second_by day s start h low high e =
    let first = h.low in
    let last = h.high in
    record { low = omega (arith, signed_arith); high = omega (arith, signed_arith) }

second_in : (zone : TimeZone) (dt : DateTime) (day : ℤ) → HasRule zone → IsCalendarDay day → IsMidnight day dt → IsSecond (start_on (rule_of zone) day)
second_in zone dt day rule h m =
    let offset = compatible_offset (ambiguous_at zone dt) in
    let is : day *ℤ pos 86_400_000_000_000 -ℤ offset.seconds *ℤ pos 1_000_000_000 ≡ nanos_of_seconds (start_on (rule_of zone) day) =
    sym (ap (λ n. n -ℤ offset.seconds *ℤ pos 1_000_000_000) (midnight_nanos dt day m)) ∙ instant_is zone dt day rule m in
    second_by day offset.seconds (start_on (rule_of zone) day) h offset.in_range.0 offset.in_range.1 is

-- the start is a second in range
start_is_second : (text : List ℕ) (zone : TimeZone) (dt : DateTime) (day : ℤ) → length text ≤ 60 → IsPosixZone text zone
    → IsCalendarDay day → IsMidnight day dt → IsSecond (day_start_of text day)
start_is_second text zone dt day short read h m =
    let is = posix_rule_is text zone read in
    rw (← start_of text (rule_of zone) day (rule_read text (rule_of zone) short is.1)) (second_in zone dt day is.0 h m)

-- whole seconds that are counted in nanoseconds are divided without a rest
whole_seconds : (s n : ℤ) → n ≡ nanos_of_seconds s → int_div n (pos 1_000_000_000) ≡ s
whole_seconds s n e = omega (arith, signed_arith)

calendar_day : (day : ℤ) → IsDay day → IsCalendarDay day
calendar_day day h =
    let high = h.high in
    record { low = h.low; high = omega (arith, signed_arith) }

-- what is answered to one who asks jiff for the start of a day
pub record IsAnswer (text : List ℕ) (day : ℤ) (answer : Result Timestamp Error) : Type 0 where
  pub given : IsOk answer
  pub second : IsSecond (day_start_of text day)
  pub start : IfOk answer (λ t. int_div t.nanosecond (pos 1_000_000_000) ≡ day_start_of text day)

pub answered : (text : List ℕ) (zone : TimeZone) (dt : DateTime) (day : ℤ) (answer : Result Timestamp Error) → length text ≤ 60 → IsPosixZone text zone
    → IsDay day → IsMidnight day dt → IsConverted zone dt answer → IsAnswer text day answer
answered text zone dt day answer short read d m c =
    let h = calendar_day day d in
    let is = starts_by_rule text zone dt day answer short read h m c in
    record {
      given = is.given;
      second = start_is_second text zone dt day short read h m;
      start = IfOk-weaker answer _ _ (λ t e. whole_seconds (day_start_of text day) t.nanosecond e) is.instant;
    }

-- an answer is no error
pub no_error : (answer : Result Timestamp Error) (e : Error) → answer ≡ Err e → IsOk answer → ⊥
no_error answer e is ok = absurd cc
