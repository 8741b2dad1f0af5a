-- The offset that a rule gives the midnight of a day is the one that jiff's compatible conversion takes there.
use Rattle.std.proofs.Common.{◌≡◌, ◌∙◌, ℤ, pos, ◌*ℤ◌, Bool, true, false, cond, [], Option, Some, None, option_map, refl, ap, sym}
use Rattle.jiff_core.specs.Date.{epoch_day}
use Rattle.jiff_core.specs.DateTime.{civil_nanos}
use Rattle.jiff_core.specs.declared.Offset.{Offset}
use Rattle.jiff_core.specs.declared.civil.datetime.DateTime.{DateTime}
use Rattle.jiff_tz.proofs.YearLemmas.{year_of_day-date}
use Rattle.jiff_tz.specs.Ambiguous.{compatible_offset}
use Rattle.jiff_tz.specs.PosixReader.{tz_text}
use Rattle.jiff_tz.specs.PosixRule.{rule_nanos, ambiguous_by, ambiguous_at_by}
use Rattle.jiff_tz.specs.PosixText.{TzText, tz_view, dst_view, day_time_view}
use Rattle.jiff_tz.specs.Year.{year_of_day}
use Rattle.jiff_tz.specs.Zone.{ambiguous_at}
use Rattle.jiff_tz.specs.declared.ambiguous.AmbiguousOffset.{AmbiguousOffset}
use Rattle.jiff_tz.specs.declared.posix.DayTime.{DayTime}
use Rattle.jiff_tz.specs.declared.posix.Dst.{Dst}
use Rattle.jiff_tz.specs.declared.timezone.TimeZone.{TimeZone}
use Rattle.jiff_tz.specs.declared.timezone.TimeZone.TheVariants.{UTC, Unknown, Fixed, Posix, Tzif}
use Rattle.civil_days.specs.Rule.{moment, seconds_by, seconds_at}
use Rattle.civil_days.specs.Starts.{offset_on}

-- the zone has a rule, and not a table of transitions
abbrev pub HasRule : TimeZone → Type 0
HasRule (Tzif z) = ⊥
HasRule zone = Unit {0}

-- the rule of jiff's zone
abbrev pub rule_of : TimeZone → TzText
rule_of (Fixed offset) = tz_text [] offset.seconds None
rule_of (Posix rule) = tz_view rule
rule_of zone = tz_text [] (pos 0) None

taken : (b : Bool) (x y : AmbiguousOffset) → (compatible_offset (cond b x y)).seconds ≡ cond b (compatible_offset x).seconds (compatible_offset y).seconds
taken true x y = refl
taken false x y = refl

by_seconds : (std dst : Offset) (w : ℤ × ℤ) (at : ℤ) → (compatible_offset (ambiguous_by std dst w at)).seconds ≡ seconds_by std.seconds dst.seconds w at
by_seconds std dst w at = simp taken

moment_is : (y : ℤ) (d : DayTime) → rule_nanos y d (pos 0) ≡ moment y (day_time_view d)
unfolding rule_nanos
moment_is y d = refl

at_by : (std : Offset) (d : Option Dst) (dt : DateTime) → (compatible_offset (ambiguous_at_by std d dt)).seconds ≡ seconds_at std.seconds (option_map dst_view d) dt.date.year (civil_nanos dt)
at_by std None dt = refl
at_by std (Some d) dt =
    by_seconds std d.offset (rule_nanos dt.date.year d.rule.start (pos 0), rule_nanos dt.date.year d.rule.end (pos 0)) (civil_nanos dt)
    ∙ rw (moment_is dt.date.year d.rule.start, moment_is dt.date.year d.rule.end) refl

-- the same, where the datetime is a midnight
at_midnight : (std : ℤ) (d : Option _) (dt : DateTime) (day : ℤ) → epoch_day dt.date ≡ day → civil_nanos dt ≡ day *ℤ pos 86_400_000_000_000
    → seconds_at std d dt.date.year (civil_nanos dt) ≡ seconds_at std d (year_of_day day) (day *ℤ pos 86_400_000_000_000)
at_midnight std d dt day date nanos =
    let year : dt.date.year ≡ year_of_day day = sym (year_of_day-date dt.date) ∙ ap year_of_day date in
    ap (λ y. seconds_at std d y (civil_nanos dt)) year ∙ ap (λ n. seconds_at std d (year_of_day day) n) nanos

-- the compatible offset of a midnight is that of the rule
pub offset_at-midnight : (zone : TimeZone) (dt : DateTime) (day : ℤ) → HasRule zone → epoch_day dt.date ≡ day
    → civil_nanos dt ≡ day *ℤ pos 86_400_000_000_000 → (compatible_offset (ambiguous_at zone dt)).seconds ≡ offset_on (rule_of zone) day
unfolding ambiguous_at offset_on
offset_at-midnight UTC dt day h date nanos = refl
offset_at-midnight Unknown dt day h date nanos = refl
offset_at-midnight (Fixed offset) dt day h date nanos = refl
offset_at-midnight (Posix rule) dt day h date nanos =
    at_by rule.std_offset rule.dst dt ∙ at_midnight rule.std_offset.seconds (option_map dst_view rule.dst) dt day date nanos
offset_at-midnight (Tzif z) dt day h date nanos = absurd h
