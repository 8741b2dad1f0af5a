-- Which of two instants jiff's compatible conversion takes.
use Rattle.std.proofs.Common.{◌≡◌, refl, subst, ℤ, pos, ◌<ℤ◌, Bool, true, false, cond, not, int_lt, Option, Some, None, arith}
use Rattle.jiff.proofs.SpanFacts.{signed_arith}
use Rattle.jiff_core.specs.DateTime.{civil_nanos}
use Rattle.jiff_core.specs.declared.Offset.{Offset}
use Rattle.jiff_core.specs.declared.civil.datetime.DateTime.{DateTime}
use Rattle.jiff_tz.specs.Ambiguous.{compatible_offset, instant_of}
use Rattle.jiff_tz.specs.PosixRule.{ambiguous_behind, ambiguous_ahead, ambiguous_by, ambiguous_at_by, rule_nanos, in_window, in_span, saturating_add, saturating_sub, shift_between}
use Rattle.jiff_tz.specs.Zone.{ambiguous_at}
use Rattle.jiff_tz.specs.declared.ambiguous.AmbiguousOffset.{AmbiguousOffset}
use Rattle.jiff_tz.specs.declared.ambiguous.AmbiguousOffset.TheVariants.{Unambiguous, Gap, Fold}
use Rattle.jiff_tz.specs.declared.posix.Dst.{Dst}
use Rattle.jiff_tz.specs.declared.posix.TimeZone.{TimeZone as Rule}
use Rattle.jiff_tz.specs.declared.timezone.TimeZone.TheVariants.{Posix}

-- the clock goes forward over a gap, and back over a fold
abbrev IsOrdered : AmbiguousOffset → Type 0
IsOrdered (Unambiguous offset) = Unit {0}
IsOrdered (Gap before after) = before.seconds <ℤ after.seconds
IsOrdered (Fold before after) = after.seconds <ℤ before.seconds

either : (t : Bool) (x y : AmbiguousOffset) → IsOrdered x → IsOrdered y → IsOrdered (cond t x y)
either true x y h k = h
either false x y h k = k

either_by : (t : Bool) (x y : AmbiguousOffset) → (t ≡ true → IsOrdered x) → IsOrdered y → IsOrdered (cond t x y)
either_by true x y h k = h refl
either_by false x y h k = k

behind : (std dst : Offset) (w : ℤ × ℤ) (at : ℤ) → dst.seconds <ℤ std.seconds → IsOrdered (ambiguous_behind std dst w at)
behind std dst w at h =
    either (in_window w at) (Unambiguous dst) _ _ (
    either (in_span (saturating_add w.0 (shift_between std dst)) w.0 at) (Fold std dst) _ h (
    either (in_span w.1 (saturating_sub w.1 (shift_between std dst)) at) (Gap dst std) (Unambiguous std) h _
    )
    )

ahead : (std dst : Offset) (w : ℤ × ℤ) (at : ℤ) → std.seconds <ℤ dst.seconds → IsOrdered (ambiguous_ahead std dst w at)
ahead std dst w at h =
    either (not (in_window w at)) (Unambiguous std) _ _ (
    either (in_span w.0 (saturating_add w.0 (shift_between std dst)) at) (Gap std dst) _ h (
    either (in_span (saturating_sub w.1 (shift_between std dst)) w.1 at) (Fold dst std) (Unambiguous dst) h _
    )
    )

less : (a b : ℤ) → int_lt a b ≡ true → a <ℤ b
less a b h = grind (arith, signed_arith)

by_window : (std dst : Offset) (w : ℤ × ℤ) (at : ℤ) → IsOrdered (ambiguous_by std dst w at)
by_window std dst w at =
    either_by (int_lt dst.seconds std.seconds) (ambiguous_behind std dst w at) _ (λ h. behind std dst w at (less dst.seconds std.seconds h)) (
    either_by (int_lt std.seconds dst.seconds) (ambiguous_ahead std dst w at) (Unambiguous std) (λ h. ahead std dst w at (less std.seconds dst.seconds h)) _
    )

by_rule : (std : Offset) (d : Option Dst) (dt : DateTime) → IsOrdered (ambiguous_at_by std d dt)
by_rule std None dt = _
by_rule std (Some d) dt = by_window std d.offset (rule_nanos dt.date.year d.rule.start (pos 0), rule_nanos dt.date.year d.rule.end (pos 0)) (civil_nanos dt)

ordered : (rule : Rule) (dt : DateTime) → IsOrdered (ambiguous_at (Posix rule) dt)
unfolding ambiguous_at
ordered rule dt = by_rule rule.std_offset rule.dst dt

sooner : (dt : DateTime) (greater lesser : Offset) → lesser.seconds <ℤ greater.seconds → instant_of dt greater <ℤ instant_of dt lesser
sooner dt greater lesser h = omega (arith, signed_arith)

in_fold : (dt : DateTime) (offsets : AmbiguousOffset) (before after : Offset) → IsOrdered offsets → offsets ≡ Fold before after
    → (compatible_offset offsets ≡ before) × (instant_of dt before <ℤ instant_of dt after)
in_fold dt offsets before after h e =
    rw e (refl, sooner dt before after (subst IsOrdered e h))

in_gap : (dt : DateTime) (offsets : AmbiguousOffset) (before after : Offset) → IsOrdered offsets → offsets ≡ Gap before after
    → (compatible_offset offsets ≡ before) × (instant_of dt after <ℤ instant_of dt before)
in_gap dt offsets before after h e =
    rw e (refl, sooner dt after before (subst IsOrdered e h))

pub earlier_in_fold : (rule : Rule) (dt : DateTime) (before after : Offset) → ambiguous_at (Posix rule) dt ≡ Fold before after
    → (compatible_offset (ambiguous_at (Posix rule) dt) ≡ before) × (instant_of dt before <ℤ instant_of dt after)
earlier_in_fold rule dt before after e = in_fold dt (ambiguous_at (Posix rule) dt) before after (ordered rule dt) e

pub later_in_gap : (rule : Rule) (dt : DateTime) (before after : Offset) → ambiguous_at (Posix rule) dt ≡ Gap before after
    → (compatible_offset (ambiguous_at (Posix rule) dt) ≡ before) × (instant_of dt after <ℤ instant_of dt before)
later_in_gap rule dt before after e = in_gap dt (ambiguous_at (Posix rule) dt) before after (ordered rule dt) e
