-- The zones of the stations of a trial.
use Rattle.std.proofs.Common.{◌≡◌, ◌⊎◌, inl, inr, ℤ, pos, neg_ℤ, ◌+ℤ◌, ◌-ℤ◌, ◌*ℤ◌, Bool, true, false, cond, ℕ, List, Some, ◌≤◌, length, refl, arith, codes, rules, int_lt, not}
use Rattle.std.specs.Prelude.{◌==◌}
use Rattle.std.specs.List.{list_all}
use Rattle.std.proofs.lemmas.List.Sums.{AllPass-from_list_all}
use Rattle.civil_days.proofs.RuleLemmas.{zone_rule-offset}
use Rattle.civil_days.proofs.RunLemmas.{offset_zone}
use Rattle.civil_days.specs.Rule.{behind, ahead, seconds_by, shift, moment}
use Rattle.civil_days.specs.Starts.{IsDayLength, IsZone, LastsWell, offset_on, start_on, zone_rule}
use Rattle.edits.specs.Lawful.{IsStationZone}
use Rattle.edits.specs.Texts.{is_printed}
use Rattle.jiff.proofs.SpanFacts.{signed_arith}
use Rattle.jiff_tz.specs.PosixReader.{read_whole, read_tz, read_abbreviation, read_unquoted, read_quoted, read_offset, read_sign, read_up_to_two, read_digit, read_minutes, read_dst, read_byte, read_day_time, read_day, read_weekday_of_month, tz_text}
use Rattle.jiff_tz.specs.PosixRule.{in_window, in_span, saturating_add, saturating_sub}
use Rattle.jiff_tz.specs.PosixText.{DstText}
use Rattle.jiff_tz.specs.declared.posix.Day.TheVariants.{WeekdayOfMonth}
use Rattle.trial_orders.specs.Questions.{zone_of}

-- ---- by a rule of two offsets that lie an hour apart each day lasts from 23 to 25 hours

chosen : (std dst : ℤ) (test : Bool) (x y : ℤ) → (x ≡ std) ⊎ (x ≡ dst) → (y ≡ std) ⊎ (y ≡ dst) → (cond test x y ≡ std) ⊎ (cond test x y ≡ dst)
chosen std dst true x y p q = p
chosen std dst false x y p q = q

one_of_two : (std dst : ℤ) (w : ℤ × ℤ) (at : ℤ) → (seconds_by std dst w at ≡ std) ⊎ (seconds_by std dst w at ≡ dst)
one_of_two std dst w at =
    chosen std dst (int_lt dst std) (behind std dst w at) _
    (chosen std dst (in_window w at) dst _ (inr refl)
    (chosen std dst (in_span (saturating_add w.0 (shift std dst)) w.0 at) std _ (inl refl)
    (chosen std dst (in_span w.1 (saturating_sub w.1 (shift std dst)) at) dst std (inr refl) (inl refl))))
    (chosen std dst (int_lt std dst) (ahead std dst w at) std
    (chosen std dst (not (in_window w at)) std _ (inl refl)
    (chosen std dst (in_span w.0 (saturating_add w.0 (shift std dst)) at) std _ (inl refl)
    (chosen std dst (in_span (saturating_sub w.1 (shift std dst)) w.1 at) dst dst (inr refl) (inr refl))))
    (inl refl))

length_by : (day std dst a b start end : ℤ) → (a ≡ std) ⊎ (a ≡ dst) → (b ≡ std) ⊎ (b ≡ dst) → dst ≡ std +ℤ pos 3_600 → start ≡ day *ℤ pos 86_400 -ℤ a
    → end ≡ (day +ℤ pos 1) *ℤ pos 86_400 -ℤ b → IsDayLength start end
length_by day std dst a b start end (inl p) (inl q) hour e f = record { shortest = omega (arith, signed_arith); longest = omega (arith, signed_arith) }
length_by day std dst a b start end (inl p) (inr q) hour e f = record { shortest = omega (arith, signed_arith); longest = omega (arith, signed_arith) }
length_by day std dst a b start end (inr p) (inl q) hour e f = record { shortest = omega (arith, signed_arith); longest = omega (arith, signed_arith) }
length_by day std dst a b start end (inr p) (inr q) hour e f = record { shortest = omega (arith, signed_arith); longest = omega (arith, signed_arith) }

offset_is : (name : List ℕ) (std : ℤ) (d : DstText) (day : ℤ) → (offset_on (tz_text name std (Some d)) day ≡ std) ⊎ (offset_on (tz_text name std (Some d)) day ≡ d.seconds)
unfolding offset_on
offset_is name std d day = one_of_two std d.seconds (moment _ d.start, moment _ d.finish) (day *ℤ pos 86_400_000_000_000)

lasts_well : (name : List ℕ) (std : ℤ) (d : DstText) (day : ℤ) → d.seconds ≡ std +ℤ pos 3_600 → LastsWell (tz_text name std (Some d)) day
lasts_well name std d day hour =
    length_by day std d.seconds (offset_on (tz_text name std (Some d)) day) (offset_on (tz_text name std (Some d)) (day +ℤ pos 1))
    (start_on (tz_text name std (Some d)) day) (start_on (tz_text name std (Some d)) (day +ℤ pos 1))
    (offset_is name std d day) (offset_is name std d (day +ℤ pos 1)) hour refl refl

hour_zone : (text name : List ℕ) (std : ℤ) (d : DstText) → zone_rule text ≡ Some (tz_text name std (Some d)) → d.seconds ≡ std +ℤ pos 3_600 → IsZone text
hour_zone text name std d read hour = record { rule = tz_text name std (Some d); read = read; days = λ day is_day. lasts_well name std d day hour }

-- ---- the four zones

-- from the second Sunday of March to the first one of November, at two in the morning
abbrev summer : List ℕ → ℤ → DstText
summer name seconds = record {
  name = name;
  seconds = seconds;
  start = (WeekdayOfMonth 3 2 0, pos 7200);
  finish = (WeekdayOfMonth 11 1 0, pos 7200);
}

eastern_is : zone_rule (codes "EST5EDT,M3.2.0,M11.1.0") ≡ Some (tz_text (codes "EST") (neg_ℤ (pos 18_000)) (Some (summer (codes "EDT") (neg_ℤ (pos 14_400)))))
unfolding zone_rule read_whole read_tz read_abbreviation read_unquoted read_quoted read_offset read_sign read_up_to_two read_digit read_minutes read_dst read_byte read_day_time read_day read_weekday_of_month
eastern_is = refl

central_is : zone_rule (codes "CST6CDT,M3.2.0,M11.1.0") ≡ Some (tz_text (codes "CST") (neg_ℤ (pos 21_600)) (Some (summer (codes "CDT") (neg_ℤ (pos 18_000)))))
unfolding zone_rule read_whole read_tz read_abbreviation read_unquoted read_quoted read_offset read_sign read_up_to_two read_digit read_minutes read_dst read_byte read_day_time read_day read_weekday_of_month
central_is = refl

eastern : IsZone (codes "EST5EDT,M3.2.0,M11.1.0")
eastern = hour_zone (codes "EST5EDT,M3.2.0,M11.1.0") (codes "EST") (neg_ℤ (pos 18_000)) (summer (codes "EDT") (neg_ℤ (pos 14_400))) eastern_is refl

central : IsZone (codes "CST6CDT,M3.2.0,M11.1.0")
central = hour_zone (codes "CST6CDT,M3.2.0,M11.1.0") (codes "CST") (neg_ℤ (pos 21_600)) (summer (codes "CDT") (neg_ℤ (pos 18_000))) central_is refl

west : IsZone (codes "-07:00")
west = offset_zone (codes "-07:00") (neg_ℤ (pos 25_200)) (zone_rule-offset (codes "-07:00") (neg_ℤ (pos 25_200)) refl)

greenwich : IsZone (codes "+00:00")
greenwich = offset_zone (codes "+00:00") (pos 0) (zone_rule-offset (codes "+00:00") (pos 0) refl)

-- a zone of a station, by whatever tells the stations apart
zone_by : (P : List ℕ → Type 0) (first second third : Bool) (a b c d : List ℕ) → P a → P b → P c → P d → P (cond first a (cond second b (cond third c d)))
zone_by P true second third a b c d p q r s = p
zone_by P false true third a b c d p q r s = q
zone_by P false false true a b c d p q r s = r
zone_by P false false false a b c d p q r s = s

zone_from : (text : List ℕ) → list_all is_printed text ≡ true → 1 ≤ length text → length text ≤ 60 → IsZone text → IsStationZone text
zone_from text printed some few zone =
    record { printed = record { shortest = some; longest = few; codes = AllPass-from_list_all is_printed text printed }; is = zone }

pub is_zone : (station : ℕ) → IsStationZone (zone_of station)
is_zone station =
    zone_by IsStationZone (station == 1) (station == 2) (station == 3) (codes "EST5EDT,M3.2.0,M11.1.0") (codes "CST6CDT,M3.2.0,M11.1.0") (codes "-07:00") (codes "+00:00")
    (zone_from _ refl (search rules) (search rules) eastern)
    (zone_from _ refl (search rules) (search rules) central)
    (zone_from _ refl (search rules) (search rules) west)
    (zone_from _ refl (search rules) (search rules) greenwich)
