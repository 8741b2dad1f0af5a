-- When the days of a stretch begin, and how long they last.
use Rattle.std.proofs.Common.{◌≡◌, ◌∙◌, ◌-◌, List, length, ℤ, pos, ◌+ℤ◌, ◌-ℤ◌, ◌*ℤ◌, ◌≤ℤ◌, ◌<ℤ◌, sym, ap, arith, FitsSigned, to_z, of_z, w32}
use Rattle.std.proofs.lemmas.Int.{by_lt_z, to_z-of_z}
use Rattle.jiff_core.proofs.SignedLemmas.{signed_arith}
use Rattle.jiff_core.specs.Timestamp.{IsOffsetSeconds}
use Rattle.jiff_tz.specs.PosixText.{TzText}
use Rattle.fixed_units.specs.Calendar.{longest_day, shortest_day}
use Rattle.fixed_units.specs.Quantities.{first_day, IsDay}
use Rattle.civil_days.proofs.RunLemmas.{Covers-more}
use Rattle.civil_days.specs.Runs.{Covers, offset_at}
use Rattle.civil_days.specs.Seasons.{IsStretch}
use Rattle.civil_days.specs.Starts.{calendar_end, start_on, IsNear, IsDayLength, LastsWell}
use Rattle.civil_days.specs.declared.runs.Run.{Run}
use Rattle.civil_days.specs.declared.stretches.Stretch.{Stretch}

-- a day of a stretch begins so far from its midnight in UTC
pub start_in : (rule : TzText) (s : Stretch) (day : ℤ) → IsStretch rule s → s.first ≤ℤ day → day <ℤ s.next → start_on rule day ≡ day *ℤ pos 86_400 -ℤ s.offset
start_in rule s day is low high = ap (λ o. day *ℤ pos 86_400 -ℤ o) (is.offsets day low high)

near_by : (day offset start : ℤ) → start ≡ day *ℤ pos 86_400 -ℤ offset → IsOffsetSeconds offset → IsNear day start
near_by day offset start e h = record { low = omega (arith, signed_arith); high = omega (arith, signed_arith) }

pub near_in : (rule : TzText) (s : Stretch) (day : ℤ) → IsStretch rule s → s.first ≤ℤ day → day <ℤ s.next → IsNear day (start_on rule day)
near_in rule s day is low high = near_by day s.offset (start_on rule day) (start_in rule s day is low high) is.offset_in

-- the first day behind a stretch
pub next_bits : (rule : TzText) (s : Stretch) → IsStretch rule s → first_day ≤ℤ s.first → to_z w32 (of_z w32 s.next) ≡ s.next
next_bits rule s is low =
    let some = is.some in
    let most = is.most in
    let fits : FitsSigned w32 s.next = omega (arith, signed_arith) in
    to_z-of_z w32 s.next fits

pub next_low : (rule : TzText) (s : Stretch) (first : ℤ) → IsStretch rule s → first_day ≤ℤ s.first → first ≡ s.next → first_day ≤ℤ first
next_low rule s first is low e = let some = is.some in omega (arith, signed_arith)

length_by : (day a b start end : ℤ) → start ≡ day *ℤ pos 86_400 -ℤ a → end ≡ (day +ℤ pos 1) *ℤ pos 86_400 -ℤ b
    → pos shortest_day ≤ℤ (pos 86_400 +ℤ a -ℤ b) → (pos 86_400 +ℤ a -ℤ b) ≤ℤ pos longest_day → IsDayLength start end
length_by day a b start end e f low high = record { shortest = omega (arith, signed_arith); longest = omega (arith, signed_arith) }

length_of : (day a b start end : ℤ) → start ≡ day *ℤ pos 86_400 -ℤ a → end ≡ (day +ℤ pos 1) *ℤ pos 86_400 -ℤ b → IsDayLength start end
    → (pos shortest_day ≤ℤ (pos 86_400 +ℤ a -ℤ b)) × ((pos 86_400 +ℤ a -ℤ b) ≤ℤ pos longest_day)
length_of day a b start end e f well =
    let low = well.shortest in
    let high = well.longest in
    (omega (arith, signed_arith), omega (arith, signed_arith))

-- a day of a stretch before its last one
inside : (rule : TzText) (s : Stretch) (day : ℤ) → IsStretch rule s → s.first ≤ℤ day → (day +ℤ pos 1) <ℤ s.next → LastsWell rule day
inside rule s day is low high =
    length_by day s.offset s.offset (start_on rule day) (start_on rule (day +ℤ pos 1))
    (start_in rule s day is low (omega (arith, signed_arith))) (start_in rule s (day +ℤ pos 1) is (omega (arith, signed_arith)) high)
    (omega (arith, signed_arith)) (omega (arith, signed_arith))

-- the first day of the stretch behind one
pub next_start : (rule : TzText) (n : Stretch) (day : ℤ) → IsStretch rule n → n.first ≡ day → start_on rule day ≡ day *ℤ pos 86_400 -ℤ n.offset
next_start rule n day is e =
    let some = is.some in
    start_in rule n day is (omega (arith, signed_arith)) (omega (arith, signed_arith))

pub near_first : (rule : TzText) (n : Stretch) (day : ℤ) → IsStretch rule n → n.first ≡ day → IsNear day (start_on rule day)
near_first rule n day is e =
    let some = is.some in
    near_in rule n day is (omega (arith, signed_arith)) (omega (arith, signed_arith))

-- all days of the calendar before a day last well
abbrev pub IsPast : TzText → ℤ → Type 0
IsPast rule day = (d : ℤ) → first_day ≤ℤ d → d <ℤ day → LastsWell rule d

pub past_next : (rule : TzText) (s n : Stretch) → IsStretch rule s → IsStretch rule n → n.first ≡ s.next → IsPast rule s.first
    → pos shortest_day ≤ℤ (pos 86_400 +ℤ s.offset -ℤ n.offset) → (pos 86_400 +ℤ s.offset -ℤ n.offset) ≤ℤ pos longest_day → IsPast rule n.first
past_next rule s n is next e past low high d least below = by_lt_z d s.first
    (λ before. past d least before)
    (λ from. by_lt_z (d +ℤ pos 1) s.next
    (λ within. inside rule s d is from within)
    (λ last. length_by d s.offset n.offset (start_on rule d) (start_on rule (d +ℤ pos 1))
    (start_in rule s d is from (omega (arith, signed_arith))) (next_start rule n (d +ℤ pos 1) next (omega (arith, signed_arith))) low high))

-- where a stretch goes past the calendar
pub all_last : (rule : TzText) (s : Stretch) → IsStretch rule s → IsPast rule s.first → calendar_end <ℤ s.next → (d : ℤ) → IsDay d → LastsWell rule d
all_last rule s is past end d day =
    let least = day.low in
    let most = day.high in
    by_lt_z d s.first (λ before. past d least before) (λ from. inside rule s d is from (omega (arith, signed_arith)))

-- how long the last day of a stretch lasts
pub last_lasts : (rule : TzText) (s n : Stretch) → IsStretch rule s → IsStretch rule n → n.first ≡ s.next → first_day ≤ℤ s.first → s.next ≤ℤ calendar_end
    → ((d : ℤ) → IsDay d → LastsWell rule d)
    → (pos shortest_day ≤ℤ (pos 86_400 +ℤ s.offset -ℤ n.offset)) × ((pos 86_400 +ℤ s.offset -ℤ n.offset) ≤ℤ pos longest_day)
last_lasts rule s n is next e low high all =
    let some = is.some in
    let day : ℤ = s.next -ℤ pos 1 in
    let is_day : IsDay day = record { low = omega (arith, signed_arith); high = omega (arith, signed_arith) } in
    length_of day s.offset n.offset (start_on rule day) (start_on rule (day +ℤ pos 1))
    (start_in rule s day is (omega (arith, signed_arith)) (omega (arith, signed_arith))) (next_start rule n (day +ℤ pos 1) next (omega (arith, signed_arith)))
    (all day is_day)

-- runs up to the first day of a stretch give the starts of all its days
pub covers_stretch : (rule : TzText) (s : Stretch) (more : ℤ) (runs : List Run) → IsStretch rule s → Covers (start_on rule) s.first runs
    → offset_at runs (length runs - 1) ≡ s.offset → s.first ≤ℤ more → more <ℤ s.next → Covers (start_on rule) more runs
covers_stretch rule s more runs is c same from until = Covers-more (start_on rule) s.first more runs c from
    (λ d above most.
    let low : s.first ≤ℤ d = omega (arith, signed_arith) in
    let high : d <ℤ s.next = omega (arith, signed_arith) in
    start_in rule s d is low high ∙ ap (λ o. d *ℤ pos 86_400 -ℤ o) (sym same))
    (λ d above most.
    let low : s.first ≤ℤ d = omega (arith, signed_arith) in
    let high : d <ℤ s.next = omega (arith, signed_arith) in
    near_in rule s d is low high)
