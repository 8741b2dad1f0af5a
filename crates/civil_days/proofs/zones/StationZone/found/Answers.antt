use Rattle.std.proofs.Common.{ℕ, ℤ, List, ◌≡◌, ◌∙◌, pos, ◌+ℤ◌, ◌-ℤ◌, ◌*ℤ◌, ◌≤ℤ◌, ◌<ℤ◌, ◌+◌, ◌<◌, ◌≤◌, length, arith, FitsSigned, to_z, of_z, w32, w64}
use Rattle.fixed_units.specs.Quantities.{first_day, last_day}
use Rattle.civil_days.specs.declared.runs.Run.{Run}
use Rattle.std.proofs.lemmas.Int.{to_z-of_z}
use Rattle.jiff.proofs.SpanFacts.{signed_arith}
use Rattle.civil_days.specs.Runs.{Covers, first_at, offset_at, begin_at}
use Rattle.civil_days.specs.Starts.{calendar_end, day_start_of, IsIn}
use Rattle.civil_days.proofs.RunLemmas.{first_begins, offset_small, offset_fits, first_fits, before_fits, day_by_run, day_by_next}
use Rattle.civil_days.proofs.zones.StationZone.found.Goals as goal

-- what the search and the division found, without their bits
record Found (start : ℤ → ℤ) (runs : List Run) (k : ℕ) (at day : ℤ) : Type 0 where
  from : begin_at runs k ≤ℤ at
  until : k + 1 < length runs → at <ℤ begin_at runs (k + 1)
  low : (day *ℤ pos 86_400) ≤ℤ (at +ℤ offset_at runs k)
  high : (at +ℤ offset_at runs k) <ℤ ((day +ℤ pos 1) *ℤ pos 86_400)
  day_is : to_z w32 (of_z w32 day) ≡ day

abbrev pub bits : ℤ → ℤ
bits n = to_z w64 (of_z w64 n)

found : (start : ℤ → ℤ) (runs : List Run) (k : ℕ) (at get again day : ℤ) → Covers start calendar_end runs → k < length runs
    → FitsSigned w64 get → get ≡ at → FitsSigned w64 again → again ≡ at
    → begin_at runs k ≤ℤ bits get → (k + 1 < length runs → bits get <ℤ begin_at runs (k + 1))
    → (day *ℤ pos 86_400) ≤ℤ (bits again +ℤ to_z w32 (of_z w32 (offset_at runs k)))
    → (bits again +ℤ to_z w32 (of_z w32 (offset_at runs k))) <ℤ ((day +ℤ pos 1) *ℤ pos 86_400)
    → first_day ≤ℤ day → day <ℤ last_day → Found start runs k at day
found start runs k at get again day covers place fits is again_fits again_is from until low high first last =
    let offset : to_z w32 (of_z w32 (offset_at runs k)) ≡ offset_at runs k = to_z-of_z w32 (offset_at runs k) (offset_fits start runs k covers place) in
    let at_is : bits get ≡ at = to_z-of_z w64 get fits ∙ is in
    let same_at : bits again ≡ at = to_z-of_z w64 again again_fits ∙ again_is in
    let day_fits : FitsSigned w32 day = omega (arith, signed_arith) in
    record {
      from = rw at_is at from;
      until = rw at_is at until;
      low = rw (same_at, offset) at low;
      high = rw (same_at, offset) at high;
      day_is = to_z-of_z w32 day day_fits;
    }

pub run_on-place-requires-clause-first : goal.run_on-place-requires-clause-first
run_on-place-requires-clause-first c =
    let covers : Covers (day_start_of c.args.self.now) calendar_end c.as_slice-runs.result.now =
    rw (c.as_slice-runs.ensures.value, ← c.self.view_is) c.self.invariant.starts in
    let at_fits : FitsSigned w64 c.get.result = record { sfits = c.get.type_inv } in
    let at_is : to_z w64 (of_z w64 c.get.result) ≡ c.args.at = to_z-of_z w64 c.get.result at_fits ∙ c.get.ensures.value in
    rw at_is (first_begins (day_start_of c.args.self.now) c.as_slice-runs.result.now c.args.at covers c.requires.low)

pub day_by-day-requires-clause-low : goal.day_by-day-requires-clause-low
day_by-day-requires-clause-low c =
    let covers : Covers (day_start_of c.args.self.now) calendar_end c.as_slice-runs.result.now =
    rw (c.as_slice-runs.ensures.value, ← c.self.view_is) c.self.invariant.starts in
    let runs = c.as_slice-runs.result.now in
    let k = c.run_on-place.result in
    let place : k < length runs = c.run_on-place.ensures.place in
    let offset : to_z w32 (of_z w32 (offset_at runs k)) ≡ offset_at runs k =
    to_z-of_z w32 (offset_at runs k) (offset_fits (day_start_of c.args.self.now) runs k covers place) in
    rw offset (offset_small (day_start_of c.args.self.now) runs k covers place).0

pub day_by-day-requires-clause-high : goal.day_by-day-requires-clause-high
day_by-day-requires-clause-high c =
    let covers : Covers (day_start_of c.args.self.now) calendar_end c.as_slice-runs.result.now =
    rw (c.as_slice-runs.ensures.value, ← c.self.view_is) c.self.invariant.starts in
    let runs = c.as_slice-runs.result.now in
    let k = c.run_on-place.result in
    let place : k < length runs = c.run_on-place.ensures.place in
    let offset : to_z w32 (of_z w32 (offset_at runs k)) ≡ offset_at runs k =
    to_z-of_z w32 (offset_at runs k) (offset_fits (day_start_of c.args.self.now) runs k covers place) in
    rw offset (offset_small (day_start_of c.args.self.now) runs k covers place).1

pub overflow_sub-result : goal.overflow_sub-result
overflow_sub-result c =
    let covers : Covers (day_start_of c.args.self.now) calendar_end c.as_slice-runs.result.now =
    rw (c.as_slice-runs.ensures.value, ← c.self.view_is) c.self.invariant.starts in
    let runs = c.as_slice-runs.result.now in
    let k = c.run_on-place.result in
    let place : k < length runs = c.run_on-place.ensures.place in
    let more : k + 1 < length runs = c.if-place-runs.true in
    let next : to_z w32 (of_z w32 (first_at runs (k + 1))) ≡ first_at runs (k + 1) =
    to_z-of_z w32 (first_at runs (k + 1)) (first_fits (day_start_of c.args.self.now) runs (k + 1) covers more) in
    rw next (before_fits (day_start_of c.args.self.now) runs (k + 1) covers more)

pub returns-then-next-day : goal.returns-then-next-day
returns-then-next-day c =
    let start = day_start_of c.args.self.now in
    let runs = c.as_slice-runs.result.now in
    let k = c.run_on-place.result in
    let day = c.day_by-day.result in
    let covers : Covers start calendar_end runs = rw (c.as_slice-runs.ensures.value, ← c.self.view_is) c.self.invariant.starts in
    let f : Found start runs k c.args.at day = found start runs k c.args.at c.get.result c.get-2.result day covers c.run_on-place.ensures.place
    (record { sfits = c.get.type_inv }) c.get.ensures.value (record { sfits = c.get-2.type_inv }) c.get-2.ensures.value
    c.run_on-place.ensures.from c.run_on-place.ensures.until c.day_by-day.ensures.from c.day_by-day.ensures.until c.day_by-day.ensures.first c.day_by-day.ensures.last in
    let more : k + 1 < length runs = c.if-place-runs.true in
    let next : to_z w32 (of_z w32 (first_at runs (k + 1))) ≡ first_at runs (k + 1) =
    to_z-of_z w32 (first_at runs (k + 1)) (first_fits start runs (k + 1) covers more) in
    let before : to_z w32 (of_z w32 (first_at runs (k + 1) -ℤ pos 1)) ≡ first_at runs (k + 1) -ℤ pos 1 =
    to_z-of_z w32 (first_at runs (k + 1) -ℤ pos 1) (before_fits start runs (k + 1) covers more) in
    let past : first_at runs (k + 1) ≤ℤ day = omega (arith, signed_arith, rw (next, f.day_is) at c.if-next-day.true) in
    let is = day_by_next start runs k c.args.at day covers more (f.until more) f.low past in
    let holds : IsIn c.args.self.now (first_at runs (k + 1) -ℤ pos 1) c.args.at = record { from = is.0.0; until = is.0.1 } in
    record {
      zone = rw (← c.self.view_is) c.self.invariant.good;
      day = rw (next, before) is.1;
      holds = rw (next, before) holds;
    }

pub returns-else-next-day-clause-holds : goal.returns-else-next-day-clause-holds
returns-else-next-day-clause-holds c =
    let start = day_start_of c.args.self.now in
    let runs = c.as_slice-runs.result.now in
    let k = c.run_on-place.result in
    let day = c.day_by-day.result in
    let covers : Covers start calendar_end runs = rw (c.as_slice-runs.ensures.value, ← c.self.view_is) c.self.invariant.starts in
    let f : Found start runs k c.args.at day = found start runs k c.args.at c.get.result c.get-2.result day covers c.run_on-place.ensures.place
    (record { sfits = c.get.type_inv }) c.get.ensures.value (record { sfits = c.get-2.type_inv }) c.get-2.ensures.value
    c.run_on-place.ensures.from c.run_on-place.ensures.until c.day_by-day.ensures.from c.day_by-day.ensures.until c.day_by-day.ensures.first c.day_by-day.ensures.last in
    let more : k + 1 < length runs = c.if-place-runs.true in
    let next : to_z w32 (of_z w32 (first_at runs (k + 1))) ≡ first_at runs (k + 1) =
    to_z-of_z w32 (first_at runs (k + 1)) (first_fits start runs (k + 1) covers more) in
    let inside : day <ℤ first_at runs (k + 1) = omega (arith, signed_arith, rw (next, f.day_is) at c.if-next-day.false) in
    let is = day_by_run start runs k c.args.at day covers c.run_on-place.ensures.place f.from f.until f.low f.high c.day_by-day.ensures.last (λ _. inside) in
    let holds : IsIn c.args.self.now day c.args.at = record { from = is.0; until = is.1 } in
    rw f.day_is holds

pub returns-else-place-runs-clause-holds : goal.returns-else-place-runs-clause-holds
returns-else-place-runs-clause-holds c =
    let start = day_start_of c.args.self.now in
    let runs = c.as_slice-runs.result.now in
    let k = c.run_on-place.result in
    let day = c.day_by-day.result in
    let covers : Covers start calendar_end runs = rw (c.as_slice-runs.ensures.value, ← c.self.view_is) c.self.invariant.starts in
    let f : Found start runs k c.args.at day = found start runs k c.args.at c.get.result c.get-2.result day covers c.run_on-place.ensures.place
    (record { sfits = c.get.type_inv }) c.get.ensures.value (record { sfits = c.get-2.type_inv }) c.get-2.ensures.value
    c.run_on-place.ensures.from c.run_on-place.ensures.until c.day_by-day.ensures.from c.day_by-day.ensures.until c.day_by-day.ensures.first c.day_by-day.ensures.last in
    let none : length runs ≤ k + 1 = c.if-place-runs.false in
    let is = day_by_run start runs k c.args.at day covers c.run_on-place.ensures.place f.from f.until f.low f.high c.day_by-day.ensures.last
    (λ more. absurd (omega arith)) in
    let holds : IsIn c.args.self.now day c.args.at = record { from = is.0; until = is.1 } in
    rw f.day_is holds
