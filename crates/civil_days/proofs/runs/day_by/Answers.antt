use Rattle.std.proofs.Common.{◌≡◌, ℤ, pos, neg_ℤ, ◌+ℤ◌, ◌*ℤ◌, ◌≤ℤ◌, ◌<ℤ◌, arith, FitsSigned, to_z, of_z, w32, w64}
use Rattle.std.specs.Int.{int_div_euclid}
use Rattle.std.proofs.lemmas.Int.{to_z-of_z}
use Rattle.jiff.proofs.SpanFacts.{signed_arith}
use Rattle.fixed_units.specs.Quantities.{IsStamp, first_day, last_day}
use Rattle.civil_days.specs.Starts.{most_offset}
use Rattle.civil_days.proofs.runs.day_by.Goals as goal
use Rattle.civil_days.proofs.runs.day_by.Goals.{After-div_euclid}

-- the wall clock's second, without its bits
wall : (offset at from : ℤ) → FitsSigned w32 offset → FitsSigned w64 at → IsStamp at → neg_ℤ (pos most_offset) ≤ℤ offset → offset ≤ℤ pos most_offset
    → from ≡ to_z w32 (of_z w32 offset) → to_z w64 (of_z w64 at) +ℤ to_z w64 (of_z w64 from) ≡ at +ℤ offset
wall offset at from offset_fits at_fits stamp low high e =
    let wide : FitsSigned w64 offset = omega (arith, signed_arith) in
    rw (e, to_z-of_z w32 offset offset_fits, to_z-of_z w64 offset wide, to_z-of_z w64 at at_fits)

wall_fits : (offset at : ℤ) → IsStamp at → neg_ℤ (pos most_offset) ≤ℤ offset → offset ≤ℤ pos most_offset → FitsSigned w64 (at +ℤ offset)
wall_fits offset at stamp low high = omega (arith, signed_arith)

-- the day of a second of the wall clock
record IsDayOf (offset at day : ℤ) : Type 0 where
  narrow : FitsSigned w32 (to_z w64 (of_z w64 day))
  same : to_z w32 (of_z w32 (to_z w64 (of_z w64 day))) ≡ day
  from : (day *ℤ pos 86_400) ≤ℤ (at +ℤ offset)
  until : (at +ℤ offset) <ℤ ((day +ℤ pos 1) *ℤ pos 86_400)
  first : first_day ≤ℤ day
  last : day <ℤ last_day

day_of : (offset at day : ℤ) → IsStamp at → neg_ℤ (pos most_offset) ≤ℤ offset → offset ≤ℤ pos most_offset
    → day ≡ int_div_euclid (at +ℤ offset) (pos 86_400) → IsDayOf offset at day
day_of offset at day stamp low high e =
    let from : (day *ℤ pos 86_400) ≤ℤ (at +ℤ offset) = omega (arith, signed_arith) in
    let until : (at +ℤ offset) <ℤ ((day +ℤ pos 1) *ℤ pos 86_400) = omega (arith, signed_arith) in
    let first : first_day ≤ℤ day = omega (arith, signed_arith) in
    let last : day <ℤ last_day = omega (arith, signed_arith) in
    let wide : FitsSigned w64 day = omega (arith, signed_arith) in
    let narrow : FitsSigned w32 day = omega (arith, signed_arith) in
    record {
      narrow = rw (to_z-of_z w64 day wide) narrow;
      same = rw (to_z-of_z w64 day wide) (to_z-of_z w32 day narrow);
      from = from;
      until = until;
      first = first;
      last = last;
    }

found : (c : After-div_euclid) → IsDayOf c.args.offset c.args.at c.div_euclid.result
found c =
    let offset = c.args.offset in
    let at = c.args.at in
    let sum = wall offset at c.from.result c.ranges.offset c.ranges.at c.requires.stamp c.requires.low c.requires.high c.from.ensures in
    let fits = wall_fits offset at c.requires.stamp c.requires.low c.requires.high in
    let day = rw (sum, to_z-of_z w64 (at +ℤ offset) fits) at c.div_euclid.ensures in
    day_of offset at c.div_euclid.result c.requires.stamp c.requires.low c.requires.high day

pub overflow_add-at : goal.overflow_add-at
overflow_add-at c =
    rw (wall c.args.offset c.args.at c.from.result c.ranges.offset c.ranges.at c.requires.stamp c.requires.low c.requires.high c.from.ensures)
    (wall_fits c.args.offset c.args.at c.requires.stamp c.requires.low c.requires.high)

pub overflow_cast-result : goal.overflow_cast-result
overflow_cast-result c = (found c).narrow

pub returns-clause-from : goal.returns-clause-from
returns-clause-from c = rw (found c).same (found c).from

pub returns-clause-until : goal.returns-clause-until
returns-clause-until c = rw (found c).same (found c).until

pub returns-clause-first : goal.returns-clause-first
returns-clause-first c = rw (found c).same (found c).first

pub returns-clause-last : goal.returns-clause-last
returns-clause-last c = rw (found c).same (found c).last
