-- Day after day is asked, along with the standings from it on.
use Rattle.std.specs.Prelude.{◌≡◌, ◌≤ℤ◌, ℤ, pos, ◌+ℤ◌, Bool, Option, Some}
use Rattle.std.proofs.Common.{arith, to_z, of_z, w32, ap, sym, ◌∙◌}
use Rattle.std.proofs.lemmas.Int.{ints}
use Rattle.fixed_units.specs.Quantities.{IsDay}
use Rattle.approval.specs.Kept.{day_place, standing_at, standing_of}
use Rattle.approval.specs.Questions.{holds}
use Rattle.approval.specs.declared.days.DayStanding.{DayStanding}
use Rattle.approval.specs.declared.questions.Question.{Question}
use Rattle.approval.proofs.DayLemmas.{found_there, from_again, from_rises, later_ones}
use Rattle.approval.proofs.FirstDays.{first_passes, first_skipped, none_left}
use Rattle.approval.proofs.day_lists.first_in_span.Goals as goal

abbrev answer : Question → Option DayStanding → Bool
answer question standing = holds question (standing_of standing).status

pub parted-requires-clause-rising : goal.parted-requires-clause-rising
parted-requires-clause-rising c = from_rises day_place (to_z w32 c.loop-number.number-bits) c.args.list.now c.loop-number.rest.now c.requires.rising c.loop-number.invariant.rest

pub parted-requires-clause-from : goal.parted-requires-clause-from
parted-requires-clause-from c =
    rw c.day_of-day.ensures (from_again day_place (to_z w32 c.loop-number.number-bits) c.args.list.now c.loop-number.rest.now c.loop-number.invariant.rest)

pub returns-then-holds : goal.returns-then-holds
returns-then-holds c =
    let number : ℤ = to_z w32 c.loop-number.number-bits in
    let first = c.get-number.ensures.range.low in
    let last = c.get-number-end.ensures.range.high in
    let low = c.loop-number.invariant.low in
    let within : number ≤ℤ c.args.to = omega (arith, ints, c.loop-number-test.true) in
    let day : IsDay number = record { low = omega (arith, ints); high = omega (arith, ints) } in
    let here = rw c.day_of-day.ensures at c.parted.ensures.here in
    let told : c.holds.result ≡ holds c.args.question (standing_at c.args.list.now number).status =
    c.holds.ensures ∙ ap (answer c.args.question) (here ∙ found_there day_place number c.args.list.now c.loop-number.rest.now c.loop-number.invariant.rest) in
    ap Some c.day_of-day.ensures
    ∙ sym (c.loop-number.invariant.none
    ∙ first_passes (λ d. holds c.args.question (standing_at c.args.list.now d).status) number c.args.to day within (sym told ∙ c.if-holds.true))

pub loop-number-preserved : goal.loop-number-preserved
loop-number-preserved c =
    let number : ℤ = to_z w32 c.loop-number.number-bits in
    let first = c.get-number.ensures.range.low in
    let last = c.get-number-end.ensures.range.high in
    let low = c.loop-number.invariant.low in
    let within : number ≤ℤ c.args.to = omega (arith, ints, c.loop-number-test.true) in
    let next : to_z w32 (of_z w32 (number +ℤ pos 1)) ≡ number +ℤ pos 1 = omega (arith, ints) in
    let here = rw c.day_of-day.ensures at c.parted.ensures.here in
    let later = rw c.day_of-day.ensures at c.parted.ensures.later in
    let told : c.holds.result ≡ holds c.args.question (standing_at c.args.list.now number).status =
    c.holds.ensures ∙ ap (answer c.args.question) (here ∙ found_there day_place number c.args.list.now c.loop-number.rest.now c.loop-number.invariant.rest) in
    record {
      low = omega (arith, ints);
      high = omega (arith, ints);
      rest = later_ones day_place number _ c.args.list.now c.loop-number.rest.now c.parted.result.1.now next c.loop-number.invariant.rest later;
      none =
          c.loop-number.invariant.none
          ∙ first_skipped (λ d. holds c.args.question (standing_at c.args.list.now d).status) number _ c.args.to next (sym told ∙ c.if-holds.false);
    }

pub returns : goal.returns
returns c =
    let number : ℤ = to_z w32 c.loop-number.number-bits in
    let first = c.get-number.ensures.range.low in
    let last = c.get-number-end.ensures.range.high in
    sym (c.loop-number.invariant.none
    ∙ none_left (λ d. holds c.args.question (standing_at c.args.list.now d).status) number c.args.to (omega (arith, ints, c.loop-number-test.false)))
