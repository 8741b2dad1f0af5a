-- The discharge is that between the neighbours.
use Rattle.std.proofs.Common.{◌≡◌, ◌∙◌, ℕ, suc, ◌+◌, drop, Some, refl, ap, sym, ℤ, Option, arith}
use Rattle.std.specs.Prelude.{None}
use Rattle.rising.proofs.Selecting.{slice_get_at}
use Rattle.midsection.specs.Midsection.{discharge_between, last_distance, next_distance}
use Rattle.midsection.proofs.DischargeLemmas.{discharge_at}
use Rattle.midsection.proofs.discharges.discharge_among.Goals as goal

pub returns-clause-value : goal.returns-clause-value
returns-clause-value c =
    let all = c.args.verticals.now in
    let v = c.index-verticals-place.result in
    let place : c.args.place + 1 ≡ suc c.args.place = omega arith in
    let after = c.distance_after-after.ensures.value ∙ ap (λ (n : ℕ). next_distance (drop n all)) place in
    discharge_at None all c.args.place v (slice_get_at all c.args.place v c.requires.place (sym c.index-verticals-place.is))
    ∙ ap (λ (q : ℤ). Some q) (sym (c.discharge_between.ensures.value ∙ rw (c.distance_before-before.ensures.value, after) refl))
