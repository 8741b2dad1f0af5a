-- The last of those before a place stands before it.
use Rattle.std.proofs.Common.{◌≡◌, ◌∙◌, ℕ, suc, take, ap, sym, arith}
use Rattle.std.specs.Prelude.{None}
use Rattle.rising.proofs.Selecting.{slice_get_at}
use Rattle.midsection.specs.Midsection.{last_distance}
use Rattle.midsection.proofs.DischargeLemmas.{last_before}
use Rattle.midsection.proofs.discharges.distance_before.Goals as goal

pub returns-clause-value : goal.returns-clause-value
returns-clause-value c =
    let told = c.in_ok-previous.ensures in
    let place : suc c.in_ok-previous.previous ≡ c.args.place = omega (arith, told.0, told.1) in
    let within = c.requires.place in
    sym (ap (λ (n : ℕ). last_distance None (take n c.args.verticals.now)) (sym place)
    ∙ last_before None c.args.verticals.now c.in_ok-previous.previous c.index-verticals-previous.result
    (slice_get_at c.args.verticals.now c.in_ok-previous.previous c.index-verticals-previous.result (omega (arith, place, within)) (sym c.index-verticals-previous.is)))
