-- The inputs of a day where the estimates of its station are changed: an estimate bears on its own day alone.
use Rattle.std.specs.Prelude.{◌≡◌, ◌≢◌, ◌||◌, Bool, true, false, not, List, Option, Some, None, option_map, ℤ}
use Rattle.std.specs.Ordering.{int_eq}
use Rattle.std.proofs.Common.{refl, ap, sym, subst, ◌∙◌}
use Rattle.std.proofs.lemmas.Bool.Decides.{Decides-int_eq}
use Rattle.rising.specs.Lists as lists
use Rattle.rising.proofs.Placing.{at_put, at_put_other, at_without_same, at_without}
use Rattle.edits.specs.declared.estimates.Estimate.{Estimate}
use Rattle.day_inputs.specs.Equality.{same_estimate, same_inputs}
use Rattle.day_inputs.proofs.EqualityLemmas.{estimates_decide}
use Rattle.station_inputs.specs.Stations.{StationState, estimated_day, estimated_discharge, station_day, with_estimates}
use Rattle.station_inputs.proofs.StationLemmas.{estimates_told}

-- what is estimated of a day after a change of the estimate of some day
abbrev IsEstimated : StationState → (List Estimate → List Estimate) → ℤ → Option ℤ → ℤ → Type 0
IsEstimated s change own discharge day =
    (own ≡ day → estimated_discharge (with_estimates change s) day ≡ discharge)
    × (own ≢ day → estimated_discharge (with_estimates change s) day ≡ estimated_discharge s day)

own_step : (own day : ℤ) (old new discharge : Option ℤ) (same : Bool) → int_eq own day ≡ same → (own ≡ day → new ≡ discharge) → (own ≢ day → new ≡ old)
    → (not same || same_estimate old discharge) ≡ same_estimate old new
own_step own day old new discharge true e there else = ap (same_estimate old) (sym (there ((Decides-int_eq own day).0 e)))
own_step own day old new discharge false e there else =
    let k = else (λ f. absurd (let t = (Decides-int_eq own day).1 f in cc)) in
    sym (ap (same_estimate old) k ∙ (estimates_decide old old).1 refl)

changed_told : (s : StationState) (change : List Estimate → List Estimate) (own day : ℤ) (discharge : Option ℤ) → IsEstimated s change own discharge day
    → (not (int_eq own day) || same_estimate (estimated_discharge s day) discharge) ≡ same_inputs (station_day s day) (station_day (with_estimates change s) day)
changed_told s change own day discharge h =
    own_step own day (estimated_discharge s day) (estimated_discharge (with_estimates change s) day) discharge (int_eq own day) refl h.0 h.1
    ∙ estimates_told s day change

abbrev discharge_of : Option Estimate → Option ℤ
discharge_of found = option_map (λ (e : Estimate). e.discharge) found

-- an estimate that is put
pub put_told : (s : StationState) (estimate : Estimate) (day : ℤ)
    → (not (int_eq estimate.day day) || same_estimate (estimated_discharge s day) (Some estimate.discharge))
    ≡ same_inputs (station_day s day) (station_day (with_estimates (lists.put estimated_day estimate) s) day)
put_told s estimate day =
    changed_told s (lists.put estimated_day estimate) estimate.day day (Some estimate.discharge) (
      λ e. subst (λ (d : ℤ). discharge_of (lists.at estimated_day d (lists.put estimated_day estimate s.estimates)) ≡ Some estimate.discharge) e
          (ap discharge_of (at_put estimated_day estimate s.estimates)),
      λ n. ap discharge_of (at_put_other estimated_day estimate day s.estimates n),
    )

-- one that is taken out
pub drop_told : (s : StationState) (own day : ℤ)
    → (not (int_eq own day) || same_estimate (estimated_discharge s day) None) ≡ same_inputs (station_day s day) (station_day (with_estimates (lists.without estimated_day own) s) day)
drop_told s own day =
    changed_told s (lists.without estimated_day own) own day None (
      λ e. subst (λ (d : ℤ). discharge_of (lists.at estimated_day d (lists.without estimated_day own s.estimates)) ≡ None) e
          (ap discharge_of (at_without_same estimated_day own s.estimates)),
      λ n. ap discharge_of (at_without estimated_day own day s.estimates n),
    )
