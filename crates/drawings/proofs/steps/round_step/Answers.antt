use Rattle.std.proofs.Common.{◌≡◌, ◌∙◌, ap, ℤ, to_z, of_z, arith}
use Rattle.std.specs.Int.{w64}
use Rattle.std.specs.Prelude.{unwrap_or}
use Rattle.std.proofs.lemmas.Int.{ints}
use Rattle.drawings.specs.Ranges.{first_step, greatest_step, round_step}
use Rattle.drawings.specs.declared.steps.TheConstants.{STEPS}
use Rattle.drawings.proofs.StepLemmas.{round_step_bounded}
use Rattle.drawings.proofs.steps.round_step.Goals as goal

pub returns-clause-value : goal.returns-clause-value
unfolding round_step
returns-clause-value c =
    let same : to_z w64 (of_z w64 c.first_or_greatest.result) ≡ c.first_or_greatest.result = omega (arith, ints) in
    let length : to_z w64 (of_z w64 c.args.length) ≡ c.args.length = omega (arith, ints) in
    let value : c.first_or_greatest.result ≡ unwrap_or (first_step STEPS (to_z w64 (of_z w64 c.args.length))) greatest_step = c.first_or_greatest.ensures in
    same ∙ value ∙ ap (λ (n : ℤ). unwrap_or (first_step STEPS n) greatest_step) length

pub returns-clause-bounded : goal.returns-clause-bounded
returns-clause-bounded c = round_step_bounded (to_z w64 (of_z w64 c.first_or_greatest.result)) c.args.length (returns-clause-value c)
