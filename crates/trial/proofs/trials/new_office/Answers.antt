use Rattle.std.proofs.Common.{◌≡◌, ◌∙◌, None, length, arith, refl, sym}
use Rattle.office_inputs.specs.Usual.{usual}
use Rattle.records.specs.declared.formats.Format.TheVariants.{Second}
use Rattle.trial.proofs.OpeningLemmas.{new_history}
use Rattle.trial.proofs.trials.new_office.Goals as goal

pub returns-in-Second : goal.returns-in-Second
returns-in-Second c =
    let history = c.in_ok-office.office.register.history in
    let none : length history.events ≡ 0 = omega (arith, c.if-events-gt0.false, c.events.ensures) in
    let format : history.format ≡ Second = sym c.format.ensures ∙ c.in-Second.is in
    new_history None usual c.in_ok-office.office.register refl none format c.in_ok-office.ensures
