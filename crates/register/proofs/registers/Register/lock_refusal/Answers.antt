-- The statuses that are kept tell the first approved day that the edit changes.
use Rattle.std.specs.Prelude.{option_map}
use Rattle.std.proofs.Common.{refl, ap, sym, ◌∙◌}
use Rattle.office_inputs.specs.declared.refusals.Refusal.TheVariants.{Locked}
use Rattle.register.proofs.SameStatusLemmas.{locked_seen}
use Rattle.register.proofs.registers.Register.lock_refusal.Goals as goal

pub returns-in_err-day : goal.returns-in_err-day
returns-in_err-day c =
    let told =
    locked_seen _ c.args.self.now c.self.view_is c.self.invariant.statuses_tell c.args.edit.now c.args.edit.now refl c.args.days.now c.requires c.locked.result
    c.locked.ensures in
    rw c.from_residual.ensures (sym (ap (option_map Locked) (sym told ∙ c.in_err-day.was)))

pub returns : goal.returns
returns c =
    let told =
    locked_seen _ c.args.self.now c.self.view_is c.self.invariant.statuses_tell c.args.edit.now c.args.edit.now refl c.args.days.now c.requires c.locked.result
    c.locked.ensures in
    sym (ap (option_map Locked) (sym told ∙ c.in_ok-day.was))
