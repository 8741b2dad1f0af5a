-- None is used from the one end on where none is from the other.
use Rattle.std.specs.Prelude.{option_map, find, reverse}
use Rattle.std.proofs.Common.{ap, sym, ◌∙◌}
use Rattle.fixed_units.specs.declared.readings.Reading.{Reading}
use Rattle.readings.specs.Readings.{is_used}
use Rattle.readings.proofs.Selecting.{none_back, none_front}
use Rattle.readings.proofs.lists.Readings.used_ends.Goals as goal

pub returns-in_err-first-clause-last : goal.returns-in_err-first-clause-last
returns-in_err-first-clause-last c =
    ap (option_map {T = Reading × Reading} {U = Reading} (λ ends. ends.1)) c.from_residual.ensures
    ∙ sym (none_back is_used c.args.self.now.list (ap (find is_used) (sym c.halves-all.ensures.list) ∙ sym c.in_err-first.ensures))

pub returns-in_err-last-clause-first : goal.returns-in_err-last-clause-first
returns-in_err-last-clause-first c =
    ap (option_map {T = Reading × Reading} {U = Reading} (λ ends. ends.0)) c.from_residual-in_err-last.ensures
    ∙ sym (none_front is_used c.args.self.now.list (ap (λ l. find is_used (reverse l)) (sym c.halves-all.ensures.list) ∙ sym c.in_err-last.ensures))
