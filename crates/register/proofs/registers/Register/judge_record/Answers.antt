-- Nothing but want of room may refuse it.
use Rattle.std.specs.Prelude.{Some, None}
use Rattle.std.proofs.Common.{sym, ◌∙◌}
use Rattle.register.proofs.JudgedLemmas.{is_judged, not_by_stations}
use Rattle.register.proofs.registers.Register.judge_record.Goals as goal

pub lacks_room-requires-clause-lawful : goal.lacks_room-requires-clause-lawful
lacks_room-requires-clause-lawful c = not_by_stations c.args.self.now.history c.args.piece.edit c.requires.before

pub returns-in-Some-clause-verdict : goal.returns-in-Some-clause-verdict
returns-in-Some-clause-verdict c =
    sym (is_judged c.args.self.now.history c.args.piece.edit c.requires.new c.requires.before c.requires.unlocked (Some c.in-Some.refusal)
    (sym c.lacks_room.ensures ∙ c.in-Some.is))

pub returns-in-None-clause-verdict : goal.returns-in-None-clause-verdict
returns-in-None-clause-verdict c =
    sym (is_judged c.args.self.now.history c.args.piece.edit c.requires.new c.requires.before c.requires.unlocked None (sym c.lacks_room.ensures ∙ c.in-None.is))
