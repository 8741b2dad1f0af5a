-- The verdict of an edit that only a lock or want of room may refuse: its record is that of the edit.
use Rattle.std.specs.Prelude.{◌≡◌, None}
use Rattle.std.proofs.Common.{sym, subst, ◌∙◌}
use Rattle.records.specs.Sheets.{Record}
use Rattle.register.specs.Asked.{refused_before_days}
use Rattle.history.specs.Verdicts.{refused_as_locked}
use Rattle.register.proofs.JudgedLemmas.{is_locked_out, not_as_awaiting}
use Rattle.register.proofs.registers.Register.judge_changed.Goals as goal

pub returns-in-Some-clause-verdict : goal.returns-in-Some-clause-verdict
returns-in-Some-clause-verdict c =
    sym (is_locked_out c.args.self.now.history c.args.edit c.requires.new c.requires.before c.in-Some.refusal (sym c.lock_refusal.ensures ∙ c.in-Some.is))

pub record_of-requires : goal.record_of-requires
record_of-requires c = not_as_awaiting c.args.self.now.history c.args.edit c.requires.before

pub judge_record-requires-clause-before : goal.judge_record-requires-clause-before
judge_record-requires-clause-before c =
    subst (λ (p : Record). refused_before_days c.args.self.now.history p.edit ≡ None) (sym c.in_ok-piece.ensures) c.requires.before

pub judge_record-requires-clause-unlocked : goal.judge_record-requires-clause-unlocked
judge_record-requires-clause-unlocked c =
    subst (λ (p : Record). refused_as_locked c.args.self.now.history p.edit ≡ None) (sym c.in_ok-piece.ensures) (sym c.lock_refusal.ensures ∙ c.in_default.is)
