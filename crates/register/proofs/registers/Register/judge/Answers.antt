-- The accepted edit that the reference names tells whether it comes again.
use Rattle.std.specs.Prelude.{None}
use Rattle.std.proofs.Common.{sym, ◌∙◌}
use Rattle.register.proofs.KnownLemmas.{is_again, named_as}
use Rattle.register.proofs.registers.Register.judge.Goals as goal

pub returns-in-Some-clause-verdict : goal.returns-in-Some-clause-verdict
returns-in-Some-clause-verdict g c =
    c.judge_again.ensures.verdict
    ∙ sym (is_again _ c.named.result c.args.self.now.history c.args.edit c.as_slice.result.now c.as_slice.ensures.codes c.named.ensures
    (c.in-Some.number, c.in-Some.other) c.in-Some.is)

pub judge_new-requires : goal.judge_new-requires
judge_new-requires g c =
    named_as _ c.named.result c.args.self.now.history c.args.edit c.as_slice.result.now c.as_slice.ensures.codes c.named.ensures None c.in_default.is

pub returns-in-Some-clause-place : goal.returns-in-Some-clause-place
returns-in-Some-clause-place g c = c.judge_again.ensures.place c.args.self.now.history
