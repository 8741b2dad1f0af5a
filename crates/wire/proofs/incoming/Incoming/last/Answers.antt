use Rattle.std.proofs.Common.{sym, ap, ◌∙◌}
use Rattle.wire.specs.Incoming.{Held}
use Rattle.wire.specs.Messages.{is_blank}
use Rattle.wire.proofs.HeadLemmas.{malformed_no_head}
use Rattle.wire.proofs.incoming.Incoming.last.Goals as goal

pub returns-else-is_blank-clause-answer : goal.returns-else-is_blank-clause-answer
returns-else-is_blank-clause-answer c = (
  malformed_no_head c.args.self.now.ahead
      (ap is_blank (sym c.held.ensures.held) ∙ sym c.if-is_blank.ensures) c.requires.none,
  ap (λ (h : Held). h.offset) c.self.view_is,
)
