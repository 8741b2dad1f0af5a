-- What was read whole is the input.
use Rattle.std.proofs.Common.{List, ℕ, subst}
use Rattle.logger_files.specs.Bringing.{IsBrought}
use Rattle.bring.proofs.RunLemmas.{brought_of_input}
use Rattle.bring.proofs.runs.brought_of.Goals as goal

pub returns-in-Ok-clause-brought : goal.returns-in-Ok-clause-brought
returns-in-Ok-clause-brought g c =
    brought_of_input c.args.profile.now (g.S.Source.left c.args.source.now) (g.S.Source.left c.read_whole.new.source) c.in_ok-text.text c.in-Ok.brought
    c.in_ok-text.ensures.whole (subst (λ (t : List ℕ). IsBrought c.args.profile.now t c.in-Ok.brought) c.as_slice.ensures c.in-Ok.ensures.brought)
