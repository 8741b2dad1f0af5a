-- Of no edit all that is kept is empty.
use Rattle.register.proofs.KeepsLemmas.{keeps_empty}
use Rattle.register.proofs.registers.Register.new.Goals as goal

pub invariant_of-result : goal.invariant_of-result
invariant_of-result c =
    keeps_empty c.args.format c.new.result c.new-2.result c.new-3.result c.new-4.result _ c.new-6.result c.new-5.result.items c.new.ensures.stations c.new-2.ensures c.new-3.ensures c.new-4.ensures c.new-6.ensures c.new-5.ensures.items
