use Rattle.std.proofs.lemmas.Result.{on_ok_weaker}
use Rattle.sheets.proofs.SizeLemmas.{micro-few}
use Rattle.sheets.proofs.parts.write_amount.Goals as goal

pub returns-clause-size : goal.returns-clause-size
returns-clause-size c = on_ok_weaker c.write_micro.result (λ told. micro-few c.args.amount c.get-millionths.ensures.range) c.write_micro.ensures.ok
